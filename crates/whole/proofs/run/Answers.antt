-- A refused opening is the answer; else the calls are the run.
use Rattle.std.proofs.Common.{ℕ, List, ◌≡◌, rules, subst}
use Rattle.index.specs.declared.Job.{Job}
use Rattle.runs.specs.Runs.{run}
use Rattle.runs.specs.Whole.{held}
use Rattle.std.proofs.lemmas.List.{take_rest}
use Rattle.whole.specs.Calls.{calls_of}
use Rattle.whole.proofs.Jobs.{refused_whole, closed_whole}
use Rattle.whole.proofs.run.Goals as goal

-- the calls that were made are these. (Said of a list that equals them, so that a part of them is refused for the calls that it leaves out.)
made : (text calls before words : List ℕ) (j h : Job) {xs : List ℕ} → held j before ≡ run text (calls_of xs) (held h words) → xs ≡ calls → held j before ≡ run text (calls_of calls) (held h words)
made text calls before words j h e same = subst (λ (ys : List ℕ). held j before ≡ run text (calls_of ys) (held h words)) same e

pub returns-in_default : goal.returns-in_default
returns-in_default c = let a = c.args in
    let o = c.open-opened in
    let all = refused_whole a.text.now a.words.now a.levels a.cuts.now (calls_of a.calls.now) o.result o.ensures c.in_default.not-Done in
    record { value = all.0; words_after = all.1 }

pub returns : goal.returns
returns c = let a = c.args in
    let o = c.open-opened in
    let all = closed_whole a.text.now a.words.now a.levels a.cuts.now (calls_of a.calls.now) o.result o.ensures c.in-Done.is
    _ _ _ c.close.result (made a.text.now a.calls.now _ _ _ _ c.make_calls-stepped.ensures (search (rules, take_rest a.calls.now 0))) c.close.ensures in
    record { value = all.0; words_after = all.1 }
