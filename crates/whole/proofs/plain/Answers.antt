-- A refused opening is the answer; else the scans and what follows them are the run.
use Prim.Native.Nat.{◌+◌}
use mathlib.Core.Path.{sym, ap, ◌∙◌}
use lib.ListN.{length}
use Rattle.runs.specs.Runs.{run}
use Rattle.runs.specs.Whole.{held, scans, finishes, plainly}
use Rattle.runs.proofs.Progress.{run_append}
use Rattle.whole.proofs.Jobs.{refused_whole, closed_whole}
use Rattle.whole.proofs.plain.Goals as goal

pub returns-in_default : goal.returns-in_default
returns-in_default c = let a = c.args in
    let o = c.open-opened in
    let all = refused_whole a.text.now a.words.now a.levels a.cuts.now (plainly (length a.cuts.now + 1)) o.result o.ensures c.in_default.not-Done in
    record { value = all.0; words_after = all.1 }

pub returns : goal.returns
returns c = let a = c.args in
    let o = c.open-opened in
    let m = length a.cuts.now + 1 in
    let all = closed_whole a.text.now a.words.now a.levels a.cuts.now (plainly m) o.result o.ensures c.in-Done.is
    _ _ _ c.close.result
    (c.finish_all-finished.ensures ∙ ap (run a.text.now (finishes 0 m)) c.scan_all-scanned.ensures
    ∙ sym (run_append a.text.now (scans m) (finishes 0 m) (held o.result.job a.words.now)))
    c.close.ensures in
    record { value = all.0; words_after = all.1 }
