-- `Job::close` meets its contract: its answer says what it hands back and leaves.
use Rattle.std.proofs.Common.{length, sym, ◌∙◌}
use Rattle.index.specs.declared.Answer.TheVariants.{Done, Refused, Faulty}
use Rattle.index.proofs.CloseLaws.{close_is}
use Rattle.index.proofs.Job.close.Goals as goal

pub returns-in-Refused : goal.returns-in-Refused
returns-in-Refused c = let a = c.args in
    let d = close_is a.self (length a.text.now) a.words.now (Refused c.in-Refused.why) (sym c.close_answer-answer.ensures ∙ c.in-Refused.is) in
    record { hands = c.refused.ensures ∙ d.0; leaves = d.1 }

pub returns-in-Faulty : goal.returns-in-Faulty
returns-in-Faulty c = let a = c.args in
    let d = close_is a.self (length a.text.now) a.words.now (Faulty c.in-Faulty.field-0) (sym c.close_answer-answer.ensures ∙ c.in-Faulty.is) in
    record { hands = rw (c.in-Faulty.is, c.with_state.ensures) d.0; leaves = c.zero_words.ensures ∙ d.1 }

pub returns-in-Done : goal.returns-in-Done
returns-in-Done c = let a = c.args in
    let d = close_is a.self (length a.text.now) a.words.now Done (sym c.close_answer-answer.ensures ∙ c.in-Done.is) in
    record { hands = rw (c.in-Done.is, c.with_state-in-Done.ensures) d.0; leaves = d.1 }
