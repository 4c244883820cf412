-- `Job::span` meets its contract.
use Rattle.std.proofs.Common.{sym, ◌∙◌, arith}
use Rattle.index.specs.Checks.{span_of}
use Rattle.index.proofs.CheckLaws.{next_few}
use Rattle.index.proofs.Job.span.Goals as goal

pub overflow_add-k : goal.overflow_add-k
overflow_add-k c = omega (arith, next_few _ _ (sym c.is_last.ensures ∙ c.if-is_last.false))

pub returns-then-is_last : goal.returns-then-is_last
unfolding span_of
returns-then-is_last c = rw (c.first_word-from.ensures, c.width_of-to.ensures) (simp (sym c.is_last.ensures ∙ c.if-is_last.true))

pub returns-else-is_last : goal.returns-else-is_last
unfolding span_of
returns-else-is_last c = rw (c.first_word-from.ensures, c.first_word-to.ensures) (simp (sym c.is_last.ensures ∙ c.if-is_last.false))
