-- Both loops keep where the walk over the items stands: on to the next word, and out of it.
use mathlib.Core.Path.{sym, ap, ◌∙◌}
use native.Mathlib.Omega.{arith}
use Rattle.std.specs.Prelude.{Ok}
use Rattle.query.proofs.Standing.{standing_whole}
use Rattle.query.proofs.Walking.{walking_out, walking_end, walking_found, walking_broken, walking_word}
use Rattle.query.proofs.bits.Lent.find_name.Goals as goal

pub returns-in-Err : goal.returns-in-Err
returns-in-Err c = sym (walking_broken _ _ _ _ _ _ _ _ c.loop-x.invariant c.loop-x-test.true c.if-hi-comma.false (sym c.item_of-in-loop-x.ensures ∙ c.in-Err.is))

pub walk-preserved : goal.walk-preserved
walk-preserved c = walking_word _ _ _ _ _ _ _ _ c.loop-x.invariant _ c.loop-x-test.false c.if-hi-at.false (standing_whole _ _ _ _ _ _ c.word-x.ensures c.word-x.type_inv)

pub returns-then-hi-comma : goal.returns-then-hi-comma
returns-then-hi-comma c = c.item_of.ensures ∙ sym (walking_out _ _ _ _ _ _ _ _ c.loop-x.invariant c.loop-x-test.true c.if-hi-comma.true)

pub returns-in-Ok-Some : goal.returns-in-Ok-Some
returns-in-Ok-Some c = sym (walking_found _ _ _ _ _ _ _ _ c.loop-x.invariant c.loop-x-test.true c.if-hi-comma.false (sym c.item_of-in-loop-x.ensures ∙ c.in-Ok-Some.is ∙ ap Ok c.in-Ok-Some.field-0-is))

pub returns-then-hi-at : goal.returns-then-hi-at
returns-then-hi-at c = c.item_of-then-hi-at.ensures ∙ sym (walking_end _ _ _ _ _ _ _ _ c.loop-x.invariant c.loop-x-test.false (omega arith))
