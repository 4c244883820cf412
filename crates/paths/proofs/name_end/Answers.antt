-- The loop keeps where the run ends.
use mathlib.Core.Path.{◌≡◌, sym, ap, ◌∙◌}
use mathlib.Core.Bool.{not}
use native.Mathlib.Omega.{arith}
use lib.ListN.{length, get_or}
use Rattle.paths.specs.Path.{is_tail}
use Rattle.paths.proofs.PlaceLaws.{first_none, first_here, first_next}
use Rattle.paths.proofs.name_end.Goals as goal

pub returns-then-not-is_tail : goal.returns-then-not-is_tail
returns-then-not-is_tail c = sym (c.loop-i.invariant ∙ first_here _ _ _ (omega arith) (ap not (sym c.is_tail.ensures ∙ c.if-not-is_tail.true)))

pub loop-i-preserved : goal.loop-i-preserved
loop-i-preserved c = c.loop-i.invariant ∙ first_next _ _ _ (omega arith) (ap not (sym c.is_tail.ensures ∙ c.if-not-is_tail.false))

pub returns : goal.returns
returns c = let a = c.args in
    let z = first_none (λ k. not (is_tail (get_or a.path.now k 0))) c.loop-i.i (length a.path.now) (omega arith) in
    let e : c.loop-i.i ≡ length a.path.now = omega arith in
    sym (c.loop-i.invariant ∙ z ∙ e)
