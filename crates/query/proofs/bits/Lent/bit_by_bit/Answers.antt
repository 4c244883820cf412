-- The loop keeps that the place with the number left, from there on, is the one asked for.
use Prim.Native.Nat.{◌+◌, ◌-◌}
use mathlib.Core.Path.{◌≡◌, sym, ◌∙◌}
use native.Mathlib.Omega.{arith}
use Rattle.paths.proofs.PlaceLaws.{nth_after, nth_past, nth_first}
use Rattle.query.proofs.bits.Lent.bit_by_bit.Goals as goal

pub loop-init : goal.loop-init
loop-init c = (omega arith, let z : c.args.number - 0 ≡ c.args.number = omega arith in rw z)

pub returns-then-e-p : goal.returns-then-e-p
returns-then-e-p c = sym (c.loop.invariant.1 ∙ nth_past _ _ _ _ _ (omega arith) (sym c.next_bit-p.ensures) c.if-e-p.true)

pub loop-preserved : goal.loop-preserved
loop-preserved c =
    let q : c.args.number - (c.loop.counter + 1) ≡ c.args.number - c.loop.counter - 1 = omega arith in
    (omega arith, c.loop.invariant.1 ∙ rw q (nth_after _ _ _ _ _ (omega arith) (sym c.next_bit-p.ensures) c.if-e-p.false))

pub returns : goal.returns
returns c =
    let z : c.args.number - c.loop.counter ≡ 0 = omega arith in
    c.next_bit.ensures ∙ sym (c.loop.invariant.1 ∙ rw z (nth_first _ _ _))
