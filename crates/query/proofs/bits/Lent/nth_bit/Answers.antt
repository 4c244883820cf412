-- The loop keeps how many bits the rest of the word has, and that the place with the number left, from there on, is the one asked for.
use Prim.Native.Nat.{◌+◌, ◌*◌, ◌-◌}
use mathlib.Core.Path.{◌≡◌, refl, sym, ◌∙◌}
use native.Mathlib.Omega.{arith}
use Rattle.rules.specs.Word.{count}
use Rattle.query.specs.Helpers.{bit_at}
use Rattle.paths.proofs.PlaceLaws.{nth_none, nth_skip, nth_few}
use Rattle.query.proofs.Standing.{standing_from, standing_whole, standing_ones}
use Rattle.query.proofs.bits.Lent.nth_bit.Goals as goal

pub returns-then-e-a : goal.returns-then-e-a
returns-then-e-a c = let a = c.args in let z : a.e ≡ a.a = omega arith in rw (z, nth_none)

pub loop-ones-init : goal.loop-ones-init
loop-ones-init c = let s = standing_from _ _ _ _ c.args.a _ c.word.ensures c.word.type_inv in
    (omega arith, omega arith, omega arith, standing_ones _ _ _ _ s, refl)

pub returns-then-e-at : goal.returns-then-e-at
returns-then-e-at c = let i = c.loop-ones.invariant in
    sym (i.4 ∙ nth_few _ _ _ (c.loop-ones.w * 64 + 64) _ (omega arith) (omega arith) (omega (arith, i.3, c.loop-ones-test.true)))

pub loop-ones-preserved : goal.loop-ones-preserved
loop-ones-preserved c = let l = c.loop-ones in
    let i = l.invariant in
    let a = c.args in
    let t = bit_at a.self.now a.m in
    let q : (l.w + 1) * 64 ≡ l.w * 64 + 64 = omega arith in
    let n : count t l.at + l.left - count t (l.w * 64 + 64) ≡ l.left - l.ones = omega (arith, i.3) in (
      omega arith,
      omega arith,
      omega arith,
      standing_ones _ _ _ _ (standing_whole _ _ _ _ _ _ c.word-in-loop-ones.ensures c.word-in-loop-ones.type_inv),
      i.4 ∙ nth_skip t l.left l.at (l.w * 64 + 64) a.e i.2 (omega arith) (omega (arith, i.3, c.loop-ones-test.true)) ∙ rw (n, q),
    )
