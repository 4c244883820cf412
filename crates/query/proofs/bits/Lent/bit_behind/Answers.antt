-- The loop keeps that no bit is set from behind word w up to the word where it stands.
use Prim.Native.Nat.{ℕ}
use mathlib.Core.Path.{◌≡◌, sym, ◌∙◌}
use mathlib.Core.Bool.{false}
use native.Mathlib.Omega.{arith}
use Rattle.query.specs.Helpers.{bit_at}
use Rattle.paths.proofs.PlaceLaws.{first_all, side_by_side}
use Rattle.query.proofs.Standing.{standing_whole, standing_zero, standing_low, first_min}
use Rattle.query.proofs.bits.Lent.bit_behind.Goals as goal

pub loop-v-init : goal.loop-v-init
loop-v-init c = λ k l m. absurd (omega arith)

pub returns-then-x-ne0 : goal.returns-then-x-ne0
returns-then-x-ne0 c = λ a l h f.
    let clear = λ (k : ℕ). bit_at c.args.self.now c.args.m k ≡ false in
    let s = standing_low _ _ _ _ (standing_whole _ _ _ _ _ _ c.word-x.ensures c.word-x.type_inv) c.if-x-ne0.true in
    c.min.ensures ∙ first_min _ _ _ _ (omega arith) l s.1 (side_by_side clear _ _ _ f (side_by_side clear _ _ _ c.loop-v.invariant s.2))

pub loop-v-preserved : goal.loop-v-preserved
loop-v-preserved c =
    let w = standing_whole _ _ _ _ _ _ c.word-x.ensures c.word-x.type_inv in
    side_by_side (λ k. bit_at c.args.self.now c.args.m k ≡ false) _ _ _ c.loop-v.invariant (λ k l m. standing_zero _ _ _ _ w c.if-x-ne0.false k l (omega arith))

pub returns : goal.returns
returns c = λ a l h f.
    sym (first_all _ _ _ l (λ k m n. side_by_side (λ k. bit_at c.args.self.now c.args.m k ≡ false) _ _ _ f c.loop-v.invariant k m (omega (arith, c.div_ceil-v-end.ensures))))
