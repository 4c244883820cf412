-- In the word of a, or behind it.
use mathlib.Core.Path.{◌∙◌}
use native.Mathlib.Omega.{arith}
use Rattle.query.proofs.Standing.{standing_from, standing_zero, standing_low, first_min}
use Rattle.query.proofs.bits.Lent.next_bit.Goals as goal

pub returns-then-x-eq0 : goal.returns-then-x-eq0
returns-then-x-eq0 c = let a = c.args in
    let w = standing_from _ _ _ _ a.a _ c.word.ensures c.word.type_inv in
    c.bit_behind.ensures a.a (omega arith) (omega arith) (λ k l m. standing_zero _ _ _ _ w c.if-x-eq0.true k l m)

pub returns : goal.returns
returns c = let a = c.args in
    let l = standing_low _ _ _ _ (standing_from _ _ _ _ a.a _ c.word.ensures c.word.type_inv) c.if-x-eq0.false in
    c.min.ensures ∙ first_min _ _ _ _ (omega arith) (omega arith) l.1 l.2
