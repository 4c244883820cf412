-- `full_block` meets its contract: the lanes of its eights, turned into words.
use Rattle.std.proofs.Common.{◌+◌, ◌∙◌, arith}
use Rattle.blocks.proofs.Lanes.{from, codes_from, woven_ac, woven_bd, word_low, word_high}
use Rattle.blocks.proofs.block.full_block.Goals as goal

pub returns : goal.returns
returns c = λ k e.
    let a = c.args in
    let at = codes_from a.t.now a.text.now a.at k e in
    let x = c.far_lanes-x.ensures (from k 0) (from k 32) (at 0 a.at (omega arith) (omega arith)) (at 32 (a.at + 32) (omega arith) (omega arith)) in
    let y = c.far_lanes-y.ensures (from k 8) (from k 40) (at 8 (a.at + 8) (omega arith) (omega arith)) (at 40 (a.at + 8 + 32) (omega arith) (omega arith)) in
    let z = c.far_lanes-z.ensures (from k 16) (from k 48) (at 16 (a.at + 16) (omega arith) (omega arith)) (at 48 (a.at + 16 + 32) (omega arith) (omega arith)) in
    let u = c.far_lanes-u.ensures (from k 24) (from k 56) (at 24 (a.at + 24) (omega arith) (omega arith)) (at 56 (a.at + 24 + 32) (omega arith) (omega arith)) in
    let ac0 = c.woven-ac0.ensures ∙ woven_ac (from k 0) (from k 32) (from k 8) (from k 40) x y in
    let ac1 = c.woven-ac1.ensures ∙ woven_ac (from k 16) (from k 48) (from k 24) (from k 56) z u in
    let bd0 = c.woven-bd0.ensures ∙ woven_bd (from k 0) (from k 32) (from k 8) (from k 40) x y in
    let bd1 = c.woven-bd1.ensures ∙ woven_bd (from k 16) (from k 48) (from k 24) (from k 56) z u in
    record {
      a_is = c.joined.ensures ∙ word_low k (λ q. q.a) (λ q. q.c) ac0 ac1;
      b_is = c.joined-2.ensures ∙ word_low k (λ q. q.b) (λ q. q.d) bd0 bd1;
      c_is = c.joined-3.ensures ∙ word_high k (λ q. q.a) (λ q. q.c) ac0 ac1;
      d_is = c.joined-4.ensures ∙ word_high k (λ q. q.b) (λ q. q.d) bd0 bd1;
    }
