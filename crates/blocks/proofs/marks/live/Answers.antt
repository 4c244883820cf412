-- `live` meets its contract.
use Rattle.std.proofs.Common.{ℕ, ◌-◌, sym, ap, ◌∙◌, arith}
use Rattle.rules.proofs.WordLaws.{one_shl, word_below, word_full}
use Rattle.blocks.proofs.marks.live.Goals as goal

pub returns-then-left-lt64 : goal.returns-then-left-lt64
returns-then-left-lt64 c = let k = c.args.left in
    ap (λ (x : ℕ). x - 1) (one_shl 64 k c.if-left-lt64.true) ∙ sym (word_below 64 k (omega arith))

pub returns-else-left-lt64 : goal.returns-else-left-lt64
returns-else-left-lt64 c = sym (word_full 64 c.args.left c.if-left-lt64.false)
