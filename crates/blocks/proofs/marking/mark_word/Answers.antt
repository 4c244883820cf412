-- `mark_word` meets its contract, by what its leaves say of their words.
use Rattle.std.proofs.Common.{◌+◌, ◌-◌, ◌*◌, ltb, length, ◌∙◌}
use Rattle.rules.specs.Word.{word_at}
use Rattle.rules.specs.Bytes.{backslash, opens, closes, has}
use Rattle.rules.specs.Bits.{quote_bit}
use Rattle.blocks.specs.Guessing.{guess_bit}
use Rattle.blocks.proofs.MarkLaws.{quotes_of, carry_of, mask_of, inside_of_is, plain_of}
use Rattle.blocks.proofs.marking.mark_word.Goals as goal

pub returns : goal.returns
unfolding word_at
returns c = let a = c.args in
    let text = a.text.now in
    let w = a.w in
    let block = c.block-b.ensures c.requires.table_of in
    let esc = c.escapes-e.ensures (λ b. has backslash text (64 * w + b)) block.backslashes_are in
    let quotes = quotes_of text w c.requires.w_in_bounds.1 block.quotes_are esc.0 in
    let m = c.mask_word-m.ensures (λ b. quote_bit text (64 * w + b)) (λ b. ltb b (length text - 64 * w)) quotes c.live.ensures in
    let mask = m.0 ∙ mask_of text w a.inside c.requires.w_in_bounds.0 in
    record {
      quotes_are = quotes;
      mask_is = mask;
      opens_are = plain_of text w (guess_bit a.inside (64 * w) text) opens block.opens_are mask;
      closes_are = plain_of text w (guess_bit a.inside (64 * w) text) closes block.closes_are mask;
      carry_is = esc.1 ∙ carry_of text w c.requires.w_in_bounds.1;
      inside_is = m.1 ∙ inside_of_is text w a.inside;
    }
