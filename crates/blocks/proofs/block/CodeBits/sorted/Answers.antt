-- `sorted` meets its contract: a class's word is of the codes' bits, as a class is of a code's.
use Rattle.std.proofs.Common.{◌≡◌, ◌&&◌, ◌||◌, ◌∙◌, ap₂}
use lib.Bits.{bit_and, bit_or}
use Rattle.rules.specs.Word.{word}
use Rattle.rules.proofs.WordLaws.{and_word, or_word}
use Rattle.blocks.specs.Coding.{coded}
use Rattle.blocks.proofs.MarkLaws.{and_not}
use Rattle.blocks.proofs.block.CodeBits.sorted.Goals as goal

pub returns : goal.returns
unfolding coded
returns c = λ k e.
    let x = c.args.self in
    let both : bit_and x.c x.d ≡ word 64 (λ j. (k j).c && (k j).d) = ap₂ bit_and e.c_is e.d_is ∙ and_word 64 (λ j. (k j).c) (λ j. (k j).d) in
    let either : bit_or x.c x.d ≡ word 64 (λ j. (k j).c || (k j).d) = ap₂ bit_or e.c_is e.d_is ∙ or_word 64 (λ j. (k j).c) (λ j. (k j).d) in
    record {
      quotes_are = and_not (λ j. (k j).a) (λ j. (k j).c || (k j).d) e.a_is either;
      backslashes_are = e.b_is;
      opens_are = and_not (λ j. (k j).c) (λ j. (k j).d) e.c_is e.d_is;
      closes_are = and_not (λ j. (k j).d) (λ j. (k j).c) e.d_is e.c_is;
      colons_are = and_not (λ j. (k j).c && (k j).d) (λ j. (k j).a) both e.a_is;
      commas_are = ap₂ bit_and both e.a_is ∙ and_word 64 (λ j. (k j).c && (k j).d) (λ j. (k j).a);
    }
