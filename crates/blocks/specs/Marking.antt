-- What the clauses of `mark_word` cite.
use Rattle.std.specs.Prelude.{◌≡◌, ℕ, ◌+◌, ◌*◌, Bool, List}
use Rattle.rules.specs.Word.{word_at}
use Rattle.rules.specs.Bytes.{opens, closes}
use Rattle.rules.specs.Bits.{escaped, quote_bit, plain}
use Rattle.blocks.specs.Guessing.{guessed, guess_bit}
use Rattle.blocks.specs.declared.marking.Marked.{Marked}

-- what is said of word w, if its first byte is inside a string or not: its bits, and the state behind it
pub record MarkedWord (text : List ℕ) (w : ℕ) (inside : Bool) (r : Marked) : Type 0 where
  pub quotes_are : r.quotes ≡ word_at (quote_bit text) w
  pub mask_is : r.mask ≡ word_at (guess_bit inside (64 * w) text) w
  pub opens_are : r.opens ≡ word_at (plain (guess_bit inside (64 * w) text) opens text) w
  pub closes_are : r.closes ≡ word_at (plain (guess_bit inside (64 * w) text) closes text) w
  pub carry_is : r.carry ≡ escaped text (64 * (w + 1))
  pub inside_is : r.inside ≡ guessed inside (64 * w) text (64 * (w + 1))
