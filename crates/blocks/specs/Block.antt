-- What the clauses of `block` cite: the codes of 64 bytes, side by side, and the words of their classes.
use Rattle.std.specs.Prelude.{◌≡◌, ℕ, ◌+◌, ◌*◌, ◌/◌, ◌%◌, ◌<◌, Bool, List, slice_index}
use Rattle.rules.specs.Word.{word}
use Rattle.rules.specs.Bytes.{Class, quote, backslash, opens, closes, colon, comma}
use Rattle.blocks.specs.Coding.{Code, beside, entry}
use Rattle.blocks.specs.declared.block.CodeBits.{CodeBits}
use Rattle.blocks.specs.declared.block.Classes.{Classes}

-- k j is the code that the table has for byte at + j, for m bytes
abbrev pub Codes : List ℕ → List ℕ → ℕ → ℕ → (ℕ → Code) → Type 0
Codes t text at m k = (j : ℕ) → j < m → slice_index t (slice_index text (at + j)) ≡ entry (k j)

-- the first m codes, a lane for each bit
unfoldable pub lanes_of : (ℕ → Code) → ℕ → ℕ
unfolding beside
lanes_of k m = beside (word m (λ j. (k j).a)) (word m (λ j. (k j).b)) (word m (λ j. (k j).c)) (word m (λ j. (k j).d))

-- the bytes of a word at even places, and its halves of 32 bits cut to 16
unfoldable pub evens : ℕ → ℕ
evens x = x % 256 + 65536 * (x / 65536 % 256) + 4294967296 * (x / 4294967296 % 256) + 281474976710656 * (x / 281474976710656 % 256)

unfoldable pub halves : ℕ → ℕ
halves x = x % 65536 + 4294967296 * (x / 4294967296 % 65536)

-- bit j of each word is of code k j
pub record CodeBitsOf (k : ℕ → Code) (r : CodeBits) : Type 0 where
  pub a_is : r.a ≡ word 64 (λ j. (k j).a)
  pub b_is : r.b ≡ word 64 (λ j. (k j).b)
  pub c_is : r.c ≡ word 64 (λ j. (k j).c)
  pub d_is : r.d ≡ word 64 (λ j. (k j).d)

-- bit j of a class's word says whether j is in the class, by p
pub record BlockOf (p : Class → ℕ → Bool) (r : Classes) : Type 0 where
  pub quotes_are : r.quotes ≡ word 64 (p quote)
  pub backslashes_are : r.backslashes ≡ word 64 (p backslash)
  pub opens_are : r.opens ≡ word 64 (p opens)
  pub closes_are : r.closes ≡ word 64 (p closes)
  pub colons_are : r.colons ≡ word 64 (p colon)
  pub commas_are : r.commas ≡ word 64 (p comma)
