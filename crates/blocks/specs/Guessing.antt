-- The string mask under a guess about the border of a chunk.
use Rattle.std.specs.Prelude.{ℕ, ◌+◌, ◌-◌, Bool, ◌&&◌, List, length, nat_lt}
use Rattle.rules.specs.Word.{xor, odd, count}
use Rattle.rules.specs.Bits.{quote_bit}

-- inside a string at i, if the guess g is right about a: the guess, changed by each quote bit from a on
unfoldable pub guessed : Bool → ℕ → List ℕ → ℕ → Bool
guessed g a text i = xor (odd (count (λ j. quote_bit text (a + j)) (i - a))) g

-- "its mask words under the guess": the bit of a place of the record
unfoldable pub guess_bit : Bool → ℕ → List ℕ → ℕ → Bool
guess_bit g a text i = nat_lt i (length text) && guessed g a text i
