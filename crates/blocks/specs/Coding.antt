-- What the clauses of `classes` cite: a class as a code of four bits, and a table of codes.
use Rattle.std.specs.Prelude.{◌≡◌, ℕ, ◌+◌, ◌*◌, ◌<◌, Bool, not, ◌&&◌, ◌||◌, List, ◌==◌, slice_index}
use Rattle.rules.specs.Word.{digit, xor, bit}
use Rattle.rules.specs.Bytes.{Class, quote, backslash, opens, closes, colon, comma, is}

pub record Code : Type 0 where
  pub a : Bool
  pub b : Bool
  pub c : Bool
  pub d : Bool

-- the codes of a class
unfoldable pub coded : Class → Code → Bool
coded quote k = k.a && not (k.c || k.d)
coded backslash k = k.b
coded opens k = k.c && not k.d
coded closes k = k.d && not k.c
coded colon k = (k.c && k.d) && not k.a
coded comma k = (k.c && k.d) && k.a

-- those of a `[` or a `]`: bit a tells a bracket's kind
unfoldable pub square : Code → Bool
square k = xor k.c k.d && k.a

-- four numbers side by side, 8 bits each
unfoldable pub beside : ℕ → ℕ → ℕ → ℕ → ℕ
beside x y z u = x + 256 * y + 65536 * z + 16777216 * u

-- a code as an entry of the table, a bit in each lane; and read back
unfoldable pub entry : Code → ℕ
unfolding beside
entry k = beside (digit k.a) (digit k.b) (digit k.c) (digit k.d)

unfoldable pub code_of : ℕ → Code
unfolding bit
code_of x = record { a = bit x 0; b = bit x 8; c = bit x 16; d = bit x 24 }

-- the first n entries are those of f
abbrev pub Filled : (ℕ → ℕ) → ℕ → List ℕ → Type 0
Filled f n t = (b : ℕ) → b < n → slice_index t b ≡ f b

-- every entry is a code, of exactly the classes of its byte, and of its kind
pub record TableOf (t : List ℕ) : Type 0 where
  pub codes : (b : ℕ) → b < 256 → slice_index t b ≡ entry (code_of (slice_index t b))
  pub classes_are : (b : ℕ) → b < 256 → (c : Class) → coded c (code_of (slice_index t b)) ≡ is c b
  pub kinds_are : (b : ℕ) → b < 256 → square (code_of (slice_index t b)) ≡ (b == 91 || b == 93)
