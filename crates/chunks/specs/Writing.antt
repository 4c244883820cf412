-- What a step does to the lent words: of each bitmap it writes some words of its chunk, and the others stay.
use Rattle.std.specs.Prelude.{ℕ, ◌≤◌, ◌≡◌, ◌&&◌, List, length, ltb, leb}
use Rattle.rules.specs.Word.{pick}
use Rattle.rules.specs.Layout.{Bitmap, quotes, mask, colons, commas, width_of, size_of, laid, cell}

-- word w of bitmap b is f b w from word `from` up to word till b, and what it was elsewhere
unfoldable pub over : (Bitmap → ℕ) → ℕ → (Bitmap → ℕ → ℕ) → (Bitmap → ℕ → ℕ) → Bitmap → ℕ → ℕ
over till from f old b w = pick (leb from w && ltb w (till b)) (f b w) (old b w)

unfoldable pub rewritten : ℕ → ℕ → (Bitmap → ℕ) → ℕ → (Bitmap → ℕ → ℕ) → List ℕ → List ℕ
rewritten levels width till from f words = laid levels width (over till from f (cell words levels width))

-- quotes up to word q, the mask up to word m, and nothing of the levels
unfoldable pub marks_till : ℕ → ℕ → Bitmap → ℕ
marks_till q m quotes = q
marks_till q m mask = m
marks_till q m (colons k) = 0
marks_till q m (commas k) = 0

-- colons and commas of every level up to word w
unfoldable pub levels_till : ℕ → Bitmap → ℕ
levels_till w quotes = 0
levels_till w mask = 0
levels_till w (colons k) = w
levels_till w (commas k) = w

-- a record and words that belong together, and words of a bitmap up to `to`
pub record Lent (text words : List ℕ) (levels to : ℕ) : Type 0 where
  pub small : length text ≤ 16777216
  pub few : levels ≤ 16
  pub long : length words ≡ size_of levels (length text)
  pub within : to ≤ width_of (length text)
