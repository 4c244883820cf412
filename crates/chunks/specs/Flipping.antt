-- The mask as lent, turned over, and how the brackets move the depth by it.
use Rattle.std.specs.Prelude.{ℕ, ◌*◌, ◌-◌, Bool, List, length, ltb}
use Rattle.rules.specs.Word.{xor, word_at}
use Rattle.rules.specs.Layout.{Bitmap, quotes, mask, colons, commas, width_of, bit_in}
use Rattle.blocks.specs.declared.swing.Swing.{Swing}
use Rattle.chunks.specs.Writing.{rewritten, marks_till}
use Rattle.chunks.specs.Sweeping.{swing_by}

-- the mask, as lent words of so many levels have it for a record of n bytes
abbrev pub mask_in : List ℕ → ℕ → ℕ → ℕ → Bool
mask_in words levels n = bit_in words levels (width_of n) mask

-- the mask turned over, at the places of the record only
unfoldable pub turned : List ℕ → ℕ → ℕ → ℕ → Bool
turned words levels n i = xor (mask_in words levels n i) (ltb i n)

unfoldable pub flip_word : List ℕ → ℕ → ℕ → Bitmap → ℕ → ℕ
flip_word words levels n quotes w = 0
flip_word words levels n mask w = word_at (turned words levels n) w
flip_word words levels n (colons k) w = 0
flip_word words levels n (commas k) w = 0

-- the mask words from `from` up to `to` turned over
unfoldable pub flip_words : ℕ → ℕ → ℕ → ℕ → List ℕ → List ℕ
flip_words n levels from to words = rewritten levels (width_of n) (marks_till 0 to) from (flip_word words levels n) words

-- how the brackets of those words move the depth, by the mask as lent
unfoldable pub swing_in : List ℕ → List ℕ → ℕ → ℕ → ℕ → Swing
swing_in text words levels from to = swing_by (mask_in words levels (length text)) text (64 * from) (64 * (to - from))
