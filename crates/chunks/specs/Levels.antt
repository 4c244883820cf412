-- The colons and commas of each level, by the mask as lent and a starting depth.
use Rattle.std.specs.Prelude.{ℕ, ◌+◌, ◌*◌, ◌-◌, Bool, ◌&&◌, List, length}
use Rattle.rules.specs.Word.{word_at}
use Rattle.rules.specs.Bytes.{Class, colon, comma, opens, closes}
use Rattle.rules.specs.Bits.{plain}
use Rattle.rules.specs.Layout.{Bitmap, quotes, mask, colons, commas, width_of}
use Rattle.blocks.specs.Spreading.{deep_at}
use Rattle.chunks.specs.Writing.{rewritten, levels_till}
use Rattle.chunks.specs.Flipping.{mask_in}

-- a byte of the class outside strings at depth k, by a mask and a starting depth at a
unfoldable pub level_by : (ℕ → Bool) → ℕ → ℕ → List ℕ → Class → ℕ → ℕ → Bool
level_by by start a text c k i =
    plain by c text i && deep_at start (λ j. plain by opens text (a + j)) (λ j. plain by closes text (a + j)) k (i - a)

-- the colons and commas of each level, by the mask as lent
unfoldable pub level_word : List ℕ → List ℕ → ℕ → ℕ → ℕ → Bitmap → ℕ → ℕ
level_word text words levels from start quotes w = 0
level_word text words levels from start mask w = 0
level_word text words levels from start (colons k) w = word_at (level_by (mask_in words levels (length text)) start (64 * from) text colon k) w
level_word text words levels from start (commas k) w = word_at (level_by (mask_in words levels (length text)) start (64 * from) text comma k) w

unfoldable pub level_words : List ℕ → ℕ → ℕ → ℕ → ℕ → List ℕ → List ℕ
level_words text levels from to start words = rewritten levels (width_of (length text)) (levels_till to) from (level_word text words levels from start) words
