-- What a scan of some words does: the words, the state behind them and the swing.
use Rattle.std.specs.Prelude.{ℕ, ◌+◌, ◌*◌, ◌-◌, Bool, List, length}
use Rattle.rules.specs.Word.{word_at}
use Rattle.rules.specs.Bytes.{opens, closes}
use Rattle.rules.specs.Bits.{quote_bit, plain}
use Rattle.rules.specs.Layout.{Bitmap, quotes, mask, colons, commas, width_of}
use Rattle.blocks.specs.declared.swing.Swing.{Swing}
use Rattle.blocks.specs.Guessing.{guessed, guess_bit}
use Rattle.blocks.specs.Swinging.{swing}
use Rattle.chunks.specs.declared.scanning.Swept.{Swept}
use Rattle.chunks.specs.Writing.{rewritten, marks_till}

-- how the brackets of m places from a on move the depth, by a mask
unfoldable pub swing_by : (ℕ → Bool) → List ℕ → ℕ → ℕ → Swing
swing_by by text a m = swing (λ j. plain by opens text (a + j)) (λ j. plain by closes text (a + j)) m

-- the words of a scan under the guess g: quotes, and the mask
unfoldable pub scan_word : List ℕ → Bool → ℕ → Bitmap → ℕ → ℕ
scan_word text g from quotes w = word_at (quote_bit text) w
scan_word text g from mask w = word_at (guess_bit g (64 * from) text) w
scan_word text g from (colons k) w = 0
scan_word text g from (commas k) w = 0

unfoldable pub scan_words : List ℕ → ℕ → ℕ → ℕ → Bool → List ℕ → List ℕ
scan_words text levels from to g words = rewritten levels (width_of (length text)) (marks_till to to) from (scan_word text g from) words

-- what it finds in the words from `from` up to `to`: the state behind them, and the swing
unfoldable pub swept_of : List ℕ → ℕ → ℕ → Bool → Swept
swept_of text from to g =
    record { inside = guessed g (64 * from) text (64 * from + 64 * (to - from)); swing = swing_by (guess_bit g (64 * from) text) text (64 * from) (64 * (to - from)) }
