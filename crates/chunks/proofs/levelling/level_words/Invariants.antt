-- `level_words` meets its contract: the levels of the words below w are written, and the brackets before it are counted.
use mathlib.Core.Path.{◌≡◌}
use mathlib.Core.Bool.{Bool}
use mathlib.Core.List.{List}
use Prim.Native.Nat.{ℕ, ◌+◌, ◌*◌, ◌-◌, ◌≤◌, max}
use lib.ListN.{length}
use Rattle.rules.specs.Word.{count}
use Rattle.rules.specs.Bytes.{opens, closes}
use Rattle.rules.specs.Bits.{plain}
use Rattle.rules.specs.Layout.{width_of, cell}
use Rattle.rules.proofs.LayoutLaws.{Cells}
use Rattle.chunks.specs.Writing.{over, levels_till}
use Rattle.chunks.specs.Flipping.{mask_in}
use Rattle.chunks.specs.Levels.{level_word}
use Rattle.chunks.proofs.levelling.level_words.Given as goal

-- the brackets of the chunk by the mask as lent
unfoldable pub opens_from : List ℕ → List ℕ → ℕ → ℕ → ℕ → Bool
opens_from text words levels from j = plain (mask_in words levels (length text)) opens text (64 * from + j)

unfoldable pub closes_from : List ℕ → List ℕ → ℕ → ℕ → ℕ → Bool
closes_from text words levels from j = plain (mask_in words levels (length text)) closes text (64 * from + j)

pub record Inv (text words₀ : List ℕ) (levels from to width start : ℕ) (words : List ℕ) (up down w : ℕ) : Type 0 where
  pub low : from ≤ w
  pub high : w ≤ max from to
  pub wide : width ≡ width_of (length text)
  pub ups : up ≡ start + count (opens_from text words₀ levels from) (64 * (w - from))
  pub downs : down ≡ count (closes_from text words₀ levels from) (64 * (w - from))
  pub written : Cells levels width words (over (levels_till w) from (level_word text words₀ levels from start) (cell words₀ levels width))

abbrev pub invariant-loop-w : goal.invariant-loop-w
invariant-loop-w l = Inv l.text l.initial.words l.levels l.fn.span.from l.fn.span.to l.shape.width l.start l.words l.up l.down l.w
