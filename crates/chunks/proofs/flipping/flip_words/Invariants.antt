-- `flip_words` meets its contract: the mask words below w are turned over, and the swing is that of the places before it by the mask turned over.
use mathlib.Core.Path.{◌≡◌}
use mathlib.Core.List.{List}
use Prim.Native.Nat.{ℕ, ◌*◌, ◌-◌, ◌≤◌, max}
use lib.ListN.{length}
use Rattle.rules.specs.Layout.{width_of, cell}
use Rattle.rules.proofs.LayoutLaws.{Cells}
use Rattle.blocks.specs.declared.swing.Swing.{Swing}
use Rattle.chunks.specs.Writing.{over, marks_till}
use Rattle.chunks.specs.Sweeping.{swing_by}
use Rattle.chunks.specs.Flipping.{turned, flip_word}
use Rattle.chunks.proofs.flipping.flip_words.Given as goal

pub record Inv (text words₀ : List ℕ) (levels from to width : ℕ) (words : List ℕ) (swing : Swing) (w : ℕ) : Type 0 where
  pub low : from ≤ w
  pub high : w ≤ max from to
  pub wide : width ≡ width_of (length text)
  pub swung : swing ≡ swing_by (turned words₀ levels (length text)) text (64 * from) (64 * (w - from))
  pub written : Cells levels width words (over (marks_till 0 w) from (flip_word words₀ levels (length text)) (cell words₀ levels width))

abbrev pub invariant-loop-w : goal.invariant-loop-w
invariant-loop-w l = Inv l.text l.initial.words l.levels l.fn.span.from l.fn.span.to l.shape.width l.words l.swing l.w
