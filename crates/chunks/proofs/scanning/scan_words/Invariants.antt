-- `scan_words` meets its contract: the words below w are written, and the state and the swing are those of the places before it.
use mathlib.Core.Path.{◌≡◌}
use mathlib.Core.Bool.{Bool}
use mathlib.Core.List.{List}
use Prim.Native.Nat.{ℕ, ◌*◌, ◌-◌, ◌≤◌}
use lib.ListN.{length}
use Rattle.rules.specs.Bits.{escaped}
use Rattle.rules.specs.Layout.{width_of, cell}
use Rattle.rules.proofs.LayoutLaws.{Cells}
use Rattle.blocks.specs.declared.swing.Swing.{Swing}
use Rattle.blocks.specs.Guessing.{guessed, guess_bit}
use Rattle.chunks.specs.Writing.{over, marks_till}
use Rattle.chunks.specs.Sweeping.{swing_by, scan_word}
use Rattle.chunks.proofs.scanning.scan_words.Given as goal

pub record Inv (text words₀ : List ℕ) (levels from to width : ℕ) (guess : Bool) (words : List ℕ) (inside : Bool) (swing : Swing) (carry : Bool) (w : ℕ) : Type 0 where
  pub low : from ≤ w
  pub high : w ≤ to
  pub wide : width ≡ width_of (length text)
  pub carried : carry ≡ escaped text (64 * w)
  pub state : inside ≡ guessed guess (64 * from) text (64 * w)
  pub swung : swing ≡ swing_by (guess_bit guess (64 * from) text) text (64 * from) (64 * (w - from))
  pub written : Cells levels width words (over (marks_till w w) from (scan_word text guess from) (cell words₀ levels width))

abbrev pub invariant-loop-w : goal.invariant-loop-w
invariant-loop-w l = Inv l.text l.initial.words l.levels l.fn.span.from l.fn.span.to l.shape.width l.guess l.words l.inside l.swing l.carry l.w
