-- `store` meets its contract: of word w, the colons and commas of the first k levels are written.
use mathlib.Core.Path.{◌≡◌}
use mathlib.Core.List.{List}
use Prim.Native.Nat.{ℕ, zero, suc, ◌≤◌}
use lib.ListN.{length}
use lib.Dec.{ltb}
use Rattle.rules.specs.Word.{pick}
use Rattle.rules.specs.Layout.{Bitmap, quotes, mask, colons, commas}
use Rattle.rules.proofs.LayoutLaws.{Cells}
use Rattle.chunks.specs.Writing.{over, levels_till}
use Rattle.chunks.specs.Storing.{LevelsAt}
use Rattle.chunks.proofs.levelling.store.Given as goal

-- of word w, the colons of so many levels and the commas of so many are written
unfoldable pub upto : ℕ → ℕ → ℕ → Bitmap → ℕ
upto w p q quotes = 0
upto w p q mask = 0
upto w p q (colons zero) = w
upto w p q (colons (suc j)) = pick (ltb j p) (suc w) w
upto w p q (commas zero) = w
upto w p q (commas (suc j)) = pick (ltb j q) (suc w) w

pub record Inv (words₀ : List ℕ) (levels width w : ℕ) (slots : List ℕ) (colon comma : ℕ) (words : List ℕ) (k : ℕ) : Type 0 where
  pub high : k ≤ levels
  pub long : length words ≡ length words₀
  pub written : (from : ℕ) (f old : Bitmap → ℕ → ℕ) → from ≤ w → LevelsAt levels w slots colon comma f → Cells levels width words₀ (over (levels_till w) from f old) → Cells levels width words (over (upto w k k) from f old)

abbrev pub invariant-loop-k : goal.invariant-loop-k
invariant-loop-k l = Inv l.initial.words l.shape.levels l.shape.width l.w l.slots l.colon l.comma l.words l.k
