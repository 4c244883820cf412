-- What the clauses of `store` cite.
use Rattle.std.specs.Prelude.{ℕ, suc, ◌+◌, ◌≤◌, ◌<◌, ◌≡◌, List, get_or}
use Rattle.std.specs.Int.Bits.{bit_and}
use Rattle.rules.specs.Layout.{Bitmap, colons, commas}
use Rattle.rules.proofs.LayoutLaws.{Cells}
use Rattle.chunks.specs.Writing.{over, levels_till}

-- word w of each level is f's: the class's bits at the places that the level's slot has
pub record LevelsAt (levels w : ℕ) (slots : List ℕ) (colon comma : ℕ) (f : Bitmap → ℕ → ℕ) : Type 0 where
  pub colons_are : (k : ℕ) → k < levels → bit_and colon (get_or slots (k + 1) 0) ≡ f (colons (suc k)) w
  pub commas_are : (k : ℕ) → k < levels → bit_and comma (get_or slots (k + 1) 0) ≡ f (commas (suc k)) w

-- where the words of the levels are f's from some word up to w, they are so up to w + 1 afterwards
pub record StoredAt (levels width w : ℕ) (slots : List ℕ) (colon comma : ℕ) (words after : List ℕ) : Type 0 where
  pub stores : (from : ℕ) (f old : Bitmap → ℕ → ℕ) → from ≤ w → LevelsAt levels w slots colon comma f
      → Cells levels width words (over (levels_till w) from f old) → Cells levels width after (over (levels_till (suc w)) from f old)
