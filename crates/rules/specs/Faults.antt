-- The faults of a record, 13 to 16.
use Rattle.std.specs.Prelude.{ℕ, zero, suc, Bool, ◌&&◌, List, length}
use Rattle.rules.specs.Word.{pick}
use Rattle.rules.specs.Bits.{in_string, opener, closer, at_depth}

-- "A record without a fault is sound"; a fault has its number and its place
pub data Verdict : Type 0 where
  sound : Verdict
  faulty : ℕ → ℕ → Verdict

-- 13: "a closer, mask bit 0, at depth 0"
unfoldable pub closes_none : List ℕ → ℕ → Bool
closes_none text i = closer text i && at_depth text 0 i

-- 14: "an opener, mask bit 0, at depth 64"
unfoldable pub opens_over : List ℕ → ℕ → Bool
opens_over text i = opener text i && at_depth text 64 i

-- 15: "string open at the end"; 16: "bracket open at the end"; "15 and 16 have place n, and 15 goes first"
unfoldable pub at_end : List ℕ → ℕ → Verdict
at_end text n = pick (in_string text n) (faulty 15 n) (pick (at_depth text 0 n) sound (faulty 16 n))

-- "A fault is the one at the smallest place": of the places from i on, of which so many are left
unfoldable pub fault_from : List ℕ → ℕ → ℕ → Verdict
fault_from text i zero = at_end text i
fault_from text i (suc left) =
    let later = fault_from text (suc i) left in
    pick (closes_none text i) (faulty 13 i) (pick (opens_over text i) (faulty 14 i) later)

unfoldable pub fault_of : List ℕ → Verdict
fault_of text = fault_from text 0 (length text)
