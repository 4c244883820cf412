-- How theorems speak of the lines of a text and of a table: without the cutting.
use Rattle.std.specs.Prelude.{ℕ, suc, ◌+◌, ◌*◌, ◌/◌, ◌≤◌, ◌<◌, ◌≡◌, true, List, [], ◌∷◌, ◌⊎◌, ◌↔◌, length, get_or}
use Rattle.lines.specs.Lines.{Entry, feed_at, lines, IsLine}
use Rattle.lines.specs.Jobs.{start_in, end_in}

-- e is one of the list
abbrev pub Among : Entry → List Entry → Type 0
Among e [] = ⊥
Among e (f ∷ es) = (e ≡ f) ⊎ Among e es

-- from a on: "in order, none overlaps another", and each has a byte
abbrev pub Rise : ℕ → List Entry → Type 0
Rise a [] = Unit {0}
Rise a (e ∷ es) = (a ≤ e.start) × ((e.start < e.end) × Rise (e.end + 1) es)

-- a line begins at a: at the text's beginning, or behind an LF
abbrev pub LineBegins : List ℕ → ℕ → Type 0
LineBegins text a = (a ≡ 0) ⊎ ((p : ℕ) × (a ≡ suc p) × (feed_at text p ≡ true))

-- of the lines that begin at a or behind it, the first
pub record NextLine (text : List ℕ) (a : ℕ) (e : Entry) : Type 0 where
  pub is_line : IsLine text e
  pub behind : a ≤ e.start
  pub none_before : (f : Entry) → IsLine text f → a ≤ f.start → e.start ≤ f.start

-- the numbers of a table, each exactly under its condition: of a text of n bytes with m lines, and a table of k numbers
pub record TableNumbers (n m k number : ℕ) : Type 0 where
  pub one : (number ≡ 1) ↔ (n ≡ 0)
  pub two : (number ≡ 2) ↔ (16777216 < n)
  pub thirty_one : (number ≡ 31) ↔ ((1 ≤ n) × ((n ≤ 16777216) × (k / 2 < m)))
  pub zero : (number ≡ 0) ↔ ((1 ≤ n) × ((n ≤ 16777216) × (m ≤ k / 2)))
  pub no_other : (number ≡ 0) ⊎ ((number ≡ 1) ⊎ ((number ≡ 2) ⊎ (number ≡ 31)))

-- entry i of a table is e
abbrev pub EntryIs : List ℕ → ℕ → Entry → Type 0
EntryIs table i e = (start_in table i ≡ e.start) × (end_in table i ≡ e.end)

-- its entries, from number i on, are these
abbrev pub Entered : List ℕ → ℕ → List Entry → Type 0
Entered table i [] = Unit {0}
Entered table i (e ∷ es) = EntryIs table i e × Entered table (suc i) es

-- the entries of the lines, and the other numbers as they were
pub record Made (text table after : List ℕ) : Type 0 where
  pub lists : Entered after 0 (lines text)
  pub behind : (k : ℕ) → 2 * length (lines text) ≤ k → get_or after k 0 ≡ get_or table k 0
  pub as_long : length after ≡ length table
