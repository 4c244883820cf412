-- Where an entry lies in a text of n bytes, test by test.
use Prim.Native.Nat.{ℕ, ◌≤◌, ◌<◌}
use mathlib.Core.Path.{◌≡◌}
use mathlib.Core.List.{List}
use borrow.Author.Tests.{lt-ltb, le-ltb, le-leb, lt-leb}
use Rattle.lines.specs.Tables.{entries_of}
use Rattle.lines.specs.Jobs.{start_in, end_in, line_at}
use Rattle.lines.specs.Lines.{At, End}

module _ (n : ℕ) (table : List ℕ) (i : ℕ) where
  pub at_behind : entries_of table ≤ i → line_at n table i ≡ End
  unfolding line_at
  at_behind l = rw (le-ltb i (entries_of table) l)

  module _ (l : i < entries_of table) where
    pub at_turned : end_in table i < start_in table i → line_at n table i ≡ End
    unfolding line_at
    at_turned t = rw (lt-ltb i (entries_of table) l, lt-leb (start_in table i) (end_in table i) t)

    pub at_past : start_in table i ≤ end_in table i → n < end_in table i → line_at n table i ≡ End
    unfolding line_at
    at_past o p = rw (lt-ltb i (entries_of table) l, le-leb (start_in table i) (end_in table i) o, lt-leb (end_in table i) n p)

    pub at_part : start_in table i ≤ end_in table i → end_in table i ≤ n → line_at n table i ≡ At (start_in table i) (end_in table i)
    unfolding line_at
    at_part o p = rw (lt-ltb i (entries_of table) l, le-leb (start_in table i) (end_in table i) o, le-leb (end_in table i) n p)
