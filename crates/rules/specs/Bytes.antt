-- The record's bytes, and the classes of bytes that the rules speak of.
use Rattle.std.specs.Prelude.{ℕ, ◌≤◌, Bool, ◌||◌, List, get_or, eqb}

pub data Class : Type 0 where
  quote backslash opens closes colon comma : Class

-- `"`; `\`; "openers `{` `[`"; "closers `}` `]`"; `:`; `,`
unfoldable pub is : Class → ℕ → Bool
is quote b = eqb b 34
is backslash b = eqb b 92
is opens b = eqb b 123 || eqb b 91
is closes b = eqb b 125 || eqb b 93
is colon b = eqb b 58
is comma b = eqb b 44

-- byte i of the record is in the class. (Past the end `get_or` gives 0, which is in none.)
unfoldable pub has : Class → List ℕ → ℕ → Bool
has c text i = is c (get_or text i 0)

-- from lo up to hi, both included
pub record In (lo hi b : ℕ) : Type 0 where
  pub low : lo ≤ b
  pub high : b ≤ hi
