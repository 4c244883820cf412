-- How theorems speak of the answer of a line, and of the words that are its own.
use Rattle.std.specs.Prelude.{ℕ, ◌≤◌, ◌≡◌, List, ◌⊎◌, length, take}
use Rattle.rules.specs.Layout.{size_of}
use Rattle.lines.specs.Jobs.{line_number, line_place}
use Rattle.lines.specs.declared.LineAnswer.{LineAnswer}

-- the buffer holds the words of these bytes
abbrev pub Room : List ℕ → ℕ → List ℕ → Type 0
Room bytes levels words = size_of levels (length bytes) ≤ length words

-- "the front": those words
abbrev pub front_of : List ℕ → ℕ → List ℕ → List ℕ
front_of bytes levels words = take (size_of levels (length bytes)) words

-- 0, or a fault
abbrev pub NotRefused : LineAnswer → Type 0
NotRefused r = (line_number r ≡ 0) ⊎ (13 ≤ line_number r)

-- all but the line's number in its table, which is each caller's own
abbrev pub SameAnswer : LineAnswer → LineAnswer → Type 0
SameAnswer r q = (line_number r ≡ line_number q) × (line_place r ≡ line_place q)
