-- The lines of a text: "cut at LF bytes in strings too, the LF in no line, a last line without LF counted"; those that are not blank.
use Rattle.std.specs.Prelude.{ℕ, zero, suc, ◌+◌, ◌≤◌, ◌<◌, ◌≡◌, Bool, true, false, not, List, [], ◌∷◌, ◌⊎◌, length, ltb, eqb, Option, Some, None}
use Rattle.rules.specs.Word.{pick}
use Rattle.paths.specs.Places.{byte_in, first_at}
use Rattle.query.specs.Items.{solid}
use Rattle.query.specs.declared.types.Part.{Part}

-- where the next line lies, if there is one
abbrev pub Line : Type 0
Line = Option Part

abbrev pub At : ℕ → ℕ → Line
At s e = Some (record { start = s; end = e })

abbrev pub End : Line
End = None

-- where a line begins, and where it ends: at its LF, or at the text's end
pub record Entry : Type 0 where
  pub start : ℕ
  pub end : ℕ

unfoldable pub feed_at : List ℕ → ℕ → Bool
feed_at text i = eqb (byte_in text i) 10

-- "cut at LF bytes": the line that begins at a ends there
unfoldable pub line_end : List ℕ → ℕ → ℕ
line_end text a = first_at (feed_at text) a (length text)

-- a line from a to e of blanks only, or of nothing
unfoldable pub is_blank_line : List ℕ → ℕ → ℕ → Bool
is_blank_line text a e = not (ltb (first_at (solid (byte_in text)) a e) e)

abbrev pub unless_blank : Bool → Entry → List Entry → List Entry
unless_blank true e later = later
unless_blank false e later = e ∷ later

-- from a on, of at most so many lines
unfoldable pub lines_in : ℕ → List ℕ → ℕ → List Entry
lines_in zero text a = []
lines_in (suc c) text a =
    let later = lines_in c text (line_end text a + 1) in
    pick (ltb a (length text)) (unless_blank (is_blank_line text a (line_end text a)) (record { start = a; end = line_end text a }) later) []

-- the lines from a place on, where one is taken to begin. (Each has a byte at least, its LF or its own, so none is left over.)
unfoldable pub lines_from : List ℕ → ℕ → List Entry
lines_from text a = lines_in (length text) text a

-- "all lines that are not blank"
abbrev pub lines : List ℕ → List Entry
lines text = lines_from text 0

abbrev pub head_line : List Entry → Line
head_line [] = End
head_line (e ∷ later) = At e.start e.end

-- the next line from a place on
unfoldable pub line_from : List ℕ → ℕ → Line
line_from text a = head_line (lines_from text a)

-- what makes a stretch of the text one of its lines, said without the cutting
pub record IsLine (text : List ℕ) (e : Entry) : Type 0 where
  pub begins : (e.start ≡ 0) ⊎ ((p : ℕ) × (e.start ≡ suc p) × (feed_at text p ≡ true))
  pub ends : (e.end ≡ length text) ⊎ ((e.end < length text) × (feed_at text e.end ≡ true))
  pub whole : (i : ℕ) → e.start ≤ i → i < e.end → feed_at text i ≡ false
  pub solid_at : ℕ
  pub within : (e.start ≤ solid_at) × (solid_at < e.end)
  pub not_blank : solid (byte_in text) solid_at ≡ true
