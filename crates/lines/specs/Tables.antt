-- The line table: "starts and ends of all lines that are not blank", two numbers an entry.
use Rattle.std.specs.Prelude.{ℕ, ◌*◌, ◌/◌, List, [], ◌∷◌, ◌++◌, length, drop, ltb, eqb, Result, Ok, Err}
use Rattle.rules.specs.Word.{pick}
use Rattle.lines.specs.Lines.{Entry, lines}
use Rattle.lines.specs.declared.TableRefusal.{TableRefusal}
use Rattle.lines.specs.declared.TableRefusal.TheVariants.{Empty, TooLong, ManyLines}

-- how many lines the table has, or why it is as it was
abbrev pub Tabled : Type 0
Tabled = Result ℕ TableRefusal

abbrev pub Lines : ℕ → Tabled
Lines m = Ok m

abbrev pub Refused : TableRefusal → Tabled
Refused why = Err why

abbrev pub table_number : TableRefusal → ℕ
table_number Empty = 1
table_number TooLong = 2
table_number ManyLines = 31

abbrev pub tabled_number : Tabled → ℕ
tabled_number (Ok m) = 0
tabled_number (Err why) = table_number why

abbrev pub tabled_count : Tabled → ℕ
tabled_count (Ok m) = m
tabled_count (Err why) = 0

-- so many entries have room; an odd last number is of none
abbrev pub entries_of : List ℕ → ℕ
entries_of table = length table / 2

unfoldable pub entries : List Entry → List ℕ
entries [] = []
entries (e ∷ later) = e.start ∷ e.end ∷ entries later

-- these entries in the front, and "entries behind stay"
unfoldable pub table_with : List Entry → List ℕ → List ℕ
table_with es table = entries es ++ drop (2 * length es) table

-- "1, 2, then 31 exactly when there are more lines than table entries"
unfoldable pub table_answer : List ℕ → List ℕ → Tabled
table_answer text table =
    pick (eqb (length text) 0) (Refused Empty)
    (pick (ltb 16777216 (length text)) (Refused TooLong)
    (pick (ltb (entries_of table) (length (lines text))) (Refused ManyLines)
    (Lines (length (lines text)))))

abbrev pub on_tabled : {A : Type 0} → Tabled → A → A → A
on_tabled (Ok m) made left = made
on_tabled (Err why) made left = left

-- "the table unchanged"
unfoldable pub table_after : List ℕ → List ℕ → List ℕ
table_after text table = on_tabled (table_answer text table) (table_with (lines text) table) table
