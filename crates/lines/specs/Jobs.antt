-- The job of one line: over its bytes alone, in the front of the words. What it answers and leaves, by the rules and not by its steps.
use Rattle.std.specs.Prelude.{ℕ, ◌+◌, ◌*◌, ◌-◌, ◌≤◌, ◌≡◌, Bool, not, ◌&&◌, ◌||◌, List, [], ◌∷◌, ◌++◌, length, get_or, take, drop, replicate, ltb, leb, eqb, Some, None}
use Rattle.rules.specs.Word.{pick}
use Rattle.rules.specs.Faults.{Verdict, sound, faulty, fault_of}
use Rattle.rules.specs.Layout.{size_of, index}
use Rattle.blocks.specs.declared.swing.Swing.{Swing}
use Rattle.index.specs.declared.Fault.{Fault}
use Rattle.index.specs.declared.Fault.TheVariants.{Closer, Opener, InString, InBracket}
use Rattle.index.specs.declared.Refusal.TheVariants.{Empty, TooLong, BadLevels, BadBuffer}
use Rattle.index.specs.declared.Answer.{Answer}
use Rattle.index.specs.declared.Answer.TheVariants.{Done, Refused, Faulty}
use Rattle.index.specs.Answers.{refusal_number, fault_number, fault_place, Check, checked}
use Rattle.index.specs.Closing.{unless_refused}
use Rattle.lines.specs.Tables.{entries_of}
use Rattle.lines.specs.Lines.{Line, At, End}
use Rattle.lines.specs.declared.LineAnswer.{LineAnswer}
use Rattle.lines.specs.declared.LineAnswer.TheVariants as line

-- ---- the line's own bytes

-- entry i is numbers 2i and 2i + 1
abbrev pub start_in : List ℕ → ℕ → ℕ
start_in table i = get_or table (2 * i) 0

abbrev pub end_in : List ℕ → ℕ → ℕ
end_in table i = get_or table (2 * i + 1) 0

-- where it lies in a text of n bytes: nowhere if the number is behind the table, or if the entry is no part of the text
unfoldable pub line_at : ℕ → List ℕ → ℕ → Line
line_at n table i =
    pick (ltb i (entries_of table) && (leb (start_in table i) (end_in table i) && leb (end_in table i) n)) (At (start_in table i) (end_in table i)) End

-- the bytes from its start to its end, "end not included"; a line that lies nowhere is empty
abbrev pub bytes_at : List ℕ → Line → List ℕ
bytes_at text (Some l) = take (l.end - l.start) (drop l.start text)
bytes_at text None = []

-- the line with number i of a table
unfoldable pub line_of : List ℕ → List ℕ → ℕ → List ℕ
line_of text table i = bytes_at text (line_at (length text) table i)

-- ---- what a record's fault means for the job of one

abbrev pub named_fault : ℕ → ℕ → Fault
named_fault n p = pick (eqb n 13) (Closer p) (pick (eqb n 14) (Opener p) (pick (eqb n 15) (InString p) (InBracket p)))

abbrev pub of_verdict : Verdict → Answer
of_verdict sound = Done
of_verdict (faulty n p) = Faulty (named_fault n p)

-- the index of a sound record, zeros of a faulty one
abbrev pub verdict_words : Verdict → List ℕ → ℕ → List ℕ
verdict_words sound bytes levels = index bytes levels
verdict_words (faulty n p) bytes levels = replicate (size_of levels (length bytes)) 0

-- ---- in the front of w words

-- 1 to 4 of n bytes, as an opening has them; but the words may be more than needed
unfoldable pub front_checks : ℕ → ℕ → ℕ → List Check
front_checks n w levels =
    (eqb n 0, Empty)
    ∷ (ltb 16777216 n, TooLong)
    ∷ (eqb levels 0 || ltb 16 levels, BadLevels)
    ∷ (ltb w (size_of levels n), BadBuffer)
    ∷ []

unfoldable pub front_answer : List ℕ → ℕ → ℕ → Answer
front_answer bytes levels w = checked (front_checks (length bytes) w levels) (of_verdict (fault_of bytes))

-- the words behind stay
unfoldable pub front_words : List ℕ → ℕ → List ℕ → List ℕ
front_words bytes levels words =
    unless_refused (front_answer bytes levels (length words)) (verdict_words (fault_of bytes) bytes levels ++ drop (size_of levels (length bytes)) words) words

-- ---- of the line with number i

-- "that fault, its place counted in the line, and the line's number in the table"
abbrev pub numbered : ℕ → Answer → LineAnswer
numbered i Done = line.Done
numbered i (Refused r) = line.Refused r
numbered i (Faulty f) = line.Faulty f i

unfoldable pub line_answer : List ℕ → List ℕ → ℕ → ℕ → ℕ → LineAnswer
line_answer text table i levels w = numbered i (front_answer (line_of text table i) levels w)

unfoldable pub line_words : List ℕ → List ℕ → ℕ → ℕ → List ℕ → List ℕ
line_words text table i levels words = front_words (line_of text table i) levels words

abbrev pub line_number : LineAnswer → ℕ
line_number line.Done = 0
line_number (line.Refused r) = refusal_number r
line_number (line.Faulty f i) = fault_number f

abbrev pub line_place : LineAnswer → ℕ
line_place line.Done = 0
line_place (line.Refused r) = 0
line_place (line.Faulty f i) = fault_place f

abbrev pub told_line : LineAnswer → ℕ
told_line line.Done = 0
told_line (line.Refused r) = 0
told_line (line.Faulty f i) = i

-- ---- what clauses of the code's own functions cite

-- nothing is open behind all the words, and the depth stayed within 0 and 64
unfoldable pub balanced : Bool → Swing → Bool
balanced inside s = not inside && (eqb s.dip 0 && (leb s.peak 64 && eqb s.up s.down))

-- a record and its words
pub record Indexable (bytes words : List ℕ) (levels : ℕ) : Type 0 where
  pub some : 1 ≤ length bytes
  pub small : length bytes ≤ 16777216
  pub low : 1 ≤ levels
  pub high : levels ≤ 16
  pub long : length words ≡ size_of levels (length bytes)
