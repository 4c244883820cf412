-- What the contracts of the face say: an answer told as the scope's number and the value beside it.
use Rattle.std.specs.Prelude.{ℕ, ◌≡◌, List, length, Some, None}
use Rattle.index.specs.Answers.{number_of, place_of}
use Rattle.runs.specs.Runs.{Call}
use Rattle.runs.specs.Whole.{whole_answer, whole_words}
use Rattle.query.specs.Answers as query
use Rattle.lines.specs.Lines.{Line, line_from}
use Rattle.lines.specs.Tables.{tabled_number, tabled_count, table_answer, table_after}
use Rattle.lines.specs.Jobs.{line_number, line_place, line_answer, line_words}

-- of a whole run: the number and place of its close, or of its opening's refusal, and the words behind it
pub record RunTells (text words : List ℕ) (levels : ℕ) (cuts : List ℕ) (calls : List Call) (number place : ℕ) (after : List ℕ) : Type 0 where
  pub number_is : number ≡ number_of (whole_answer text words levels cuts calls)
  pub place_is : place ≡ place_of (whole_answer text words levels cuts calls)
  pub words_are : after ≡ whole_words text words levels cuts calls

-- of a query: the number, the place and the step that `query` tells, and how many bytes its part has
pub record QueryTells (text words : List ℕ) (levels : ℕ) (path : List ℕ) (number place size step : ℕ) : Type 0 where
  pub number_is : number ≡ query.number_of (query.answer_of text words levels path)
  pub place_is : place ≡ query.place_of (query.answer_of text words levels path)
  pub size_is : size ≡ length (query.part_of text (query.answer_of text words levels path))
  pub step_is : step ≡ query.step_of (query.answer_of text words levels path)

-- of a table: its number, how many lines it has, and the numbers in it
pub record TableTells (text table : List ℕ) (number count : ℕ) (after : List ℕ) : Type 0 where
  pub number_is : number ≡ tabled_number (table_answer text table)
  pub count_is : count ≡ tabled_count (table_answer text table)
  pub table_is : after ≡ table_after text table

-- of one line of a table: the number and the place of its job's answer, and the words
pub record LineTells (text table : List ℕ) (line levels : ℕ) (words : List ℕ) (number place : ℕ) (after : List ℕ) : Type 0 where
  pub number_is : number ≡ line_number (line_answer text table line levels (length words))
  pub place_is : place ≡ line_place (line_answer text table line levels (length words))
  pub words_are : after ≡ line_words text table line levels words

abbrev pub on_line : {A : Type 0} → Line → (ℕ → ℕ → A) → A → A
on_line (Some l) some none = some l.start l.end
on_line None some none = none

-- of the next line: whether there is one, and where it lies
pub record NextTells (text : List ℕ) (from some start end : ℕ) : Type 0 where
  pub some_is : some ≡ on_line (line_from text from) (λ s e. 1) 0
  pub start_is : start ≡ on_line (line_from text from) (λ s e. s) 0
  pub end_is : end ≡ on_line (line_from text from) (λ s e. e) 0
