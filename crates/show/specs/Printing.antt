-- The line that the showing program prints, for every input.
use Rattle.std.specs.Prelude.{ℕ, ◌+◌, Bool, List, length, get_or, take, drop, replicate, eqb, ltb}
use Rattle.rules.specs.Word.{pick}
use Rattle.rules.specs.Layout.{size_of}
use Rattle.index.specs.declared.Answer as job
use Rattle.index.specs.Answers.{number_of, place_of, on_done}
use Rattle.query.specs.declared.types.Refusal.{Refusal}
use Rattle.query.specs.Answer.{Answer}
use Rattle.paths.specs.Places.{first_at}
use Rattle.query.specs.Walk.{on_found}
use Rattle.query.specs.Answers as query
use Rattle.show.specs.declared.printing.Printed.{Printed}
use Rattle.show.specs.Running.{cuts_of, job_answer, job_words}

abbrev pub is_feed : List ℕ → ℕ → Bool
is_feed input i = eqb (get_or input i 0) 10

-- "the path up to the first LF, then the record": the place of that LF, or the length of an input that has none
unfoldable pub path_end : List ℕ → ℕ
path_end input = first_at (is_feed input) 0 (length input)

-- "an input without an LF is all path, with an empty record"
abbrev pub path_of : List ℕ → List ℕ
path_of input = take (path_end input) input

abbrev pub record_of : List ℕ → List ℕ
record_of input = drop (path_end input + 1) input

-- "Refusals that tell a place print it twice; others print 0 0"
abbrev pub placed : ℕ → ℕ → Printed
placed number place = record { number = number; start = place; end = place }

-- a miss and a broken item tell a place in the record, and for them "The program goes on printing 0 0"
abbrev pub refusal_printed : Refusal → Printed
refusal_printed why = placed (query.refusal_number why) (pick (ltb (query.refusal_number why) 23) (query.refusal_place why) 0)

-- "number, start, end (end not included)" of a query
abbrev pub query_printed : Answer → Printed
query_printed a = on_found a (λ s e. record { number = 0; start = s; end = e }) refusal_printed

-- "The job runs before the path is read, so a fault of the record is printed and not the path's refusal"
abbrev pub after_job : job.Answer → Printed → Printed
after_job a line = on_done a line (placed (number_of a) (place_of a))

-- a record, the words and cuts lent with it, and a path
unfoldable pub printed_in : List ℕ → List ℕ → List ℕ → List ℕ → Printed
printed_in text words cuts path =
    after_job (job_answer text words cuts) (query_printed (query.answer_of text (job_words text words cuts) 4 path))

-- the words are lent as so many zeros
unfoldable pub zeros : ℕ → List ℕ
zeros n = replicate n 0

unfoldable pub printed_of : List ℕ → List ℕ → Printed
printed_of text path = printed_in text (zeros (size_of 4 (length text))) (cuts_of (length text)) path

-- "1,025 bytes without an LF print `21 0 0`, before all else"; "A record above 16,384 bytes prints `2 0 0`"
unfoldable pub shown : List ℕ → Printed
shown input =
    pick (ltb 1024 (path_end input)) (placed 21 0)
    (pick (ltb 16384 (length (record_of input))) (placed 2 0)
    (printed_of (record_of input) (path_of input)))
