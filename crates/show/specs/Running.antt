-- How the showing program runs a job.
use Rattle.std.specs.Prelude.{ℕ, ◌+◌, ◌*◌, ◌-◌, ◌/◌, List, length}
use Rattle.rules.specs.Layout.{listed}
use Rattle.index.specs.declared.Answer.{Answer}
use Rattle.runs.specs.Whole.{whole_answer, whole_words, plainly}

-- the first so many multiples of 1,024 above 0
unfoldable pub multiples : ℕ → List ℕ
multiples m = listed (λ i. 1024 * i) 1 m

-- "cuts at every multiple of 1,024 below n"
unfoldable pub cuts_of : ℕ → List ℕ
cuts_of n = multiples ((n - 1) / 1024)

-- "It uses L = 4", and the plain order, which "scans from the last chunk to the first with the guess 'outside'": what the job answers
abbrev pub job_answer : List ℕ → List ℕ → List ℕ → Answer
job_answer text words cuts = whole_answer text words 4 cuts (plainly (length cuts + 1))

-- and the words it leaves
abbrev pub job_words : List ℕ → List ℕ → List ℕ → List ℕ
job_words text words cuts = whole_words text words 4 cuts (plainly (length cuts + 1))
