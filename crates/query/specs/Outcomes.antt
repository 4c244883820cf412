-- What the contracts of `answer` and `query` say. (proofs/Outcomes.antt: each allows one outcome only.)
use Rattle.std.specs.Prelude.{ℕ, ◌+◌, ◌≡◌, List}
use Rattle.query.specs.Answers.{answer_of, number_of, place_of, step_of, start_of, part_of}
use Rattle.query.specs.Answer.{Answer}

abbrev pub AnswerGives : List ℕ → List ℕ → ℕ → List ℕ → Answer → Type 0
AnswerGives text words levels path r = r ≡ answer_of text words levels path

-- of a record that lies in `home` from `base` on: the bytes of the part, the memory that they lie in and from where on, and the number, the place and the step told
pub record QueryGives (text words : List ℕ) (levels : ℕ) (path : List ℕ) (home base : ℕ) (part : List ℕ) (memory offset number place step : ℕ) : Type 0 where
  pub part_is : part ≡ part_of text (answer_of text words levels path)
  pub memory_is : memory ≡ home
  pub offset_is : offset ≡ start_of (answer_of text words levels path) + base
  pub number_is : number ≡ number_of (answer_of text words levels path)
  pub place_is : place ≡ place_of (answer_of text words levels path)
  pub step_is : step ≡ step_of (answer_of text words levels path)
