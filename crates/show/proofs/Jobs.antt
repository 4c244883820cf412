-- The line after the job, by its answer.
use Prim.Native.Nat.{ℕ}
use mathlib.Core.Path.{◌≡◌, sym, ◌∙◌}
use mathlib.Core.List.{List}
use Rattle.index.specs.declared.Answer.{Answer}
use Rattle.index.specs.declared.Answer.TheVariants.{Done}
use Rattle.index.specs.Answers.{number_of, place_of}
use Rattle.index.proofs.AnswerLaws.{not_done}
use Rattle.query.specs.Answers.{answer_of}
use Rattle.show.specs.declared.printing.Printed.{Printed}
use Rattle.show.specs.Running.{job_answer, job_words}
use Rattle.show.specs.Printing.{placed, query_printed, printed_in}

module _ (text words cuts path : List ℕ) (l : Printed) where
  pub after_done : job_answer text words cuts ≡ Done → {after : List ℕ} → after ≡ job_words text words cuts → l ≡ query_printed (answer_of text after 4 path)
      → l ≡ printed_in text words cuts path
  unfolding printed_in
  after_done e f g = rw (e, ← f) g

  pub after_other : {a : Answer} → a ≡ job_answer text words cuts → (a ≡ Done → ⊥) → l ≡ placed (number_of a) (place_of a)
      → l ≡ printed_in text words cuts path
  unfolding printed_in
  after_other {a} e t h = rw (← e) (h ∙ sym (not_done a _ _ t))
