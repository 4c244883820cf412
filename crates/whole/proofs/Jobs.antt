-- What the code answers and leaves is the whole run's: a refused opening is its answer, and behind an accepted one the calls are the run.
use Prim.Native.Nat.{ℕ}
use mathlib.Core.Path.{◌≡◌, refl, sym, ap, ◌∙◌}
use mathlib.Core.List.{List}
use lib.ListN.{length}
use Rattle.index.specs.declared.Answer.TheVariants.{Done}
use Rattle.index.specs.declared.Job.{Job}
use Rattle.index.specs.declared.Handed.{Handed}
use Rattle.index.specs.Opening.{opening, opened}
use Rattle.index.specs.Outcomes.{OpenGives, CloseGives}
use Rattle.index.proofs.AnswerLaws.{not_done}
use Rattle.runs.specs.Runs.{Call, answer, act, run, start}
use Rattle.runs.specs.Whole.{held, whole_answer, whole_words}

module _ (text words : List ℕ) (levels : ℕ) (cuts : List ℕ) (calls : List Call) (o : Handed) (eo : OpenGives text words levels cuts o) where
  answer_is : o.answer ≡ opening (length text) (length words) levels cuts
  unfolding opened
  answer_is = ap (λ (h : Handed). h.answer) eo

  pub refused_whole : (o.answer ≡ Done → ⊥)
      → (o.answer ≡ whole_answer text words levels cuts calls) × (words ≡ whole_words text words levels cuts calls)
  unfolding whole_answer whole_words
  refused_whole t = rw (← answer_is) (sym (not_done o.answer _ _ t), sym (not_done o.answer _ _ t))

  pub closed_whole : o.answer ≡ Done → (j : Job) (before left : List ℕ) (c : Handed) → held j before ≡ run text calls (held o.job words) → CloseGives j text before c left
      → (c.answer ≡ whole_answer text words levels cuts calls) × (left ≡ whole_words text words levels cuts calls)
  unfolding whole_answer whole_words answer act start
  closed_whole done j before left c e ec =
      let ran : held j before ≡ run text calls (start text levels cuts words) = e ∙ rw eo in
      rw (sym answer_is ∙ done, ec.hands, ec.leaves, ← ran) (refl, refl)
