-- Any two outcomes that the contracts of `answer` and `query` allow coincide: each clause names the one value.
use Prim.Native.Nat.{ℕ}
use mathlib.Core.Path.{◌≡◌, sym, ◌∙◌}
use mathlib.Core.List.{List}
use Rattle.query.specs.Outcomes.{AnswerGives, QueryGives}
use Rattle.query.specs.Answer.{Answer}

module _ (text words : List ℕ) (levels : ℕ) (path : List ℕ) where
  pub same_answer : {r q : Answer} → AnswerGives text words levels path r → AnswerGives text words levels path q → r ≡ q
  same_answer h k = h ∙ sym k

  pub same_query : {home base : ℕ} {part also : List ℕ} {memory there offset behind number told place at step also-step : ℕ}
      → QueryGives text words levels path home base part memory offset number place step → QueryGives text words levels path home base also there behind told at also-step
      → (part ≡ also) × (memory ≡ there) × (offset ≡ behind) × (number ≡ told) × (place ≡ at) × (step ≡ also-step)
  same_query h k =
      (h.part_is ∙ sym k.part_is, h.memory_is ∙ sym k.memory_is, h.offset_is ∙ sym k.offset_is, h.number_is ∙ sym k.number_is, h.place_is ∙ sym k.place_is, h.step_is ∙ sym k.step_is)
