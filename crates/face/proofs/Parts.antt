-- What a foreign caller hears of a query, and may rely on: which numbers there are, that a part lies in the record, as a found part does, and that the place
-- of a miss or a broken item does.
use Prim.Native.Nat.{ℕ, ◌+◌, ◌-◌, ◌≤◌, ◌<◌}
use mathlib.Core.Path.{◌≡◌, sym, ◌∙◌, subst}
use mathlib.Core.List.{List}
use mathlib.Core.Logic.{◌⊎◌, inl, inr}
use native.Mathlib.Omega.{arith}
use lib.ListN.{length, take, drop, length-drop}
use lib.Seq.{length-take-le}
use Rattle.std.specs.Prelude.{Ok}
use Rattle.query.specs.Answer.{Answer, Found, Refused}
use Rattle.query.specs.declared.types.Refusal.{Refusal}
use Rattle.query.specs.declared.types.Refusal.TheVariants.{EmptyRecord, LongRecord, BadLevels, BadBuffer, BadPath, TooLarge, TooDeep, Missed, Broken}
use Rattle.query.specs.Answers.{answer_of, number_of, place_of, refusal_number, part_of}
use Rattle.query.proofs.Inside.{InRecord, answer_in}
use Rattle.walks.proofs.Giving.{miss_number_range, cause_number_range}
use Rattle.walks.proofs.Telling.{told_inside}
use Rattle.face.specs.Outcomes.{QueryTells}

refused_number : (why : Refusal) → (1 ≤ refusal_number why) × ((refusal_number why ≤ 4) ⊎ ((20 ≤ refusal_number why) × (refusal_number why ≤ 30)))
refused_number EmptyRecord = (omega arith, inl (omega arith))
refused_number LongRecord = (omega arith, inl (omega arith))
refused_number BadLevels = (omega arith, inl (omega arith))
refused_number BadBuffer = (omega arith, inl (omega arith))
refused_number (BadPath p) = (omega arith, inr (omega arith, omega arith))
refused_number TooLarge = (omega arith, inr (omega arith, omega arith))
refused_number TooDeep = (omega arith, inr (omega arith, omega arith))
refused_number (Missed why k p) = let m = miss_number_range why in (omega arith, inr (omega arith, omega arith))
refused_number (Broken why k p) = let m = cause_number_range why in (omega arith, inr (omega arith, omega arith))

-- the contract allows one outcome
pub query_one : {text words path : List ℕ} {levels n m p q s z k j : ℕ} → QueryTells text words levels path n p s k → QueryTells text words levels path m q z j
    → (n ≡ m) × (p ≡ q) × (s ≡ z) × (k ≡ j)
query_one t u = (t.number_is ∙ sym u.number_is, t.place_is ∙ sym u.place_is, t.size_is ∙ sym u.size_is, t.step_is ∙ sym u.step_is)

module _ (text words : List ℕ) (levels : ℕ) (path : List ℕ) {number place size step : ℕ} (tells : QueryTells text words levels path number place size step) where
  -- wararish_query tells 0 to 4 or 20 to 30
  pub query_numbers : (number ≤ 4) ⊎ ((20 ≤ number) × (number ≤ 30))
  query_numbers = subst (λ (n : ℕ). (n ≤ 4) ⊎ ((20 ≤ n) × (n ≤ 30))) (sym tells.number_is) (go (answer_of text words levels path))
    where
      go : (a : Answer) → (number_of a ≤ 4) ⊎ ((20 ≤ number_of a) × (number_of a ≤ 30))
      go (Ok part) = inl (omega arith)
      go (Refused why) = (refused_number why).1

  -- 0: so many bytes from the place on lie in the record, and are the part
  pub part_told : number ≡ 0 → (0 < size) × (place + size ≤ length text) × (take size (drop place text) ≡ part_of text (answer_of text words levels path))
  part_told z = go (answer_of text words levels path) (answer_in text words levels path) tells.number_is tells.place_is tells.size_is
    where
      go : (a : Answer) → InRecord (length text) a → number ≡ number_of a → place ≡ place_of a → size ≡ length (part_of text a)
          → (0 < size) × (place + size ≤ length text) × (take size (drop place text) ≡ part_of text a)
      go (Ok part) i n p l =
          let long : size ≡ part.end - part.start = l ∙ length-take-le (part.end - part.start) (drop part.start text) (omega (arith, i, length-drop part.start text)) in
          (omega (arith, i, long), omega (arith, i, long, p), rw (long, p))
      go (Refused why) i n p l = absurd (omega (arith, n, z, (refused_number why).0))

  -- any other number: there is none
  pub no_part_told : (number ≡ 0 → ⊥) → size ≡ 0
  no_part_told z = go (answer_of text words levels path) tells.number_is tells.size_is
    where
      go : (a : Answer) → number ≡ number_of a → size ≡ length (part_of text a) → size ≡ 0
      go (Ok part) n l = absurd (z n)
      go (Refused why) n l = l

  -- 23 to 30: the record has a byte at the place
  pub place_told : 23 ≤ number → place < length text
  place_told h = let i = told_inside text words levels path (omega (arith, tells.number_is)) in omega (arith, i, tells.place_is)
