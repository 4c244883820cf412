-- How the laws speak of numbers: "each number comes only under its condition", in the order of the checks.
use Rattle.std.specs.Prelude.{ℕ, ◌≤◌, ◌<◌, ◌≡◌, ◌↔◌, ◌⊎◌, Bool, true, false, List, [], ◌∷◌, length, get_or}
use Rattle.index.specs.declared.Refusal.TheVariants.{Empty}
use Rattle.index.specs.declared.Answer.{Answer}
use Rattle.index.specs.Answers.{refusal_number, number_of, Check}

-- 1 to 12: nothing was done
abbrev pub Refuses : Answer → Type 0
Refuses a = (1 ≤ number_of a) × (number_of a ≤ 12)

-- the condition of check i (the list is longer than i wherever this is asked), and its number
abbrev pub condition : List Check → ℕ → Bool
condition checks i = (get_or checks i (false, Empty)).0

abbrev pub number : List Check → ℕ → ℕ
number checks i = refusal_number (get_or checks i (false, Empty)).1

-- all their numbers
abbrev pub numbers : List Check → List ℕ
numbers [] = []
numbers (c ∷ later) = refusal_number c.1 ∷ numbers later

-- condition i holds and no earlier one does
pub record First (checks : List Check) (i : ℕ) : Type 0 where
  pub holds : condition checks i ≡ true
  pub none_before : (e : ℕ) → e < i → condition checks e ≡ false

-- no condition holds
abbrev pub NoneHolds : List Check → Type 0
NoneHolds checks = (e : ℕ) → e < length checks → condition checks e ≡ false

-- of an answer by these checks, and `otherwise` without a refusal: each number exactly when its condition holds and no earlier one
-- does, and no other number
pub record Exactly (checks : List Check) (otherwise a : Answer) : Type 0 where
  pub refused : (i : ℕ) → i < length checks → (number_of a ≡ number checks i) ↔ First checks i
  pub accepted : (number_of a ≡ number_of otherwise) ↔ NoneHolds checks
  pub no_other : (number_of a ≡ number_of otherwise) ⊎ ((i : ℕ) × ((i < length checks) × (number_of a ≡ number checks i)))
