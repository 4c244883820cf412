-- Lists of numbers compared, and what holds whatever a comparison gives.
use Prim.Native.Nat.{ℕ}
use mathlib.Core.Path.{◌≡◌, refl, ap, ap₂}
use mathlib.Core.Logic.{◌↔◌}
use mathlib.Core.Bool.{Bool, true, false, ◌&&◌, false≢true}
use mathlib.Core.List.{List, [], ◌∷◌}
use lib.Dec.{eqb}
use lib.Pointwise.{pointwise}
use borrow.Author.Tests.{eqb-true, eq-eqb}
use Rattle.std.proofs.Common.{Ok, Err}
use Rattle.names.specs.Spelling.{same, Match, on_match, no_escape}
use Rattle.paths.proofs.PathLaws.{both_true}

-- lists are the same exactly where their numbers are
same_bytes : (xs ys : List ℕ) → same xs ys ≡ true → xs ≡ ys
unfolding same
same_bytes [] [] e = refl
same_bytes [] (y ∷ ys) e = absurd (false≢true e)
same_bytes (x ∷ xs) [] e = absurd (false≢true e)
same_bytes (x ∷ xs) (y ∷ ys) e = let h = both_true (eqb x y) (same xs ys) e in ap₂ ◌∷◌ (eqb-true x y h.0) (same_bytes xs ys h.1)

same_self : (xs : List ℕ) → same xs xs ≡ true
unfolding same
same_self [] = refl
same_self (x ∷ xs) = rw (eq-eqb x x refl) (same_self xs)

pub same_exactly : (xs ys : List ℕ) → (same xs ys ≡ true) ↔ (xs ≡ ys)
same_exactly xs ys = (same_bytes xs ys, λ e. rw (← e) (same_self xs))

-- `==` of two slices is this comparison
pub same_is : (xs ys : List ℕ) → same xs ys ≡ pointwise eqb xs ys
unfolding same
same_is [] [] = refl
same_is [] (y ∷ ys) = refl
same_is (x ∷ xs) [] = refl
same_is (x ∷ xs) (y ∷ ys) = ap (λ (b : Bool). eqb x y && b) (same_is xs ys)

-- what holds of all three answers holds of the answer
pub match_ind {ℓ} : {A : Type ℓ} (P : A → Type 0) (m : Match) (x y z : A)
    → (m ≡ Ok true → P x) → (m ≡ Ok false → P y) → (m ≡ Err no_escape → P z) → P (on_match m x y z)
match_ind P (Ok true) x y z f g h = f refl
match_ind P (Ok false) x y z f g h = g refl
match_ind P (Err e) x y z f g h = h refl
