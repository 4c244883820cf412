-- The byte classes, the value of digits, and where a step ends. By the tests of the definitions, one after another.
use Prim.Native.Nat.{ℕ, suc, ◌+◌, ◌-◌, ◌*◌, ◌≤◌, ◌<◌, min}
use mathlib.Core.Path.{◌≡◌, refl, sym, ap, ◌∙◌, subst}
use mathlib.Core.Bool.{Bool, true, false, not, ◌&&◌, ◌||◌, true≢false, false≢true}
use mathlib.Core.List.{List}
use Rattle.std.proofs.Common.{Option, Some, None, Result, Ok, Err}
use native.Mathlib.Omega.{arith}
use native.Mathlib.Nat.{lt_of_not-le}
use lib.Dec.{leb, ltb, eqb}
use lib.ListN.{length, get_or, get_or-eq_default}
use borrow.Author.Tests.{le-leb, lt-leb, leb-true, ne_eqb}
use Rattle.std.specs.Char.{is_ascii_digit, is_ascii_alphabetic}
use Rattle.rules.specs.Word.{pick}
use Rattle.paths.specs.Path.{in_range, is_digit, is_head, is_tail, run_end, decimal, number_end, bracketed, name_at, number_at, StepAt, step_at, on_step}
use Rattle.paths.specs.Helpers.{told}
use Rattle.paths.specs.declared.BadPath.{BadPath}
use Rattle.paths.specs.declared.PathStep.{PathStep}
use Rattle.paths.specs.declared.PathStep.TheVariants as Held
use Rattle.paths.proofs.PlaceLaws.{pick_ind, first_next, first_ge, first_le}

-- ---- classes

pub range_in : (lo hi b : ℕ) → lo ≤ b → b ≤ hi → in_range lo hi b ≡ true
range_in lo hi b h l = simp (le-leb lo b h, le-leb b hi l)

pub range_above : (lo hi b : ℕ) → lo ≤ b → hi < b → in_range lo hi b ≡ false
range_above lo hi b h l = simp (le-leb lo b h, lt-leb b hi l)

pub both_true : (x y : Bool) → (x && y) ≡ true → (x ≡ true) × (y ≡ true)
both_true true y e = (refl, e)
both_true false y e = absurd (false≢true e)

pub range_of : (lo hi b : ℕ) → in_range lo hi b ≡ true → (lo ≤ b) × (b ≤ hi)
range_of lo hi b e = let p = both_true (leb lo b) (leb b hi) e in (leb-true lo b p.0, leb-true b hi p.1)

pub or_or : (a b c : Bool) → (a || (b || c)) ≡ ((a || b) || c)
or_or true b c = refl
or_or false b c = refl

pub digit_is : (b : ℕ) → is_digit b ≡ is_ascii_digit b
unfolding is_digit
digit_is b = refl

pub head_is : (b : ℕ) → is_head b ≡ (is_ascii_alphabetic b || eqb b 95)
unfolding is_head
head_is b = or_or (in_range 65 90 b) (in_range 97 122 b) (eqb b 95)

pub digit_range : (b : ℕ) → is_digit b ≡ true → (48 ≤ b) × (b ≤ 57)
unfolding is_digit
digit_range b e = range_of 48 57 b e

-- a byte of a class that 0 is not in lies inside the path
pub inside : (class : ℕ → Bool) → class 0 ≡ false → (s : List ℕ) (a : ℕ) → class (get_or s a 0) ≡ true → a < length s
inside class z s a h = lt_of_not-le (λ (g : length s ≤ a). true≢false (sym h ∙ ap class (get_or-eq_default s 0 g) ∙ z))

-- ---- numbers

-- one digit more
pub decimal_next : (s : List ℕ) (a i : ℕ) → a ≤ i → decimal s a (i + 1 - a) ≡ decimal s a (i - a) * 10 + (get_or s i 0 - 48)
unfolding decimal
decimal_next s a i h =
    let e : i + 1 - a ≡ suc (i - a) = omega arith in
    let f : a + (i - a) ≡ i = omega arith in
    rw (e, f)

-- the code's way to tell a number reads it off its size alone
pub told_large : (s : List ℕ) (e v : ℕ) → told (bracketed s e v) ≡ told (bracketed s e (min v 16777216))
unfolding told
told_large s e v =
    go (eqb (get_or s e 0) 93)
  where
    go : (b : Bool) → told (pick b (StepAt.Number v (e + 1)) (StepAt.Refused e)) ≡ told (pick b (StepAt.Number (min v 16777216) (e + 1)) (StepAt.Refused e))
    go true = let m : min (min v 16777216) 16777216 ≡ min v 16777216 = omega arith in rw m
    go false = refl

pub name_none : (s : List ℕ) (a : ℕ) → is_head (get_or s a 0) ≡ false → name_at s a ≡ StepAt.Refused a
name_none s a h = rw h

pub name_some : (s : List ℕ) (a : ℕ) → is_head (get_or s a 0) ≡ true → name_at s a ≡ StepAt.Name a (run_end is_tail s (a + 1)) (run_end is_tail s (a + 1))
name_some s a h = rw h

-- no class that 0 is not in has a byte behind the path
pub behind : (class : ℕ → Bool) → class 0 ≡ false → (s : List ℕ) (a : ℕ) → length s ≤ a → class (get_or s a 0) ≡ false
behind class z s a h = ap class (get_or-eq_default s 0 h) ∙ z

pub head_behind : (s : List ℕ) (a : ℕ) → length s ≤ a → is_head (get_or s a 0) ≡ false
unfolding is_head
head_behind = behind is_head refl

pub digit_behind : (s : List ℕ) (a : ℕ) → length s ≤ a → is_digit (get_or s a 0) ≡ false
unfolding is_digit
digit_behind = behind is_digit refl

pub number_none : (s : List ℕ) (a : ℕ) → is_digit (get_or s a 0) ≡ false → number_at s a ≡ StepAt.Refused a
number_none s a h = rw h

pub number_zero : (s : List ℕ) (a : ℕ) → get_or s a 0 ≡ 48 → number_at s a ≡ bracketed s (a + 1) 0
unfolding is_digit decimal
number_zero s a h =
    let z : a - a ≡ 0 = omega arith in
    let n : decimal s a (a - a) ≡ 0 = rw z in
    let v : decimal s a (a + 1 - a) ≡ 0 = omega (arith, decimal_next s a a (omega arith)) in
    rw h (ap (bracketed s (a + 1)) v)

pub number_long : (s : List ℕ) (a : ℕ) → a < length s → is_digit (get_or s a 0) ≡ true → (get_or s a 0 ≡ 48 → ⊥)
    → number_at s a ≡ bracketed s (run_end is_digit s a) (decimal s a (run_end is_digit s a - a))
number_long s a l d h =
    let e : run_end is_digit s a ≡ run_end is_digit s (a + 1) = first_next _ a (length s) l (rw d) in
    rw (d, ne_eqb (get_or s a 0) 48 h, e)

-- ---- a step that begins at `at` lies in the path, and what follows it is further on

abbrev pub Ends : List ℕ → ℕ → StepAt → Type 0
Ends s at st = on_step st (λ b f x. (b < f) × (f ≤ length s) × (at < x) × (x ≤ length s)) (λ v x. (at < x) × (x ≤ length s)) (Unit {0}) (λ p. Unit {0})

name_ends : (s : List ℕ) (at a : ℕ) → at < a → Ends s at (name_at s a)
unfolding is_head
name_ends s at a l =
    pick_ind (Ends s at) (is_head (get_or s a 0)) _ _
    (λ h. let i : a < length s = inside is_head refl s a h in
    let g : a + 1 ≤ run_end is_tail s (a + 1) = first_ge _ (a + 1) (length s) (omega arith) in
    let k : run_end is_tail s (a + 1) ≤ length s = first_le _ (a + 1) (length s) (omega arith) in
    (omega arith, omega arith, omega arith, omega arith))
    (λ h. tt)

bracketed_ends : (s : List ℕ) (at e v : ℕ) → at < e → Ends s at (bracketed s e v)
bracketed_ends s at e v l =
    pick_ind (Ends s at) (eqb (get_or s e 0) 93) _ _
    (λ h. let i : e < length s = inside (λ b. eqb b 93) refl s e h in (omega arith, omega arith))
    (λ h. tt)

number_ends : (s : List ℕ) (at a : ℕ) → at < a → Ends s at (number_at s a)
unfolding is_digit
number_ends s at a l =
    pick_ind (Ends s at) (is_digit (get_or s a 0)) _ _
    (λ h. let i : a < length s = inside is_digit refl s a h in
    let e : at < number_end s a = pick_ind (λ n. at < n) (eqb (get_or s a 0) 48) _ _ (λ _. omega arith) (λ _. omega (arith, first_ge (λ k. not (is_digit (get_or s k 0))) (a + 1) (length s) (omega arith))) in
    bracketed_ends s at (number_end s a) _ e)
    (λ h. tt)

pub step_ends : (s : List ℕ) (at : ℕ) → Ends s at (step_at s at)
unfolding step_at
step_ends s at =
    pick_ind (Ends s at) (ltb at (length s)) _ _
    (λ h. pick_ind (Ends s at) (eqb (get_or s at 0) 46) _ _ (λ _. name_ends s at (at + 1) (omega arith))
    (λ _. pick_ind (Ends s at) (eqb (get_or s at 0) 91) _ _ (λ _. number_ends s at (at + 1) (omega arith)) (λ _. tt)))
    (λ h. tt)

-- ---- the step that the code holds

-- what the step is, by what the code holds of it
abbrev Of : StepAt → Result (Option PathStep) BadPath → Type 0
Of st (Ok (Some (Held.Name b f x))) = st ≡ StepAt.Name b f x
Of st (Ok (Some (Held.Number m x))) = (v : ℕ) × (st ≡ StepAt.Number v x) × (m ≡ min v 16777216)
Of st (Ok None) = st ≡ StepAt.End
Of st (Err bad) = st ≡ StepAt.Refused bad.place

of_told : (st : StepAt) → Of st (told st)
unfolding told
of_told (StepAt.Name b f x) = refl
of_told (StepAt.Number v x) = (v, refl, refl)
of_told StepAt.End = refl
of_told (StepAt.Refused p) = refl

module _ (s : List ℕ) (at : ℕ) where
  held : {r : Result (Option PathStep) BadPath} → told (step_at s at) ≡ r → Of (step_at s at) r
  held e = subst (Of (step_at s at)) e (of_told (step_at s at))

  pub name_told : {b f x : ℕ} → told (step_at s at) ≡ Ok (Some (Held.Name b f x)) → (step_at s at ≡ StepAt.Name b f x) × (b < f) × (f ≤ length s) × (at < x) × (x ≤ length s)
  name_told e = let q = held e in let i = subst (Ends s at) q (step_ends s at) in (q, i.0, i.1, i.2, i.3)

  pub number_told : {m x : ℕ} → told (step_at s at) ≡ Ok (Some (Held.Number m x)) → (v : ℕ) × (step_at s at ≡ StepAt.Number v x) × (m ≡ min v 16777216) × (at < x) × (x ≤ length s)
  number_told e = let q = held e in let i = subst (Ends s at) q.1 (step_ends s at) in (q.0, q.1, q.2, i.0, i.1)

  pub end_told : told (step_at s at) ≡ Ok None → step_at s at ≡ StepAt.End
  end_told e = held e

  pub bad_told : {bad : BadPath} → told (step_at s at) ≡ Err bad → step_at s at ≡ StepAt.Refused bad.place
  bad_told e = held e
