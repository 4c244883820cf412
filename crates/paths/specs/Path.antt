-- Reading a path, one step at a time. "Reading a step hands back either the step with what follows it, or a refusal with its place."
-- (proofs/Reading.antt: it reads exactly the paths of the grammar.)
use Rattle.std.specs.Prelude.{ℕ, zero, suc, ◌+◌, ◌-◌, ◌*◌, Bool, false, not, ◌&&◌, ◌||◌, List, [], ◌∷◌, length, get_or, ltb, leb, eqb}
use Rattle.rules.specs.Word.{pick}
use Rattle.paths.specs.Places.{byte_in, between, first_at}
use Rattle.paths.specs.Grammar.{Selector, name, number}

-- what stands at a place: `.name`, its bytes b to f, and what follows it from x on; `[number]`, its value, and what follows it; nothing more; or no
-- step, with the place of the first byte that no path could have there, or the length
pub data StepAt : Type 0 where
  Name : (b f x : ℕ) → StepAt
  Number : (v x : ℕ) → StepAt
  End : StepAt
  Refused : ℕ → StepAt

abbrev pub in_range : ℕ → ℕ → ℕ → Bool
in_range lo hi b = leb lo b && leb b hi

unfoldable pub is_digit : ℕ → Bool
is_digit b = in_range 48 57 b

-- "an ASCII letter or underscore"
unfoldable pub is_head : ℕ → Bool
is_head b = in_range 65 90 b || (in_range 97 122 b || eqb b 95)

-- "those or digits"
unfoldable pub is_tail : ℕ → Bool
unfolding is_head is_digit
is_tail b = is_head b || is_digit b

-- one past the last place of a run of bytes of a class
abbrev pub run_end : (ℕ → Bool) → List ℕ → ℕ → ℕ
run_end class path a = first_at (λ i. not (class (get_or path i 0))) a (length path)

-- the value of c digits from a on
unfoldable pub decimal : List ℕ → ℕ → ℕ → ℕ
decimal path a zero = 0
decimal path a (suc c) = decimal path a c * 10 + (get_or path (a + c) 0 - 48)

-- "`0`, or digits without a leading zero": where the digits that begin at a end
abbrev pub number_end : List ℕ → ℕ → ℕ
number_end path a = pick (eqb (get_or path a 0) 48) (a + 1) (run_end is_digit path (a + 1))

-- a name that begins at a
abbrev pub name_at : List ℕ → ℕ → StepAt
name_at path a = pick (is_head (get_or path a 0)) (Name a (run_end is_tail path (a + 1)) (run_end is_tail path (a + 1))) (Refused a)

-- the bracket at e, behind a number of value v
abbrev pub bracketed : List ℕ → ℕ → ℕ → StepAt
bracketed path e v = pick (eqb (get_or path e 0) 93) (Number v (e + 1)) (Refused e)

-- a number that begins at a, with its bracket
abbrev pub number_at : List ℕ → ℕ → StepAt
number_at path a =
    pick (is_digit (get_or path a 0))
    (bracketed path (number_end path a) (decimal path a (number_end path a - a)))
    (Refused a)

-- the step that begins at a place
unfoldable pub step_at : List ℕ → ℕ → StepAt
unfolding is_head is_digit is_tail decimal
step_at path at =
    pick (ltb at (length path))
    (pick (eqb (get_or path at 0) 46)
    (name_at path (at + 1))
    (pick (eqb (get_or path at 0) 91)
    (number_at path (at + 1))
    (Refused at)))
    End

-- by the kind of a step
abbrev pub on_step {ℓ} : {A : Type ℓ} → StepAt → (ℕ → ℕ → ℕ → A) → (ℕ → ℕ → A) → A → (ℕ → A) → A
on_step (Name b f x) named numbered end refused = named b f x
on_step (Number v x) named numbered end refused = numbered v x
on_step End named numbered end refused = end
on_step (Refused p) named numbered end refused = refused p

-- ---- the whole path

-- its selectors, or the place of 20
pub data Reading : Type 0 where
  good : List Selector → Reading
  bad : ℕ → Reading

-- a selector before what is read
abbrev pub before : Selector → Reading → Reading
before s (good ss) = good (s ∷ ss)
before s (bad p) = bad p

-- from a place on, at most so many steps. (Each takes a byte at least, so none is left over.)
unfoldable pub read_from : ℕ → List ℕ → ℕ → Reading
unfolding step_at
read_from zero path at = bad at
read_from (suc c) path at =
    on_step (step_at path at)
    (λ b f x. before (name (between (byte_in path) b f)) (read_from c path x))
    (λ v x. before (number v) (read_from c path x))
    (good [])
    bad

unfoldable pub read_path : List ℕ → Reading
unfolding read_from
read_path path = pick (eqb (get_or path 0 0) 36) (read_from (length path) path 1) (bad 0)

-- "a number above 16,777,215"
unfoldable pub large : List Selector → Bool
large [] = false
large (name n ∷ ss) = large ss
large (number m ∷ ss) = ltb 16777215 m || large ss
