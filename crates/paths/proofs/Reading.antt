-- The reading of a path is exact against the grammar: a path is read as exactly its selectors, nothing else is read, and a refusal's place is literally
-- the scope's. The reading by steps is the byte machine's, step after step.
use Prim.Native.Nat.{ℕ, zero, suc, ◌+◌, ◌-◌, ◌*◌, ◌≤◌, ◌<◌}
use mathlib.Core.Path.{◌≡◌, refl, sym, ap, ap₂, ◌∙◌, subst}
use mathlib.Core.Bool.{Bool, true, false, not, true≢false}
use mathlib.Core.List.{List, [], ◌∷◌, ◌++◌, append-nil, append_assoc}
use mathlib.Core.Logic.{⊎_elim}
use native.Mathlib.Nat.{eq-or-lt_of_le}
use native.Mathlib.Numerals.{add-one}
use native.Mathlib.Omega.{arith}
use lib.Dec.{eqb, ltb}
use lib.ListN.{length, get_or, take, drop, take-append-drop, get_or-eq_default}
use lib.Seq.{drop-cons, drop-length, take-take}
use borrow.Author.Tests.{ltb-true, ltb-false, eqb-true, not-true, not-false, ne_eqb}
use Rattle.rules.specs.Word.{pick}
use Rattle.paths.specs.Places.{byte_in, between}
use Rattle.paths.specs.Grammar.{Selector, name, number, Path, Begins, RefusedAt}
use Rattle.paths.specs.Path.{is_digit, is_head, is_tail, run_end, decimal, number_end, bracketed, name_at, number_at, StepAt, step_at, on_step, Reading, good, bad, before, read_from, read_path}
use Rattle.paths.proofs.PlaceLaws.{between_none, between_some, pick_ind, first_ind, first_le, first_hit}
use Rattle.paths.proofs.PathLaws.{Ends, step_ends, inside, decimal_next}
use Rattle.paths.proofs.Machine.{Mode, start, after, dotted, opened, nought, naming, counting, Move, stop, to, emit, move, ended, follow, read, machine_reads}
use Rattle.paths.proofs.Grammars.{machine_good, machine_bad}

-- the machine, from a place of the path on
abbrev from : List ℕ → Mode → ℕ → Reading
from path m i = read m i (drop i path)

-- ---- the laws of `from`

from_end : (path : List ℕ) (m : Mode) (i : ℕ) → i ≡ length path → from path m i ≡ ended m i
from_end path m i e = ap (read m i) (ap (λ (j : ℕ). drop j path) e ∙ drop-length path)

from_step : (path : List ℕ) (m : Mode) (i : ℕ) → i < length path → from path m i ≡ follow (move m (get_or path i 0)) i (λ m'. from path m' (suc i))
from_step path m i h = ap (read m i) (drop-cons path i 0 h)

from_go : (path : List ℕ) (m n : Mode) (i : ℕ) → i < length path → move m (get_or path i 0) ≡ to n → from path m i ≡ from path n (suc i)
from_go path m n i h e = from_step path m i h ∙ ap (λ (v : Move). follow v i (λ m'. from path m' (suc i))) e

from_emit : (path : List ℕ) (m n : Mode) (s : Selector) (i : ℕ) → i < length path → move m (get_or path i 0) ≡ emit s n → from path m i ≡ before s (from path n (suc i))
from_emit path m n s i h e = from_step path m i h ∙ ap (λ (v : Move). follow v i (λ m'. from path m' (suc i))) e

-- a byte without a move, or none
from_halt : (path : List ℕ) (m : Mode) (i : ℕ) → i ≤ length path → ended m i ≡ bad i → move m (get_or path i 0) ≡ stop → from path m i ≡ bad i
from_halt path m i h n e =
    ⊎_elim (λ (z : i ≡ length path). from_end path m i z ∙ n)
    (λ l. from_step path m i l ∙ ap (λ (v : Move). follow v i (λ m'. from path m' (suc i))) e) (eq-or-lt_of_le h)

-- where a run ends the class does not hold
run_over : (class : ℕ → Bool) → class 0 ≡ false → (path : List ℕ) (a : ℕ) → a ≤ length path → class (get_or path (run_end class path a) 0) ≡ false
run_over class z path a h =
    let t : ℕ → Bool = λ i. not (class (get_or path i 0)) in
    ⊎_elim (λ (e : run_end class path a ≡ length path). ap class (get_or-eq_default path 0 (omega arith)) ∙ z)
    (λ l. not-true (class (get_or path (run_end class path a) 0)) (first_hit t a (length path) h l)) (eq-or-lt_of_le (first_le t a (length path) h))

-- ---- a name

-- a run of a name's bytes
stay_name : (path : List ℕ) (a : ℕ) → a ≤ length path
    → (a ≤ run_end is_tail path a) × ((n : List ℕ) → from path (naming n) a ≡ from path (naming (n ++ between (byte_in path) a (run_end is_tail path a))) (run_end is_tail path a))
unfolding byte_in
stay_name path a h =
    first_ind (λ i r. (i ≤ r) × ((n : List ℕ) → from path (naming n) i ≡ from path (naming (n ++ between (byte_in path) i r)) r)) (λ i. not (is_tail (get_or path i 0))) (length path)
    (omega arith, λ n. none n (length path)) (λ i l y. (omega arith, λ n. none n i))
    (λ i r l y p. (
      omega (arith, p.0),
      λ n. from_go path (naming n) (naming (n ++ (get_or path i 0 ∷ []))) i l (rw (not-false (is_tail (get_or path i 0)) y)) ∙ p.1 (n ++ (get_or path i 0 ∷ []))
          ∙ ap (λ (m : List ℕ). from path (naming m) r) (append_assoc n (get_or path i 0 ∷ []) (between (byte_in path) (suc i) r) ∙ ap (λ (m : List ℕ). n ++ m) (sym (between_some (byte_in path) i r p.0))),
    )) a h
  where
    none : (n : List ℕ) (i : ℕ) → from path (naming n) i ≡ from path (naming (n ++ between (byte_in path) i i)) i
    none n i = ap (λ (m : List ℕ). from path (naming m) i) (sym (ap (λ (m : List ℕ). n ++ m) (between_none (byte_in path) i i (omega arith)) ∙ append-nil n))

-- where a name ends, what may follow is what may follow `$`
leave : (path n : List ℕ) (e : ℕ) → e ≤ length path → is_tail (get_or path e 0) ≡ false → from path (naming n) e ≡ before (name n) (from path after e)
leave path n e h c =
    ⊎_elim (λ (z : e ≡ length path). from_end path (naming n) e z ∙ ap (before (name n)) (sym (from_end path after e z)))
    (λ l. from_step path (naming n) e l ∙ rw c (sep (eqb (get_or path e 0) 46) (eqb (get_or path e 0) 91)) ∙ ap (before (name n)) (sym (from_step path after e l))) (eq-or-lt_of_le h)
  where
    sep : (a b : Bool) → follow (pick a (emit (name n) dotted) (pick b (emit (name n) opened) stop)) e (λ m'. from path m' (suc e))
        ≡ before (name n) (follow (pick a (to dotted) (pick b (to opened) stop)) e (λ m'. from path m' (suc e)))
    sep true b = refl
    sep false true = refl
    sep false false = refl

-- ---- a number

-- a run of digits, of a number that begins at b
stay_digits : (path : List ℕ) (b a : ℕ) → b ≤ a → a ≤ length path
    → from path (counting (decimal path b (a - b))) a ≡ from path (counting (decimal path b (run_end is_digit path a - b))) (run_end is_digit path a)
stay_digits path b a l h =
    first_ind (λ i r. b ≤ i → from path (counting (decimal path b (i - b))) i ≡ from path (counting (decimal path b (r - b))) r) (λ i. not (is_digit (get_or path i 0))) (length path)
    (λ _. refl) (λ i l y _. refl)
    (λ i r l y p g. from_go path (counting (decimal path b (i - b))) (counting (decimal path b (suc i - b))) i l (rw (not-false (is_digit (get_or path i 0)) y) (more i g)) ∙ p (omega arith)) a h l
  where
    more : (i : ℕ) → b ≤ i → to (counting (decimal path b (i - b) * 10 + (get_or path i 0 - 48))) ≡ to (counting (decimal path b (suc i - b)))
    more i g = ap (λ (v : ℕ). to (counting v)) (sym (ap (λ (j : ℕ). decimal path b (j - b)) (sym (add-one i)) ∙ decimal_next path b i g))

-- ---- a step

-- what the machine makes of a step that begins at `at`
abbrev Follows : List ℕ → ℕ → StepAt → Type 0
Follows path at st =
    on_step st
    (λ b f x. from path after at ≡ before (name (between (byte_in path) b f)) (from path after x))
    (λ v x. from path after at ≡ before (number v) (from path after x))
    (from path after at ≡ good [])
    (λ p. from path after at ≡ bad p)

name_follows : (path : List ℕ) (at a : ℕ) → a ≤ length path → from path after at ≡ from path dotted a → Follows path at (name_at path a)
unfolding is_head is_tail is_digit byte_in
name_follows path at a h g =
    let e = run_end is_tail path (a + 1) in
    let z : a + 1 ≡ suc a = add-one a in
    pick_ind (Follows path at) (is_head (get_or path a 0)) (StepAt.Name a e e) (StepAt.Refused a)
    (λ c. let i : a < length path = inside is_head refl path a c in
    let k : e ≤ length path = first_le (λ k. not (is_tail (get_or path k 0))) (a + 1) (length path) (omega arith) in
    let s = stay_name path (a + 1) (omega arith) in
    g ∙ from_go path dotted (naming (get_or path a 0 ∷ [])) a i (rw c) ∙ ap (λ (j : ℕ). from path (naming (get_or path a 0 ∷ [])) j) (sym z) ∙ s.1 (get_or path a 0 ∷ [])
    ∙ ap (λ (n : List ℕ). from path (naming n) e) (ap (λ (j : ℕ). get_or path a 0 ∷ between (byte_in path) j e) z ∙ sym (between_some (byte_in path) a e (omega (arith, s.0))))
    ∙ leave path (between (byte_in path) a e) e k (run_over is_tail refl path (a + 1) (omega arith)))
    (λ c. g ∙ from_halt path dotted a h refl (rw c))

bracketed_follows : (m : Mode) (path : List ℕ) (at e v : ℕ) → e ≤ length path → ended m e ≡ bad e → move m (get_or path e 0) ≡ pick (eqb (get_or path e 0) 93) (emit (number v) after) stop
    → from path after at ≡ from path m e → Follows path at (bracketed path e v)
bracketed_follows m path at e v h n q g =
    pick_ind (Follows path at) (eqb (get_or path e 0) 93) (StepAt.Number v (e + 1)) (StepAt.Refused e)
    (λ c. g ∙ from_emit path m after (number v) e (inside (λ b. eqb b 93) refl path e c) (q ∙ rw c) ∙ ap (λ (j : ℕ). before (number v) (from path after j)) (sym (add-one e)))
    (λ c. g ∙ from_halt path m e h n (q ∙ rw c))

not_zero : (b : ℕ) → is_digit b ≡ false → eqb b 48 ≡ false
unfolding is_digit
not_zero b h = ne_eqb b 48 (λ (e : b ≡ 48). true≢false (sym (ap is_digit e) ∙ h))

number_follows : (path : List ℕ) (at a : ℕ) → a ≤ length path → from path after at ≡ from path opened a → Follows path at (number_at path a)
unfolding is_digit decimal
number_follows path at a h g =
    let z : a + 1 ≡ suc a = add-one a in
    let n : a - a ≡ 0 = omega arith in
    let d : decimal path a (a + 1 - a) ≡ get_or path a 0 - 48 = omega (arith, decimal_next path a a (omega arith), ap (decimal path a) n) in
    pick_ind (Follows path at) (is_digit (get_or path a 0)) (bracketed path (number_end path a) (decimal path a (number_end path a - a))) (StepAt.Refused a)
    (λ c. let i : a < length path = inside is_digit refl path a c in
    let r = run_end is_digit path (a + 1) in
    let k : r ≤ length path = first_le (λ k. not (is_digit (get_or path k 0))) (a + 1) (length path) (omega arith) in
    pick_ind (λ e. Follows path at (bracketed path e (decimal path a (e - a)))) (eqb (get_or path a 0) 48) (a + 1) r
    (λ y. let v : decimal path a (a + 1 - a) ≡ 0 = omega (arith, eqb-true (get_or path a 0) 48 y) in
    rw v (bracketed_follows nought path at (a + 1) 0 (omega arith) refl refl (g ∙ from_go path opened nought a i (rw y) ∙ ap (from path nought) (sym z))))
    (λ y. bracketed_follows (counting (decimal path a (r - a))) path at r (decimal path a (r - a)) k refl (rw (run_over is_digit refl path (a + 1) (omega arith)))
    (g ∙ from_go path opened (counting (get_or path a 0 - 48)) a i (rw (y, c)) ∙ ap₂ (λ (v j : ℕ). from path (counting v) j) (sym d) (sym z) ∙ stay_digits path a (a + 1) (omega arith) (omega arith))))
    (λ c. g ∙ from_halt path opened a h refl (rw (not_zero (get_or path a 0) c, c)))

step_follows : (path : List ℕ) (at : ℕ) → at ≤ length path → Follows path at (step_at path at)
unfolding step_at
step_follows path at h =
    let b = get_or path at 0 in
    let z : at + 1 ≡ suc at = add-one at in
    let y3 : StepAt = pick (eqb b 91) (number_at path (at + 1)) (StepAt.Refused at) in
    let y2 : StepAt = pick (eqb b 46) (name_at path (at + 1)) y3 in
    pick_ind (Follows path at) (ltb at (length path)) y2 StepAt.End
    (λ l. let i : at < length path = ltb-true at (length path) l in
    pick_ind (Follows path at) (eqb b 46) (name_at path (at + 1)) y3
    (λ c. name_follows path at (at + 1) (omega arith) (from_go path after dotted at i (rw c) ∙ ap (from path dotted) (sym z)))
    (λ c. pick_ind (Follows path at) (eqb b 91) (number_at path (at + 1)) (StepAt.Refused at)
    (λ d. number_follows path at (at + 1) (omega arith) (from_go path after opened at i (rw (c, d)) ∙ ap (from path opened) (sym z)))
    (λ d. from_step path after at i ∙ rw (c, d))))
    (λ l. from_end path after at (omega (arith, ltb-false at (length path) l)))

-- ---- the whole path

read_from_is : (c : ℕ) (path : List ℕ) (at : ℕ) → at ≤ length path → length path - at < c → read_from c path at ≡ from path after at
unfolding read_from
read_from_is zero path at h l = absurd (omega arith)
read_from_is (suc c) path at h l = go (λ x i j. read_from_is c path x i j) (step_at path at) (step_ends path at) (step_follows path at h)
  where
    go : ((x : ℕ) → x ≤ length path → length path - x < c → read_from c path x ≡ from path after x)
        → (st : StepAt) → Ends path at st → Follows path at st
        → on_step st (λ b f x. before (name (between (byte_in path) b f)) (read_from c path x)) (λ v x. before (number v) (read_from c path x)) (good []) bad ≡ from path after at
    go ih (StepAt.Name b f x) n p = ap (before (name (between (byte_in path) b f))) (ih x n.3 (omega arith)) ∙ sym p
    go ih (StepAt.Number v x) n p = ap (before (number v)) (ih x n.1 (omega arith)) ∙ sym p
    go ih StepAt.End n p = sym p
    go ih (StepAt.Refused q) n p = sym p

read_path_is : (path : List ℕ) → read_path path ≡ read start 0 path
unfolding read_path
read_path_is [] = refl
read_path_is (b ∷ bs) = go (eqb b 36)
  where
    go : (t : Bool) → pick t (read_from (length (b ∷ bs)) (b ∷ bs) 1) (bad 0) ≡ follow (pick t (to after) stop) 0 (λ m. read m 1 bs)
    go true = read_from_is (length (b ∷ bs)) (b ∷ bs) 1 (omega arith) (omega arith)
    go false = refl

-- a path of the grammar is read as exactly its selectors
pub reads : {path : List ℕ} {ss : List Selector} → Path path ss → read_path path ≡ good ss
reads {path} p = read_path_is path ∙ machine_reads p

-- and what is read is a path of the grammar
pub read_is_path : (path : List ℕ) (ss : List Selector) → read_path path ≡ good ss → Path path ss
read_is_path path ss e = machine_good path ss (sym (read_path_is path) ∙ e)

-- a refusal's place is the place of 20
pub refused_is_place : (path : List ℕ) (p : ℕ) → read_path path ≡ bad p → RefusedAt path p
refused_is_place path p e = machine_bad path p (sym (read_path_is path) ∙ e)

-- ---- that place is one

-- what begins a path begins with what begins a path
begins_less : (path : List ℕ) (p q : ℕ) → p ≤ q → Begins (take q path) → Begins (take p path)
begins_less path p q h b =
    let e : take q path ≡ take p path ++ drop p (take q path) = sym (take-append-drop p (take q path)) ∙ ap (λ (l : List ℕ). l ++ drop p (take q path)) (take-take p q path h) in
    record {
      rest = drop p (take q path) ++ b.rest;
      selectors = b.selectors;
      whole = subst (λ (l : List ℕ). Path l b.selectors) (ap (λ (l : List ℕ). l ++ b.rest) e ∙ append_assoc (take p path) (drop p (take q path)) b.rest) b.whole;
    }

not_before : {path : List ℕ} {p q : ℕ} → RefusedAt path p → RefusedAt path q → p < q → ⊥
not_before {path} {p} {q} a b l = a.after (omega (arith, b.fits)) (begins_less path (suc p) q l b.before)

-- the place of 20 is told, and no other
pub place_is_refused : (path : List ℕ) (p : ℕ) → RefusedAt path p → read_path path ≡ bad p
place_is_refused path p a = go (read_path path) refl
  where
    go : (r : Reading) → read_path path ≡ r → read_path path ≡ bad p
    go (good ss) e = absurd (a.short ss (read_is_path path ss e))
    go (bad q) e =
        let b = refused_is_place path q e in
        let l = not_before a b in
        let m = not_before b a in
        let z : q ≡ p = omega arith in
        e ∙ ap bad z
