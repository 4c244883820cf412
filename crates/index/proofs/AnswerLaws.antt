-- Answers, whatever the operation: a list of checks gives each refusal's number exactly when its condition holds and no earlier one does.
use mathlib.Core.Path.{◌≡◌, refl, sym, ap, ◌∙◌}
use mathlib.Core.Logic.{◌⊎◌, inl, inr, ⊎_map}
use mathlib.Core.Bool.{Bool, true, false, ◌&&◌}
use mathlib.Core.List.{List, [], ◌∷◌}
use Prim.Native.Nat.{ℕ, zero, suc, ◌≤◌, ◌<◌}
use native.Mathlib.Omega.{arith}
use lib.Dec.{T, ltb, ltb→lt}
use borrow.Author.Tests.{ltb-true, ltb-false}
use lib.ListN.{length, get_or}
use Rattle.rules.specs.Word.{pick}
use Rattle.rules.proofs.Booleans.{impossible}
use Rattle.index.specs.declared.Fault.{Fault}
use Rattle.index.specs.declared.Fault.TheVariants.{Closer, Opener, InString, InBracket}
use Rattle.index.specs.declared.Refusal.{Refusal}
use Rattle.index.specs.declared.Refusal.TheVariants.{Empty, TooLong, BadLevels, BadBuffer, ManyCuts, BadCut, IsClosed, IsStopped, OtherLength, NoChunk, Taken, Early}
use Rattle.index.specs.declared.Answer.{Answer}
use Rattle.index.specs.declared.Answer.TheVariants.{Done, Refused, Faulty}
use Rattle.index.specs.declared.Job.{Job}
use Rattle.index.specs.declared.Handed.{Handed}
use Rattle.index.specs.Answers.{fault_number, refusal_number, number_of, Check, checked, on_done}
use Rattle.index.specs.Numbers.{Refuses, condition, number, First, NoneHolds, Exactly}

abbrev pub handed : Answer → Job → Handed
handed a j = record { answer = a; job = j }

-- the way of `let Answer::Done = a else`: the answer is another
pub not_done : {A : Type 0} (a : Answer) (x y : A) → (a ≡ Done → ⊥) → on_done a x y ≡ y
not_done Done x y h = absurd (h refl)
not_done (Refused r) x y h = refl
not_done (Faulty f) x y h = refl

-- ---- numbers tell the kinds of answers apart

pub refusal_range : (r : Refusal) → (1 ≤ refusal_number r) × (refusal_number r ≤ 12)
refusal_range Empty = (omega arith, omega arith)
refusal_range TooLong = (omega arith, omega arith)
refusal_range BadLevels = (omega arith, omega arith)
refusal_range BadBuffer = (omega arith, omega arith)
refusal_range ManyCuts = (omega arith, omega arith)
refusal_range (BadCut i) = (omega arith, omega arith)
refusal_range IsClosed = (omega arith, omega arith)
refusal_range IsStopped = (omega arith, omega arith)
refusal_range OtherLength = (omega arith, omega arith)
refusal_range NoChunk = (omega arith, omega arith)
refusal_range Taken = (omega arith, omega arith)
refusal_range Early = (omega arith, omega arith)

fault_range : (f : Fault) → 13 ≤ fault_number f
fault_range (Closer p) = omega arith
fault_range (Opener p) = omega arith
fault_range (InString p) = omega arith
fault_range (InBracket p) = omega arith

pub done_other : (r : Refusal) → 0 ≡ refusal_number r → ⊥
done_other r e = omega (arith, (refusal_range r).0)

pub fault_other : (f : Fault) (r : Refusal) → fault_number f ≡ refusal_number r → ⊥
fault_other f r e = omega (arith, (refusal_range r).1, fault_range f)

-- 1 to 12 are the refusals
pub refused_is : (a : Answer) → Refuses a → (r : Refusal) × (a ≡ Refused r)
refused_is Done h = absurd (omega (arith, h.0))
refused_is (Refused r) h = (r, refl)
refused_is (Faulty f) h = absurd (omega (arith, h.1, fault_range f))

-- and a refused call leaves what was
pub refused_leaves : {A : Type 0} (a : Answer) (x y : A) → Refuses a → on_done a x y ≡ y
refused_leaves a x y h = rw (refused_is a h).1

-- ---- a list of checks

pub hit : (checks : List Check) (a : Answer) (i : ℕ) → i < length checks → First checks i → checked checks a ≡ Refused (get_or checks i (false, Empty)).1
hit [] a i l f = absurd (omega arith)
hit (c ∷ later) a zero l f = simp f.holds
hit (c ∷ later) a (suc i) l f =
    let z : c.0 ≡ false = f.none_before 0 (omega arith) in
    simp z (hit later a i (omega arith) (record { holds = f.holds; none_before = λ e k. f.none_before (suc e) (omega arith) }))

pub no_hit : (checks : List Check) (a : Answer) → NoneHolds checks → checked checks a ≡ a
no_hit [] a f = refl
no_hit (c ∷ later) a f =
    let z : c.0 ≡ false = f 0 (omega arith) in
    simp z (no_hit later a (λ e k. f (suc e) (omega arith)))

-- what an accepted call answers, put in the place of Done
pub then_checked : (checks : List Check) (a : Answer) → on_done (checked checks Done) a (checked checks Done) ≡ checked checks a
then_checked [] a = refl
then_checked (c ∷ later) a = go c.0 (then_checked later a)
  where
    go : (b : Bool) → on_done (checked later Done) a (checked later Done) ≡ checked later a
        → on_done (pick b (Refused c.1) (checked later Done)) a (pick b (Refused c.1) (checked later Done)) ≡ pick b (Refused c.1) (checked later a)
    go true e = refl
    go false e = e

-- no check answers a fault
pub never_faulty : (checks : List Check) (f : Fault) → checked checks Done ≡ Faulty f → ⊥
never_faulty [] f e = impossible (cc)
never_faulty (c ∷ later) f e = go c.0 (never_faulty later f) e
  where
    go : (b : Bool) → (checked later Done ≡ Faulty f → ⊥) → pick b (Refused c.1) (checked later Done) ≡ Faulty f → ⊥
    go true n h = impossible (cc)
    go false n h = n h

-- either no condition holds, or there is a first that does
abbrev Decided : List Check → Type 0
Decided checks = NoneHolds checks ⊎ ((i : ℕ) × ((i < length checks) × First checks i))

decided : (checks : List Check) → Decided checks
decided [] = inl (λ e k. absurd (omega arith))
decided (c ∷ later) = go c.0 refl (decided later)
  where
    go : (b : Bool) → c.0 ≡ b → Decided later → Decided (c ∷ later)
    go true e d = inr (0, (omega arith, record { holds = e; none_before = λ e k. absurd (omega arith) }))
    go false e (inl none) = inl at
      where
        at : NoneHolds (c ∷ later)
        at zero k = e
        at (suc i) k = none i (omega arith)
    go false e (inr f) = inr (suc f.0, (omega (arith, f.1.0), record { holds = f.1.1.holds; none_before = before }))
      where
        before : (i : ℕ) → i < suc f.0 → condition (c ∷ later) i ≡ false
        before zero k = e
        before (suc i) k = f.1.1.none_before i (omega arith)

-- ---- their numbers

-- each number is above the one before, and the first above m
abbrev pub rising : ℕ → List Check → Bool
rising m [] = true
rising m (c ∷ later) = ltb m (refusal_number c.1) && rising (refusal_number c.1) later

and_both : (a b : Bool) → T (a && b) → T a × T b
and_both true b t = (tt, t)
and_both false b t = absurd t

above : (checks : List Check) (m : ℕ) → T (rising m checks) → (i : ℕ) → i < length checks → m < number checks i
above [] m t i l = absurd (omega arith)
above (c ∷ later) m t zero l = ltb→lt m (refusal_number c.1) (and_both (ltb m (refusal_number c.1)) _ t).0
above (c ∷ later) m t (suc i) l =
    let b = and_both (ltb m (refusal_number c.1)) _ t in
    omega (arith, ltb→lt m (refusal_number c.1) b.0, above later (refusal_number c.1) b.1 i (omega arith))

apart : (checks : List Check) (m : ℕ) → T (rising m checks) → (i k : ℕ) → i < k → k < length checks → number checks i < number checks k
apart [] m t i k h l = absurd (omega arith)
apart (c ∷ later) m t i zero h l = absurd (omega arith)
apart (c ∷ later) m t zero (suc k) h l = above later (refusal_number c.1) (and_both (ltb m (refusal_number c.1)) _ t).1 k (omega arith)
apart (c ∷ later) m t (suc i) (suc k) h l = apart later (refusal_number c.1) (and_both (ltb m (refusal_number c.1)) _ t).1 i k (omega arith) (omega arith)

same_number : (checks : List Check) (m : ℕ) → T (rising m checks) → (i k : ℕ) → i < length checks → k < length checks → number checks i ≡ number checks k → i ≡ k
same_number checks m t i k l h e = go (ltb i k) refl (ltb k i) refl
  where
    go : (a : Bool) → ltb i k ≡ a → (b : Bool) → ltb k i ≡ b → i ≡ k
    go true p b q = absurd (omega (arith, apart checks m t i k (ltb-true i k p) h))
    go false p true q = absurd (omega (arith, apart checks m t k i (ltb-true k i q) l))
    go false p false q = omega (arith, ltb-false i k p, ltb-false k i q)

pub exactly : (checks : List Check) (a : Answer) → T (rising 0 checks) → ((r : Refusal) → number_of a ≡ refusal_number r → ⊥) → Exactly checks a (checked checks a)
exactly checks a t other =
    record {
      refused = λ i l. (λ e. first i l e (decided checks), λ f. ap number_of (hit checks a i l f));
      accepted = (λ e. none e (decided checks), λ f. ap number_of (no_hit checks a f));
      no_other = ⊎_map (λ f. ap number_of (no_hit checks a f)) (λ f. (f.0, (f.1.0, ap number_of (hit checks a f.0 f.1.0 f.1.1)))) (decided checks);
    }
  where
    first : (i : ℕ) → i < length checks → number_of (checked checks a) ≡ number checks i → Decided checks → First checks i
    first i l e (inl f) = absurd (other (get_or checks i (false, Empty)).1 (sym (ap number_of (no_hit checks a f)) ∙ e))
    first i l e (inr f) =
        let k = same_number checks 0 t f.0 i f.1.0 l (sym (ap number_of (hit checks a f.0 f.1.0 f.1.1)) ∙ e) in
        rw k at f.1.1

    none : number_of (checked checks a) ≡ number_of a → Decided checks → NoneHolds checks
    none e (inl f) = f
    none e (inr f) = absurd (other (get_or checks f.0 (false, Empty)).1 (sym e ∙ ap number_of (hit checks a f.0 f.1.0 f.1.1)))
