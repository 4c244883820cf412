-- The numbers of opening, of every step, of close and of asking, 0 to 16: each exactly when its condition holds and no earlier one does;
-- and what a refused call leaves. By the laws of any list of checks.
use Rattle.std.specs.Prelude.{Option, Some, None}
use mathlib.Core.Path.{◌≡◌, refl, sym, ap, ◌∙◌}
use mathlib.Core.Logic.{◌↔◌}
use mathlib.Core.Bool.{Bool, true, false, ◌&&◌, and-false}
use mathlib.Core.List.{List, [], ◌∷◌}
use Prim.Native.Nat.{ℕ, ◌≤◌, ◌<◌}
use native.Mathlib.Omega.{arith}
use lib.Dec.{T, ltb}
use lib.ListN.{length, replicate}
use borrow.Author.Tests.{ltb-true, ltb-false}
use Rattle.rules.specs.Word.{pick}
use Rattle.rules.proofs.Booleans.{impossible}
use Rattle.index.specs.declared.Fault.{Fault}
use Rattle.index.specs.declared.Refusal.{Refusal}
use Rattle.index.specs.declared.Refusal.TheVariants.{IsClosed, OtherLength, Early}
use Rattle.index.specs.declared.Answer.{Answer}
use Rattle.index.specs.declared.Answer.TheVariants.{Done, Refused, Faulty}
use Rattle.index.specs.declared.State.{State}
use Rattle.index.specs.declared.State.TheVariants.{Open, Stopped, Closed}
use Rattle.index.specs.declared.Step.{Step}
use Rattle.index.specs.declared.Step.TheVariants.{Scan, Settle, Level}
use Rattle.index.specs.declared.Job.{Job}
use Rattle.index.specs.Answers.{refusal_number, number_of, place_of, asked_number, on_done}
use Rattle.index.specs.Numbers.{Refuses, numbers, Exactly}
use Rattle.index.specs.Checks.{chunks_of, with_state, is_stopped, same_lengths, step_checks, refusal, asked}
use Rattle.index.specs.Opening.{bad_cut, first_bad, open_checks, opening, no_job, opened}
use Rattle.index.specs.Scanning.{scanned, scanned_words}
use Rattle.index.specs.Settling.{found_answer, found_by, settle_words, settled, settled_words}
use Rattle.index.specs.Levelling.{levelled, levelled_words}
use Rattle.index.specs.Closing.{all_levelled, close_checks, fault_again, closing, unless_refused, closed, closed_words}
use Rattle.index.proofs.AnswerLaws.{refusal_range, done_other, fault_other, refused_is, refused_leaves, hit, then_checked, never_faulty, rising, exactly}
use Rattle.index.proofs.OpenLaws.{first_holds, first_before}
use Rattle.index.proofs.CloseLaws.{closing_closed, stopped_other, stopped_fault, closing_other, closing_early, closing_done, close_is}

-- ---- opening

pub open_order : (n w levels : ℕ) (cuts : List ℕ) → numbers (open_checks n w levels cuts) ≡ 1 ∷ 2 ∷ 3 ∷ 4 ∷ 5 ∷ 6 ∷ []
unfolding open_checks
open_order n w levels cuts = refl

pub open_numbers : (n w levels : ℕ) (cuts : List ℕ) → Exactly (open_checks n w levels cuts) Done (opened n w levels cuts).answer
unfolding opened opening open_checks
open_numbers n w levels cuts = exactly (open_checks n w levels cuts) Done tt done_other

-- cut i is bad, and none before it
pub record FirstBadCut (n : ℕ) (cuts : List ℕ) (i : ℕ) : Type 0 where
  pub is_cut : i < length cuts
  pub bad : bad_cut n cuts i ≡ true
  pub none_before : (e : ℕ) → e < i → bad_cut n cuts e ≡ false

first_bad_is : (n : ℕ) (cuts : List ℕ) → first_bad n cuts < length cuts → FirstBadCut n cuts (first_bad n cuts)
unfolding first_bad
first_bad_is n cuts h =
    record {
      is_cut = h;
      bad = first_holds (bad_cut n cuts) 0 (length cuts) (omega arith);
      none_before = λ e k. first_before (bad_cut n cuts) 0 (length cuts) e (omega arith) k;
    }

no_later : (n : ℕ) (cuts : List ℕ) (i : ℕ) → bad_cut n cuts i ≡ true → i < first_bad n cuts → ⊥
unfolding first_bad
no_later n cuts i h l =
    let g = first_before (bad_cut n cuts) 0 (length cuts) i (omega arith) l in
    impossible (cc)

-- the condition of 6: some cut is bad
pub open_six : (n : ℕ) (cuts : List ℕ) → (ltb (first_bad n cuts) (length cuts) ≡ true) ↔ ((i : ℕ) × ((i < length cuts) × (bad_cut n cuts i ≡ true)))
open_six n cuts =
    (λ e. let b = first_bad_is n cuts (ltb-true _ _ e) in (first_bad n cuts, (b.is_cut, b.bad)), λ h. found h.0 h.1.0 h.1.1 (ltb (first_bad n cuts) (length cuts)) refl)
  where
    found : (i : ℕ) → i < length cuts → bad_cut n cuts i ≡ true → (b : Bool) → ltb (first_bad n cuts) (length cuts) ≡ b → b ≡ true
    found i l h true e = refl
    found i l h false e = absurd (no_later n cuts i h (omega (arith, ltb-false (first_bad n cuts) (length cuts) e)))

-- 6 tells the first bad cut
pub open_place : (n w levels : ℕ) (cuts : List ℕ) → number_of (opened n w levels cuts).answer ≡ 6 → FirstBadCut n cuts (place_of (opened n w levels cuts).answer)
unfolding opened opening open_checks
open_place n w levels cuts e =
    let f = ((open_numbers n w levels cuts).refused 5 (omega arith)).0 e in
    rw (hit (open_checks n w levels cuts) Done 5 (omega arith) f) (first_bad_is n cuts (ltb-true _ _ f.holds))

-- a refused opening hands back a closed job without chunks
pub open_refused_job : (n w levels : ℕ) (cuts : List ℕ) → Refuses (opened n w levels cuts).answer → (opened n w levels cuts).job ≡ no_job
unfolding opened
open_refused_job n w levels cuts h = refused_leaves (opening n w levels cuts) _ no_job h

pub no_job_closed : (no_job.state ≡ Closed) × (chunks_of no_job ≡ 0)
unfolding chunks_of
no_job_closed = (refl, refl)

-- ---- every step

pub step_order : (s : Step) (j : Job) (n w k : ℕ) → numbers (step_checks s j n w k) ≡ 7 ∷ 8 ∷ 9 ∷ 10 ∷ 11 ∷ 12 ∷ []
unfolding step_checks
step_order s j n w k = refl

steps_rise : (s : Step) (j : Job) (n w k : ℕ) → T (rising 0 (step_checks s j n w k))
unfolding step_checks
steps_rise s j n w k = tt

pub step_numbers : (s : Step) (j : Job) (n w k : ℕ) → Exactly (step_checks s j n w k) Done (refusal s j n w k)
unfolding refusal
step_numbers s j n w k = exactly (step_checks s j n w k) Done (steps_rise s j n w k) done_other

-- what an accepted settle answers is no refusal
found_other : (f : Option Fault) (r : Refusal) → number_of (found_answer f) ≡ refusal_number r → ⊥
found_other None = done_other
found_other (Some f) = fault_other f

found_here : (x : Option Fault) (f : Fault) → found_answer x ≡ Faulty f → x ≡ Some f
found_here None f e = impossible (cc)
found_here (Some g) f e = cc

unless_found : (a : Answer) (x : Option Fault) → Refuses (on_done a (found_answer x) a) → Refuses a
unless_found Done x h = let r = refused_is (found_answer x) h in absurd (found_other x r.0 (ap number_of r.1))
unless_found (Refused r) x h = h
unless_found (Faulty f) x h = h

module _ (j : Job) (text words : List ℕ) (k : ℕ) where
  pub scan_numbers : (g : Bool) → Exactly (step_checks Scan j (length text) (length words) k) Done (scanned j text (length words) k g).answer
  unfolding scanned
  scan_numbers g = step_numbers Scan j (length text) (length words) k

  pub level_numbers : Exactly (step_checks Level j (length text) (length words) k) Done (levelled j (length text) (length words) k).answer
  unfolding levelled
  level_numbers = step_numbers Level j (length text) (length words) k

  -- an accepted settle answers the fault that it found: 13 to 16
  pub settle_numbers : Exactly (step_checks Settle j (length text) (length words) k) (found_answer (found_by j text (settle_words j text words k) k)) (settled j text words k).answer
  unfolding settled refusal
  settle_numbers =
      rw then_checked (exactly (step_checks Settle j (length text) (length words) k) _ (steps_rise Settle j (length text) (length words) k) (found_other (found_by j text (settle_words j text words k) k)))

  pub settle_fault : (f : Fault) → ((settled j text words k).answer ≡ Faulty f) ↔ ((refusal Settle j (length text) (length words) k ≡ Done) × (found_by j text (settle_words j text words k) k ≡ Some f))
  unfolding settled refusal
  settle_fault f = (go (refusal Settle j (length text) (length words) k) (found_by j text (settle_words j text words k) k) (never_faulty (step_checks Settle j (length text) (length words) k)), λ h. rw (h.0, h.1))
    where
      go : (a : Answer) (x : Option Fault) → ((h : Fault) → a ≡ Faulty h → ⊥) → on_done a (found_answer x) a ≡ Faulty f → (a ≡ Done) × (x ≡ Some f)
      go Done x n e = (refl, found_here x f e)
      go (Refused r) x n e = impossible (cc)
      go (Faulty h) x n e = absurd (n h refl)

  -- a refused step changes neither job nor words
  pub scan_refused : (g : Bool) → Refuses (scanned j text (length words) k g).answer → ((scanned j text (length words) k g).job ≡ j) × (scanned_words j text words k g ≡ words)
  unfolding scanned scanned_words
  scan_refused g h = let a = refusal Scan j (length text) (length words) k in (refused_leaves a _ j h, refused_leaves a _ words h)

  pub settle_refused : Refuses (settled j text words k).answer → ((settled j text words k).job ≡ j) × (settled_words j text words k ≡ words)
  unfolding settled settled_words
  settle_refused h =
      let a = refusal Settle j (length text) (length words) k in
      let r = unless_found a (found_by j text (settle_words j text words k) k) h in
      (refused_leaves a _ j r, refused_leaves a _ words r)

  pub level_refused : Refuses (levelled j (length text) (length words) k).answer → ((levelled j (length text) (length words) k).job ≡ j) × (levelled_words j text words k ≡ words)
  unfolding levelled levelled_words
  level_refused h = let a = refusal Level j (length text) (length words) k in (refused_leaves a _ j h, refused_leaves a _ words h)

-- ---- asking

pub ask_numbers : (j : Job) (k : ℕ) → ((asked_number (asked j k) ≡ 10) ↔ (chunks_of j ≤ k)) × ((asked_number (asked j k) ≡ 0) ↔ (k < chunks_of j))
unfolding asked
ask_numbers j k = go (ltb k (chunks_of j)) refl
  where
    go : (b : Bool) → ltb k (chunks_of j) ≡ b → ((asked_number (asked j k) ≡ 10) ↔ (chunks_of j ≤ k)) × ((asked_number (asked j k) ≡ 0) ↔ (k < chunks_of j))
    go true e = rw e ((λ z. absurd (omega arith), λ h. absurd (omega (arith, ltb-true k (chunks_of j) e))), (λ z. ltb-true k (chunks_of j) e, λ h. refl))
    go false e = rw e ((λ z. ltb-false k (chunks_of j) e, λ h. refl), (λ z. absurd (omega arith), λ h. absurd (omega (arith, ltb-false k (chunks_of j) e))))

-- ---- close

pub close_order : (j : Job) (n w : ℕ) → numbers (close_checks j n w) ≡ 7 ∷ 9 ∷ 12 ∷ []
unfolding close_checks
close_order j n w = refl

pub close_numbers : (j : Job) (n w : ℕ) → Exactly (close_checks j n w) (fault_again j.state) (closed j n w).answer
unfolding closed closing close_checks
close_numbers j n w = exactly (close_checks j n w) (fault_again j.state) tt (other j.state)
  where
    other : (s : State) (r : Refusal) → number_of (fault_again s) ≡ refusal_number r → ⊥
    other Open = done_other
    other (Stopped f) = fault_other f
    other Closed = done_other

closed_stops : (s : State) (b : Bool) → s ≡ Closed → (is_stopped s && b) ≡ false
closed_stops s b e = rw e

open_stops : (s : State) (b : Bool) → s ≡ Open → (is_stopped s && b) ≡ false
open_stops s b e = rw e

-- the three ways of a close
data Way (j : Job) (n w : ℕ) : Type 0 where
  refuses : (r : Refusal) → closing j n w ≡ Refused r → (is_stopped j.state && same_lengths j n w) ≡ false → Way j n w
  answers : (f : Fault) → j.state ≡ Stopped f → same_lengths j n w ≡ true → Way j n w
  finishes : j.state ≡ Open → same_lengths j n w ≡ true → all_levelled j ≡ true → Way j n w

way : (j : Job) (n w : ℕ) → Way j n w
way j n w = go j.state refl (same_lengths j n w) refl (all_levelled j) refl
  where
    go : (s : State) → j.state ≡ s → (b : Bool) → same_lengths j n w ≡ b → (d : Bool) → all_levelled j ≡ d → Way j n w
    go Closed e b p d q = refuses IsClosed (closing_closed j n w e) (closed_stops _ _ e)
    go (Stopped f) e true p d q = answers f e p
    go (Stopped f) e false p d q = refuses OtherLength (stopped_other j n w f e p) (rw p (and-false (is_stopped j.state)))
    go Open e false p d q = refuses OtherLength (closing_other j n w e p) (rw p (and-false (is_stopped j.state)))
    go Open e true p true q = finishes e p q
    go Open e true p false q = refuses Early (closing_early j n w e p q) (open_stops _ _ e)

stopped_stops : (s : State) (b : Bool) (f : Fault) → s ≡ Stopped f → b ≡ true → (is_stopped s && b) ≡ true
stopped_stops s b f e p = rw (e, p)

module _ (j : Job) (n : ℕ) (words : List ℕ) where
  -- a fault is answered again exactly by the close of a job that stopped with it
  pub close_fault : (f : Fault) → ((closed j n (length words)).answer ≡ Faulty f) ↔ ((j.state ≡ Stopped f) × (same_lengths j n (length words) ≡ true))
  unfolding closed
  close_fault f = (λ h. go (way j n (length words)) h, λ h. stopped_fault j n (length words) f h.0 h.1)
    where
      go : Way j n (length words) → closing j n (length words) ≡ Faulty f → (j.state ≡ Stopped f) × (same_lengths j n (length words) ≡ true)
      go (refuses r e p) h = impossible (cc)
      go (answers g e p) h = let q = stopped_fault j n (length words) g e p in (cc, p)
      go (finishes e p q) h = let d = closing_done j n (length words) e p q in impossible (cc)

  -- and 0 exactly by that of an open job whose chunks are all levelled
  pub close_done : ((closed j n (length words)).answer ≡ Done) ↔ ((j.state ≡ Open) × ((same_lengths j n (length words) ≡ true) × (all_levelled j ≡ true)))
  unfolding closed
  close_done = (λ h. go (way j n (length words)) h, λ h. closing_done j n (length words) h.0 h.1.0 h.1.1)
    where
      go : Way j n (length words) → closing j n (length words) ≡ Done → (j.state ≡ Open) × ((same_lengths j n (length words) ≡ true) × (all_levelled j ≡ true))
      go (refuses r e p) h = impossible (cc)
      go (answers g e p) h = let q = stopped_fault j n (length words) g e p in impossible (cc)
      go (finishes e p q) h = (e, (p, q))

  -- all words are 0 where a fault is answered again, and as they were everywhere else
  pub close_words : closed_words j n words ≡ pick (is_stopped j.state && same_lengths j n (length words)) (replicate (length words) 0) words
  close_words = go (way j n (length words))
    where
      go : Way j n (length words) → closed_words j n words ≡ pick (is_stopped j.state && same_lengths j n (length words)) (replicate (length words) 0) words
      go (refuses r e p) = sym (close_is j n words (Refused r) e).1 ∙ rw p
      go (answers f e p) = sym (close_is j n words (Faulty f) (stopped_fault j n (length words) f e p)).1 ∙ rw (stopped_stops j.state (same_lengths j n (length words)) f e p)
      go (finishes e p q) = sym (close_is j n words Done (closing_done j n (length words) e p q)).1 ∙ rw (open_stops j.state (same_lengths j n (length words)) e)

  -- a refused close changes neither job nor words
  pub close_refused : Refuses (closed j n (length words)).answer → ((closed j n (length words)).job ≡ j) × (closed_words j n words ≡ words)
  unfolding closed
  close_refused h =
      let r = refused_is (closing j n (length words)) h in
      let d = close_is j n words (Refused r.0) r.1 in
      (rw r.1, sym d.1)

  -- any other closes the job
  pub close_closes : (Refuses (closed j n (length words)).answer → ⊥) → (closed j n (length words)).job ≡ with_state j Closed
  unfolding closed
  close_closes h = go (closing j n (length words)) h
    where
      go : (a : Answer) → (Refuses a → ⊥) → unless_refused a (with_state j Closed) j ≡ with_state j Closed
      go Done k = refl
      go (Refused r) k = absurd (k (refusal_range r))
      go (Faulty f) k = refl
