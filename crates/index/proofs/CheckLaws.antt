-- What every step is refused with, test by test, and what an accepted one knows. Each law runs through the list of checks up to the one
-- that decides.
use mathlib.Core.Path.{◌≡◌, refl}
use mathlib.Core.Bool.{Bool, true, false, not, ◌&&◌}
use Prim.Native.Nat.{ℕ, ◌+◌, ◌≤◌, ◌<◌}
use native.Mathlib.Omega.{arith}
use lib.Dec.{eqb, leb}
use borrow.Author.Tests.{eqb-true, leb-true, leb-false, eq-eqb, le-leb, lt-leb, not-false}
use Rattle.rules.specs.Word.{pick}
use Rattle.rules.specs.Layout.{width_of, size_of}
use Rattle.rules.proofs.Booleans.{impossible}
use Rattle.index.specs.declared.Fault.{Fault}
use Rattle.index.specs.declared.Refusal.{Refusal}
use Rattle.index.specs.declared.Refusal.TheVariants.{IsClosed, IsStopped, OtherLength, NoChunk, Taken, Early}
use Rattle.index.specs.declared.Answer.{Answer}
use Rattle.index.specs.declared.Answer.TheVariants.{Done, Refused}
use Rattle.index.specs.declared.State.{State}
use Rattle.index.specs.declared.State.TheVariants.{Open, Stopped, Closed}
use Rattle.index.specs.declared.Step.{Step}
use Rattle.index.specs.declared.Job.{Job}
use Rattle.index.specs.Checks.{chunks_of, chunk_at, first_word, span_of, is_last, is_closed, is_stopped, same_lengths, taken, ready, step_checks, refusal}

-- ---- the chunks and their words

pub chunks_few : (j : Job) → chunks_of j ≤ 64
unfolding chunks_of
chunks_few j = omega arith

pub first_within : (j : Job) (n k : ℕ) → first_word j n k ≤ width_of n
unfolding first_word
first_within j n k = omega arith

-- a chunk lies within the record
pub span_within : (j : Job) (n k : ℕ) → ((span_of j n k).from ≤ width_of n) × ((span_of j n k).to ≤ width_of n)
unfolding span_of
span_within j n k = (first_within j n k, go (is_last j k))
  where
    go : (b : Bool) → pick b (width_of n) (first_word j n (k + 1)) ≤ width_of n
    go true = omega arith
    go false = first_within j n (k + 1)

-- behind a chunk that is not the last there is another
pub next_few : (j : Job) (k : ℕ) → is_last j k ≡ false → k + 1 < 64
unfolding is_last
next_few j k e = omega (arith, leb-false (chunks_of j) (k + 1) e, chunks_few j)

-- ---- the conditions

-- (by the state as a variable: to rewrite with `j.state ≡ Open` would rewrite j)
pub state_closed : (s : State) → s ≡ Closed → is_closed s ≡ true
state_closed s e = rw e

pub state_stopped : (s : State) (f : Fault) → s ≡ Stopped f → (is_closed s ≡ false) × (is_stopped s ≡ true)
state_stopped s f e = (rw e, rw e)

pub state_open : (s : State) → s ≡ Open → (is_closed s ≡ false) × (is_stopped s ≡ false)
state_open s e = (rw e, rw e)

pub is_open : (s : State) → is_closed s ≡ false → is_stopped s ≡ false → s ≡ Open
is_open Open a b = refl
is_open (Stopped f) a b = impossible (cc)
is_open Closed a b = impossible (cc)

-- ---- the lengths that are the job's

pub record Lengths (j : Job) (n w : ℕ) : Type 0 where
  pub own : n ≡ j.n
  pub short : n ≤ 16777216
  pub few : j.levels ≤ 16
  pub total : size_of j.levels n ≡ w

and_true : (a b : Bool) → (a && b) ≡ true → (a ≡ true) × (b ≡ true)
and_true true b h = (refl, h)
and_true false b h = impossible (cc)

pub lengths : (j : Job) (n w : ℕ) → same_lengths j n w ≡ true → Lengths j n w
unfolding same_lengths
lengths j n w h =
    let d = and_true _ (eqb (size_of j.levels n) w) h in
    let b = and_true _ (leb j.levels 16) d.0 in
    let a = and_true (eqb n j.n) (leb n 16777216) b.0 in
    record { own = eqb-true _ _ a.0; short = leb-true _ _ a.1; few = leb-true _ _ b.1; total = eqb-true _ _ d.1 }

pub lengths_same : (j : Job) (n w : ℕ) → Lengths j n w → same_lengths j n w ≡ true
unfolding same_lengths
lengths_same j n w h = simp (eq-eqb _ _ h.own, le-leb _ _ h.short, le-leb _ _ h.few, eq-eqb _ _ h.total)

-- ---- the refusal of a step

module _ (s : Step) (j : Job) (n w k : ℕ) where
  pub if_closed : j.state ≡ Closed → refusal s j n w k ≡ Refused IsClosed
  unfolding refusal step_checks
  if_closed e = simp (state_closed _ e)

  pub if_stopped : (f : Fault) → j.state ≡ Stopped f → refusal s j n w k ≡ Refused IsStopped
  unfolding refusal step_checks
  if_stopped f e = let t = state_stopped _ f e in simp (t.0, t.1)

  module _ (o : j.state ≡ Open) where
    pub if_other : same_lengths j n w ≡ false → refusal s j n w k ≡ Refused OtherLength
    unfolding refusal step_checks
    if_other a = let t = state_open _ o in simp (t.0, t.1, a)

    module _ (a : same_lengths j n w ≡ true) where
      pub if_none : chunks_of j ≤ k → refusal s j n w k ≡ Refused NoChunk
      unfolding refusal step_checks
      if_none b = let t = state_open _ o in simp (t.0, t.1, a, le-leb _ _ b)

      module _ (b : k < chunks_of j) where
        pub if_taken : taken s (chunk_at j k) ≡ true → refusal s j n w k ≡ Refused Taken
        unfolding refusal step_checks
        if_taken d = let t = state_open _ o in simp (t.0, t.1, a, lt-leb _ _ b, d)

        module _ (d : taken s (chunk_at j k) ≡ false) where
          pub if_early : ready s j k ≡ false → refusal s j n w k ≡ Refused Early
          unfolding refusal step_checks
          if_early e = let t = state_open _ o in simp (t.0, t.1, a, lt-leb _ _ b, d, e)

          pub if_done : ready s j k ≡ true → refusal s j n w k ≡ Done
          unfolding refusal step_checks
          if_done e = let t = state_open _ o in simp (t.0, t.1, a, lt-leb _ _ b, d, e)

-- ---- what an accepted step knows

pub record Accepted (s : Step) (j : Job) (n w k : ℕ) : Type 0 where
  pub opened : j.state ≡ Open
  pub same : same_lengths j n w ≡ true
  pub chunk : k < chunks_of j
  pub untaken : taken s (chunk_at j k) ≡ false
  pub in_time : ready s j k ≡ true

pub not_refused : (b : Bool) (r : Refusal) (a : Answer) → pick b (Refused r) a ≡ Done → (b ≡ false) × (a ≡ Done)
not_refused true r a h = impossible (cc)
not_refused false r a h = (refl, h)

pub accepted : (s : Step) (j : Job) (n w k : ℕ) → refusal s j n w k ≡ Done → Accepted s j n w k
unfolding refusal step_checks
accepted s j n w k h =
    let c7 = not_refused (is_closed j.state) IsClosed _ h in
    let c8 = not_refused (is_stopped j.state) IsStopped _ c7.1 in
    let c9 = not_refused (not (same_lengths j n w)) OtherLength _ c8.1 in
    let c10 = not_refused (leb (chunks_of j) k) NoChunk _ c9.1 in
    let c11 = not_refused (taken s (chunk_at j k)) Taken _ c10.1 in
    let c12 = not_refused (not (ready s j k)) Early Done c11.1 in
    record {
      opened = is_open j.state c7.0 c8.0;
      same = not-false _ c9.0;
      chunk = leb-false _ _ c10.0;
      untaken = c11.0;
      in_time = not-false _ c12.0;
    }
