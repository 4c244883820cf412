-- The plain order leaves no step out: behind the scans every chunk is scanned, and then each is settled and levelled in its turn.
use Prim.Native.Nat.{ℕ, zero, suc, ◌+◌, ◌<◌}
use mathlib.Core.Path.{◌≡◌, refl, sym, ap, ap₂, ◌∙◌, subst}
use mathlib.Core.Bool.{Bool, true, ◌&&◌}
use mathlib.Core.Logic.{◌⊎◌, inl, inr}
use mathlib.Core.List.{List, [], ◌∷◌, ◌++◌}
use native.Mathlib.Decide.{ℕ_discrete}
use native.Mathlib.Omega.{arith}
use Rattle.runs.specs.Runs.{Call}
use Rattle.runs.specs.Whole.{scans, finishes, plainly, Tally, no_steps, settle_in_time, and_now, counted, tally, steps_alone, LeavesNoneOut}
use Rattle.runs.proofs.Marks.{still, now}

tally_append : (cs ds : List Call) (t : Tally) → tally (cs ++ ds) t ≡ tally ds (tally cs t)
unfolding tally
tally_append [] ds t = refl
tally_append (c ∷ cs) ds t = tally_append cs ds (counted c t)

scans_tally : (k : ℕ) (t : Tally) (i : ℕ) → (i < k) ⊎ (t.scanned i ≡ true) → (tally (scans k) t).scanned i ≡ true
unfolding tally scans
scans_tally zero t i (inl l) = absurd (omega arith)
scans_tally zero t i (inr e) = e
scans_tally (suc k) t i w = scans_tally k _ i (go w (ℕ_discrete i k))
  where
    go : (i < suc k) ⊎ (t.scanned i ≡ true) → Dec (i ≡ k) → (i < k) ⊎ (and_now t.scanned k true i ≡ true)
    go w (yes p) = inr (subst (λ (x : ℕ). and_now t.scanned k true x ≡ true) (sym p) (now t.scanned k true refl))
    go (inl l) (no n) = inl (omega arith)
    go (inr e) (no n) = inr (still t.scanned k true i e)

-- of m chunks all are scanned, and the first k settled and levelled
record Ready (m k : ℕ) (t : Tally) : Type 0 where
  all_scanned : (i : ℕ) → i < m → t.scanned i ≡ true
  some_settled : (i : ℕ) → i < k → t.settled i ≡ true
  some_levelled : (i : ℕ) → i < k → t.levelled i ≡ true

-- those before k have had it, and k has it now: so have those before k + 1
one_more : (had : ℕ → Bool) (k : ℕ) (inTime : Bool) → ((i : ℕ) → i < k → had i ≡ true) → inTime ≡ true → (i : ℕ) → i < suc k → and_now had k inTime i ≡ true
one_more had k inTime before e i l = go (ℕ_discrete i k)
  where
    go : Dec (i ≡ k) → and_now had k inTime i ≡ true
    go (yes p) = subst (λ (x : ℕ). and_now had k inTime x ≡ true) (sym p) (now had k inTime e)
    go (no n) = still had k inTime i (before i (omega arith))

finishes_tally : (m left k : ℕ) (t : Tally) → k + left ≡ m → Ready m k t → (i : ℕ) → i < m → (tally (finishes k left) t).levelled i ≡ true
unfolding tally finishes
finishes_tally m zero k t e r i l = r.some_levelled i (omega arith)
finishes_tally m (suc left) k t e r i l =
    finishes_tally m left (suc k) _ (omega arith)
    (record {
      all_scanned = r.all_scanned;
      some_settled = set;
      some_levelled = one_more t.levelled k (and_now t.settled k (settle_in_time t k) k) r.some_levelled (set k (omega arith));
    }) i l
  where
    in_time : (x : ℕ) → x < m → ((i : ℕ) → i < x → t.settled i ≡ true) → settle_in_time t x ≡ true
    in_time zero l before = r.all_scanned zero l
    in_time (suc x) l before = ap₂ ◌&&◌ (r.all_scanned (suc x) l) (before x (omega arith))

    set : (i : ℕ) → i < suc k → and_now t.settled k (settle_in_time t k) i ≡ true
    set = one_more t.settled k (settle_in_time t k) r.some_settled (in_time k (omega arith) r.some_settled)

-- ---- steps alone

finishes_steps : (k left : ℕ) → steps_alone (finishes k left) ≡ true
unfolding steps_alone finishes
finishes_steps k zero = refl
finishes_steps k (suc left) = finishes_steps (suc k) left

scans_steps : (k : ℕ) (cs : List Call) → steps_alone cs ≡ true → steps_alone (scans k ++ cs) ≡ true
unfolding steps_alone scans
scans_steps zero cs e = e
scans_steps (suc k) cs e = scans_steps k cs e

pub plain_steps : (m : ℕ) → steps_alone (plainly m) ≡ true
plain_steps m = scans_steps m (finishes 0 m) (finishes_steps 0 m)

pub plain_complete : (m : ℕ) → LeavesNoneOut m (plainly m)
plain_complete m i l =
    ap (λ (t : Tally). t.levelled i) (tally_append (scans m) (finishes 0 m) no_steps)
    ∙ finishes_tally m m 0 (tally (scans m) no_steps) (omega arith)
    (record { all_scanned = λ x b. scans_tally m no_steps x (inl b); some_settled = λ x b. absurd (omega arith); some_levelled = λ x b. absurd (omega arith) }) i (omega arith)
