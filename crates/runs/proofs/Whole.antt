-- Calls that leave no step out do all that there is to do: behind them the job is stopped or every chunk is levelled, so that its close ends
-- it. The job follows the tally: what a chunk has had by the tally it has had in the job.
use Prim.Native.Nat.{ℕ, zero, suc, ◌+◌, ◌<◌}
use mathlib.Core.Path.{◌≡◌, refl, sym, ap, ap₂, ◌∙◌, subst}
use mathlib.Core.Bool.{Bool, true, false, ◌&&◌}
use mathlib.Core.Logic.{◌⊎◌, inl, inr, ◌↔◌}
use mathlib.Core.List.{List, [], ◌∷◌}
use native.Mathlib.Decide.{ℕ_discrete}
use native.Mathlib.Omega.{arith}
use lib.ListN.{length, replicate}
use borrow.Author.Tests.{ne_eqb}
use Rattle.rules.specs.Faults.{sound, faulty, fault_of}
use Rattle.rules.specs.Layout.{size_of, index}
use Rattle.rules.proofs.Booleans.{impossible, bool1}
use Rattle.index.specs.declared.Answer.TheVariants.{Done, Refused}
use Rattle.index.specs.declared.Refusal.TheVariants.{Early}
use Rattle.index.specs.declared.Fault.{Fault}
use Rattle.index.specs.Types.{Chunk, Open, Stopped, Closed, State, Settle, Level}
use Rattle.index.specs.Checks.{fresh, chunks_of, chunk_at, ready}
use Rattle.index.specs.Answers.{number_of, place_of}
use Rattle.index.specs.Opening.{opening, opened}
use Rattle.index.specs.Closing.{all_levelled, closed}
use Rattle.index.proofs.CloseLaws.{closing_early}
use Rattle.index.proofs.NumberLaws.{close_done}
use Rattle.index.proofs.Cases.{state_case}
use Rattle.runs.specs.Runs.{Call, scan, settle, level, close, Held, answer, act, run, start, Reached, Ends}
use Rattle.runs.specs.Whole.{whole_answer, whole_words, WholeRun, Tally, no_steps, settle_in_time, and_now, counted, tally, steps_alone, LeavesNoneOut}
use Rattle.runs.proofs.Spans.{Shape, count_is}
use Rattle.runs.proofs.Theorems.{good, lengths_exactly, every_one, sound_closes, faulty_closes}
use Rattle.runs.proofs.Progress.{never_stopped, every_all, settle_live, then_closes, stopped_closes, reach_more}
use Rattle.runs.proofs.Had.{scan_keeps, settle_keeps, level_keeps, scan_state, level_state, settle_stopped}
use Rattle.runs.proofs.Marks.{scan_marks, scan_rest, settle_marks, settle_rest, level_marks, level_rest}
use Rattle.runs.proofs.Opening.{any_chunk}

open_live : {s : State} → s ≡ Open → s ≡ Closed → ⊥
open_live p q = impossible (cc)

-- the same chunks have had it, and chunk k is called in its time in both
now_same : (f g : ℕ → Bool) (k : ℕ) (x y : Bool) (i : ℕ) → f i ≡ g i → (i ≡ k → x ≡ y) → and_now f k x i ≡ and_now g k y i
now_same f g k x y i e t = go (ℕ_discrete i k)
  where
    go : Dec (i ≡ k) → and_now f k x i ≡ and_now g k y i
    go (yes p) = rw (e, t p)
    go (no n) = rw (ne_eqb i k n, e)

module _ (text : List ℕ) (levels : ℕ) where
  -- a job of m chunks is stopped, or its chunks have had what they have by the tally
  data Follows (m : ℕ) (t : Tally) (h : Held) : Type 0 where
    stopped : (f : Fault) → h.job.state ≡ Stopped f → Follows m t h
    going : h.job.state ≡ Open → h.job.count ≡ m
        → ((i : ℕ) → i < m → t.scanned i ≡ (chunk_at h.job i).scanned)
        → ((i : ℕ) → i < m → t.settled i ≡ (chunk_at h.job i).settled)
        → ((i : ℕ) → i < m → t.levelled i ≡ (chunk_at h.job i).levelled)
        → Follows m t h

  module _ (m k : ℕ) (t : Tally) (h : Held) (r : Reached text levels h) where
    shape_of : h.job.state ≡ Open → Shape text levels h.job h.words
    shape_of o = (good r (open_live o)).shape

    scan_follows : (g : Bool) → Follows m t h → Follows m (counted (scan k g) t) (act text (scan k g) h)
    scan_follows g (stopped f e) = stopped f (scan_state text k h g ∙ e)
    scan_follows g (going o c s z v) =
        going (scan_state text k h g ∙ o) ((scan_keeps (shape_of o) k g).as_many ∙ c)
        (λ i l. now_same t.scanned (λ x. (chunk_at h.job x).scanned) k true true i (s i l) (λ _. refl) ∙ sym (scan_marks r o k g i (omega (arith, l, c))))
        (λ i l. z i l ∙ sym (scan_rest r o k g i).0) (λ i l. v i l ∙ sym (scan_rest r o k g i).1)

    settle_follows : Follows m t h → Follows m (counted (settle k) t) (act text (settle k) h)
    settle_follows (stopped f e) = stopped f (settle_stopped text k h f e)
    settle_follows (going o c s z v) =
        state_case (λ st. (act text (settle k) h).job.state ≡ st → Follows m (counted (settle k) t) (act text (settle k) h))
        (λ st. going st ((settle_keeps (shape_of o) k).as_many ∙ c) (λ i l. s i l ∙ sym (settle_rest r o k i).0)
        (λ i l. now_same t.settled (λ x. (chunk_at h.job x).settled) k (settle_in_time t k) (ready Settle h.job k) i (z i l) (λ p. in_time k (omega (arith, l, p))) ∙ sym (settle_marks r o k i (omega (arith, l, c))))
        (λ i l. v i l ∙ sym (settle_rest r o k i).1))
        (λ f st. stopped f st) (λ st. absurd (settle_live r (open_live o) k st)) (act text (settle k) h).job.state refl
      where
        in_time : (x : ℕ) → x < m → settle_in_time t x ≡ ready Settle h.job x
        in_time zero l = s zero l ∙ bool1 (λ b. b) (λ b. b && true) tt (chunk_at h.job zero).scanned
        in_time (suc x) l = ap₂ ◌&&◌ (s (suc x) l) (z x (omega arith))

    level_follows : Follows m t h → Follows m (counted (level k) t) (act text (level k) h)
    level_follows (stopped f e) = stopped f (level_state text k h ∙ e)
    level_follows (going o c s z v) =
        going (level_state text k h ∙ o) ((level_keeps (shape_of o) k).as_many ∙ c) (λ i l. s i l ∙ sym (level_rest r o k i).0) (λ i l. z i l ∙ sym (level_rest r o k i).1)
        (λ i l. now_same t.levelled (λ x. (chunk_at h.job x).levelled) k (t.settled k) (ready Level h.job k) i (v i l) (λ p. z k (omega (arith, l, p))) ∙ sym (level_marks r o k i (omega (arith, l, c))))

  follows : (m : ℕ) (cs : List Call) (t : Tally) (h : Held) → steps_alone cs ≡ true → Reached text levels h → Follows m t h → Follows m (tally cs t) (run text cs h)
  unfolding run tally steps_alone
  follows m [] t h a r f = f
  follows m (scan k g ∷ cs) t h a r f = follows m cs _ (act text (scan k g) h) a (reach_more (scan k g) r) (scan_follows m k t h r g f)
  follows m (settle k ∷ cs) t h a r f = follows m cs _ (act text (settle k) h) a (reach_more (settle k) r) (settle_follows m k t h r f)
  follows m (level k ∷ cs) t h a r f = follows m cs _ (act text (level k) h) a (reach_more (level k) r) (level_follows m k t h r f)
  follows m (close ∷ cs) t h a r f = impossible (cc)

  -- ---- the opening, all calls, and the close

  module _ (cuts words : List ℕ) (calls : List Call) (accepted : opening (length text) (length words) levels cuts ≡ Done) where
    start_open : ((start text levels cuts words).job.state ≡ Open) × ((start text levels cuts words).job.count ≡ length cuts + 1)
    unfolding start opened
    start_open = rw accepted (refl, refl)

    -- no chunk has had a step
    none_had : (f : Chunk → Bool) → ((at : ℕ) → false ≡ f (fresh at)) → (i : ℕ) → i < length cuts + 1 → false ≡ f (chunk_at (start text levels cuts words).job i)
    unfolding start opened
    none_had f e i l = rw accepted (any_chunk text levels cuts words accepted (λ c. false ≡ f c) e i (omega arith))

    abbrev behind : Held
    behind = run text calls (start text levels cuts words)

    behind_reached : (cs : List Call) → Reached text levels (run text cs (start text levels cuts words))
    behind_reached cs = record { cuts = cuts; words = words; calls = cs; accepted = accepted; leads = refl }

    all_follows : steps_alone calls ≡ true → Follows (length cuts + 1) (tally calls no_steps) behind
    unfolding run
    all_follows alone =
        follows (length cuts + 1) calls no_steps (start text levels cuts words) alone (behind_reached [])
        (going start_open.0 start_open.1 (none_had (λ c. c.scanned) (λ at. refl)) (none_had (λ c. c.settled) (λ at. refl)) (none_had (λ c. c.levelled) (λ at. refl)))

    stopped_ends : (f : Fault) → behind.job.state ≡ Stopped f → Ends (answer text close behind)
    stopped_ends f e = subst Ends (sym (stopped_closes (behind_reached calls) f e)) (Ends.fault f)

    levelled_ends : behind.job.state ≡ Open → all_levelled behind.job ≡ true → Ends (answer text close behind)
    levelled_ends o e = subst Ends (sym (then_closes (behind_reached calls) o e)) Ends.done

    as_run : Ends (answer text close behind) → WholeRun text words levels cuts calls
    unfolding whole_answer whole_words
    as_run ends = rw accepted (record { before = behind; reached = behind_reached calls; answers = refl; ends = ends; leaves = refl })

    -- whatever steps are called, in whatever order: the run is closed, or its close was too early
    pub closed_or_early : steps_alone calls ≡ true
        → WholeRun text words levels cuts calls ⊎ (whole_answer text words levels cuts calls ≡ Refused Early)
    unfolding whole_answer answer closed
    closed_or_early alone = go (all_follows alone)
      where
        by : behind.job.state ≡ Open → (b : Bool) → all_levelled behind.job ≡ b
            → WholeRun text words levels cuts calls ⊎ (whole_answer text words levels cuts calls ≡ Refused Early)
        by o true e = inl (as_run (levelled_ends o e))
        by o false e =
            let same = (lengths_exactly (behind_reached calls) (open_live o) (length text) (length behind.words)).1 (refl, refl) in
            inr (rw accepted (closing_early behind.job (length text) (length behind.words) o same e))

        go : Follows (length cuts + 1) (tally calls no_steps) behind
            → WholeRun text words levels cuts calls ⊎ (whole_answer text words levels cuts calls ≡ Refused Early)
        go (stopped f e) = inl (as_run (stopped_ends f e))
        go (going o c s z v) = by o (all_levelled behind.job) refl

    -- every chunk of an open job is levelled exactly where it is by the tally
    all_levelled_then : (o : behind.job.state ≡ Open) → behind.job.count ≡ length cuts + 1 → ((i : ℕ) → i < length cuts + 1 → (tally calls no_steps).levelled i ≡ (chunk_at behind.job i).levelled)
        → (all_levelled behind.job ≡ true) ↔ LeavesNoneOut (length cuts + 1) calls
    unfolding all_levelled
    all_levelled_then o c v = (
      λ e k l. v k (omega arith) ∙ every_one (λ x. (chunk_at behind.job x).levelled) (chunks_of behind.job) e k (omega (arith, l, c, as_many)),
      λ e. every_all (λ x. (chunk_at behind.job x).levelled) (chunks_of behind.job) (λ i l. let few : i < length cuts + 1 = omega (arith, l, c, as_many) in sym (v i few) ∙ e i few),
    )
      where
        as_many : chunks_of behind.job ≡ behind.job.count
        as_many = count_is (good (behind_reached calls) (open_live o)).shape

    -- over a sound record: it is answered Done exactly where no step is left out
    pub done_exactly : steps_alone calls ≡ true → fault_of text ≡ sound → (whole_answer text words levels cuts calls ≡ Done) ↔ LeavesNoneOut (length cuts + 1) calls
    unfolding whole_answer answer
    done_exactly alone s = rw accepted (go (all_follows alone))
      where
        go : Follows (length cuts + 1) (tally calls no_steps) behind → ((closed behind.job (length text) (length behind.words)).answer ≡ Done) ↔ LeavesNoneOut (length cuts + 1) calls
        go (stopped f e) = absurd (never_stopped s (behind_reached calls) f e)
        go (going o c sc z v) =
            let same = all_levelled_then o c v in
            (λ d. same.0 ((close_done behind.job (length text) behind.words).0 d).1.1, λ e. then_closes (behind_reached calls) o (same.1 e))

    module _ (alone : steps_alone calls ≡ true) (none : LeavesNoneOut (length cuts + 1) calls) where
      -- calls that leave no step out: the run is closed
      pub whole_run : WholeRun text words levels cuts calls
      whole_run = as_run (go (all_follows alone))
        where
          go : Follows (length cuts + 1) (tally calls no_steps) behind → Ends (answer text close behind)
          go (stopped f e) = stopped_ends f e
          go (going o c s z v) = levelled_ends o ((all_levelled_then o c v).1 none)

      -- over a sound record it answers Done and leaves the index
      pub whole_sound : fault_of text ≡ sound → (whole_answer text words levels cuts calls ≡ Done) × (whole_words text words levels cuts calls ≡ index text levels)
      whole_sound s = sound_closes s whole_run

      -- over a faulty one it answers the first fault, its number and its place, and leaves zeros
      pub whole_faulty : {n p : ℕ} → fault_of text ≡ faulty n p
          → (number_of (whole_answer text words levels cuts calls) ≡ n) × (place_of (whole_answer text words levels cuts calls) ≡ p) × (whole_words text words levels cuts calls ≡ replicate (size_of levels (length text)) 0)
      whole_faulty s = let c = faulty_closes s whole_run in (ap number_of c.1 ∙ c.2, ap place_of c.1 ∙ c.3, c.4)
