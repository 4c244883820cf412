-- Demand 3: an open job has a step that it accepts, on the first chunk that is not levelled, until each chunk has had three; each lowers the steps
-- that are left; then close is accepted. So every run can be brought to a close.
use Rattle.std.specs.Prelude.{Option}
use mathlib.Core.Path.{◌≡◌, refl, sym, ap, ap₂, ◌∙◌, subst}
use mathlib.Core.Bool.{Bool, true, false, not, ◌&&◌}
use mathlib.Core.Logic.{◌⊎◌, inl, inr, ◌↔◌}
use mathlib.Core.List.{List, [], ◌∷◌, ◌++◌}
use Prim.Native.Nat.{ℕ, zero, suc, ◌+◌, ◌<◌}
use native.Mathlib.Decide.{ℕ_discrete}
use native.Mathlib.Omega.{arith}
use lib.ListN.{length}
use Rattle.rules.specs.Word.{digit, pick}
use Rattle.rules.specs.Faults.{sound, fault_of}
use Rattle.rules.proofs.Booleans.{impossible}
use Rattle.index.specs.declared.Answer.TheVariants.{Done, Faulty}
use Rattle.index.specs.declared.Fault.{Fault}
use Rattle.index.specs.declared.Job.{Job}
use Rattle.index.specs.Types.{Chunk, Open, Stopped, Closed, Step, Scan, Settle, Level}
use Rattle.index.specs.Checks.{chunks_of, chunk_at, with_chunk, settled_before, taken, ready, same_lengths, refusal}
use Rattle.index.specs.Scanning.{scan_chunk, scanned}
use Rattle.index.specs.Settling.{settle_chunk, settle_words, found_job, settled}
use Rattle.index.specs.Levelling.{level_chunk, levelled}
use Rattle.index.specs.Closing.{every, all_levelled, closed}
use Rattle.index.proofs.CheckLaws.{accepted, if_done}
use Rattle.index.proofs.Cases.{found_case, state_case}
use Rattle.index.proofs.CloseLaws.{stopped_fault, closing_done}
use Rattle.runs.specs.Runs.{Call, scan, settle, level, close, Held, answer, act, run, start, Reached, Ends, lacks, total, steps_left, Next, scan_next, settle_next, level_next, next_step, Left}
use Rattle.runs.proofs.Spans.{Shape, count_is, chunk_new, chunk_old}
use Rattle.runs.proofs.Good.{Good}
use Rattle.index.proofs.NumberLaws.{close_done}
use Rattle.runs.proofs.Reach.{Fine, scan_fine, settle_fine, level_fine}
use Rattle.runs.proofs.Theorems.{good, every_one, stopped_named, lengths_exactly, sound_faulty}

-- ---- "An open job over a sound record" is never stopped

pub never_stopped : {text : List ℕ} {levels : ℕ} {h : Held} → fault_of text ≡ sound → Reached text levels h → (f : Fault) → h.job.state ≡ Stopped f → ⊥
never_stopped s r f e = sound_faulty f (sym s ∙ stopped_named r f e)

-- ---- the first chunk that is not levelled

data Search (p : ℕ → Bool) (m : ℕ) : Type 0 where
  all : ((i : ℕ) → i < m → p i ≡ true) → Search p m
  first_not : (k : ℕ) → k < m → p k ≡ false → ((i : ℕ) → i < k → p i ≡ true) → Search p m

search_first : (p : ℕ → Bool) (m : ℕ) → Search p m
search_first p zero = all (λ i l. absurd (omega arith))
search_first p (suc m) = go (search_first p m) (p m) refl
  where
    go : Search p m → (b : Bool) → p m ≡ b → Search p (suc m)
    go (first_not k l e before) b q = first_not k (omega arith) e before
    go (all h) false q = first_not m (omega arith) q h
    go (all h) true q = all (λ i l. here i l (ℕ_discrete i m))
      where
        here : (i : ℕ) → i < suc m → Dec (i ≡ m) → p i ≡ true
        here i l (yes e) = ap p e ∙ q
        here i l (no n) = h i (omega (arith, n))

pub every_all : (p : ℕ → Bool) (m : ℕ) → ((i : ℕ) → i < m → p i ≡ true) → every p m ≡ true
unfolding every
every_all p zero q = refl
every_all p (suc m) q = ap₂ ◌&&◌ (every_all p m (λ i l. q i (omega arith))) (q m (omega arith))

module _ {text : List ℕ} {levels : ℕ} {h : Held} (r : Reached text levels h) (o : h.job.state ≡ Open) where
  live : h.job.state ≡ Closed → ⊥
  live e = impossible (cc)

  g : Good text levels h.job h.words
  g = good r live

  abbrev j : Job
  j = h.job

  same : same_lengths j (length text) (length h.words) ≡ true
  same = (lengths_exactly r live (length text) (length h.words)).1 (refl, refl)

  accept : (s : Step) (k : ℕ) → k < j.count → taken s (chunk_at j k) ≡ false → ready s j k ≡ true → refusal s j (length text) (length h.words) k ≡ Done
  accept s k l t e = if_done s j (length text) (length h.words) k o same (omega (arith, l, count_is g.shape)) t e

  before_first : (k : ℕ) → k < j.count → ((i : ℕ) → i < k → (chunk_at j i).levelled ≡ true) → settled_before j k ≡ true
  before_first zero l q = refl
  before_first (suc k) l q = (g.ok k (omega arith)).settled_first (q k (omega arith))

  -- which step: the one that the first chunk that is not levelled has not had yet
  pub some_step : (all_levelled j ≡ true) ⊎ Left text h
  unfolding all_levelled next_step
  some_step = go (search_first (λ k. (chunk_at j k).levelled) j.count)
    where
      go : Search (λ k. (chunk_at j k).levelled) j.count → (every (λ k. (chunk_at j k).levelled) (chunks_of j) ≡ true) ⊎ Left text h
      go (all q) = inl (every_all (λ k. (chunk_at j k).levelled) (chunks_of j) (λ i l. q i (omega (arith, count_is g.shape))))
      go (first_not k l e before) = inr (record { chunk = k; is_chunk = l; not_levelled = e; first = before; accepts = by_step (chunk_at j k).scanned refl (chunk_at j k).settled refl })
        where
          next : (a b : Bool) → Call
          next a b = pick a (pick b (level k) (settle k)) (scan k false)

          by_step : (a : Bool) → (chunk_at j k).scanned ≡ a → (b : Bool) → (chunk_at j k).settled ≡ b → Next text h (next a b)
          by_step false p b q = scan_next k false (accept Scan k l p refl)
          by_step true p false q = settle_next k (accept Settle k l q (ap₂ ◌&&◌ p (before_first k l before)))
          by_step true p true q = level_next k (accept Level k l e q)

  -- "until each chunk has had three; then it closes"
  pub then_closes : all_levelled j ≡ true → answer text close h ≡ Done
  unfolding answer closed
  then_closes e = closing_done j (length text) (length h.words) o same e

-- a stopped job closes with its fault
pub stopped_closes : {text : List ℕ} {levels : ℕ} {h : Held} → Reached text levels h → (f : Fault) → h.job.state ≡ Stopped f → answer text close h ≡ Faulty f
unfolding answer closed
stopped_closes {text} {levels} {h} r f e =
    stopped_fault h.job (length text) (length h.words) f e ((lengths_exactly r (λ c. impossible (cc)) (length text) (length h.words)).1 (refl, refl))

-- ---- each accepted step lowers the steps left

total_ext : (f f' : ℕ → ℕ) (m : ℕ) → ((i : ℕ) → i < m → f i ≡ f' i) → total f m ≡ total f' m
unfolding total
total_ext f f' zero h = refl
total_ext f f' (suc m) h = ap₂ ◌+◌ (total_ext f f' m (λ i l. h i (omega arith))) (h m (omega arith))

total_less : (f f' : ℕ → ℕ) (m k : ℕ) → k < m → ((i : ℕ) → (i ≡ k → ⊥) → f' i ≡ f i) → f' k < f k → total f' m < total f m
unfolding total
total_less f f' zero k l same less = absurd (omega arith)
total_less f f' (suc m) k l same less = go (ℕ_discrete k m) (λ b. total_less f f' m k b same less)
  where
    go : Dec (k ≡ m) → (k < m → total f' m < total f m) → total f' m + f' m < total f m + f m
    go (yes e) rest =
        let under = total_ext f' f m (λ i b. same i (λ q. omega arith)) in
        omega (arith, under, subst (λ (x : ℕ). f' x < f x) e less)
    go (no n) rest = omega (arith, rest (omega (arith, n)), same m (λ q. n (sym q)))

-- a chunk anew that lacks less
left_less : {text : List ℕ} {levels : ℕ} {j : Job} {words : List ℕ} → Shape text levels j words → (k : ℕ) (c : Chunk) → k < j.count → lacks c < lacks (chunk_at j k) → steps_left (with_chunk j k c) < steps_left j
unfolding steps_left
left_less {text} {levels} {j} s k c l less =
    let few : k < 64 = omega (arith, s.many) in
    total_less (λ i. lacks (chunk_at j i)) (λ i. lacks (chunk_at (with_chunk j k c) i)) j.count k l (λ i n. ap lacks (chunk_old j s.room k few c i n))
    (subst (λ (x : Chunk). lacks x < lacks (chunk_at j k)) (sym (chunk_new j s.room k few c)) less)

found_left : (x : Option Fault) (j : Job) → steps_left (found_job x j) ≡ steps_left j
unfolding steps_left
found_left x j = found_case (λ y. steps_left (found_job y j) ≡ steps_left j) refl (λ f. refl) x

-- what each step adds
lacks_scan : (j : Job) (text : List ℕ) (k : ℕ) (x : Bool) → (chunk_at j k).scanned ≡ false → lacks (scan_chunk j text k x) < lacks (chunk_at j k)
unfolding lacks scan_chunk
lacks_scan j text k x e = omega (arith, ap (λ (b : Bool). digit (not b)) e)

lacks_settle : (j : Job) (text words : List ℕ) (k : ℕ) → (chunk_at j k).settled ≡ false → lacks (settle_chunk j text words k) < lacks (chunk_at j k)
unfolding lacks settle_chunk
lacks_settle j text words k e = omega (arith, ap (λ (b : Bool). digit (not b)) e)

lacks_level : (j : Job) (k : ℕ) → (chunk_at j k).levelled ≡ false → lacks (level_chunk j k) < lacks (chunk_at j k)
unfolding lacks level_chunk
lacks_level j k e = omega (arith, ap (λ (b : Bool). digit (not b)) e)

pub lowers : {text : List ℕ} {levels : ℕ} {h : Held} {c : Call} → Reached text levels h → h.job.state ≡ Open → Next text h c → steps_left (act text c h).job < steps_left h.job
unfolding act scanned settled levelled
lowers {text} {levels} {h} r o (scan_next k x e) =
    let a = accepted Scan h.job (length text) (length h.words) k e in
    let s = (g r o).shape in
    rw e (left_less s k (scan_chunk h.job text k x) (omega (arith, a.chunk, count_is s)) (lacks_scan h.job text k x a.untaken))
lowers {text} {levels} {h} r o (settle_next k e) =
    let a = accepted Settle h.job (length text) (length h.words) k e in
    let s = (g r o).shape in
    let after = settle_words h.job text h.words k in
    rw (e, found_left) (left_less s k (settle_chunk h.job text after k) (omega (arith, a.chunk, count_is s)) (lacks_settle h.job text after k a.untaken))
lowers {text} {levels} {h} r o (level_next k e) =
    let a = accepted Level h.job (length text) (length h.words) k e in
    let s = (g r o).shape in
    rw e (left_less s k (level_chunk h.job k) (omega (arith, a.chunk, count_is s)) (lacks_level h.job k a.untaken))

-- ---- "until each chunk has had three; then it closes"

total_none : (f : ℕ → ℕ) (m : ℕ) → ((i : ℕ) → i < m → f i ≡ 0) → total f m ≡ 0
unfolding total
total_none f zero h = refl
total_none f (suc m) h = omega (arith, total_none f m (λ i l. h i (omega arith)), h m (omega arith))

none_total : (f : ℕ → ℕ) (m : ℕ) → total f m ≡ 0 → (i : ℕ) → i < m → f i ≡ 0
unfolding total
none_total f zero e i l = absurd (omega arith)
none_total f (suc m) e i l = go (ℕ_discrete i m) (λ q. none_total f m (omega arith) i q)
  where
    go : Dec (i ≡ m) → (i < m → f i ≡ 0) → f i ≡ 0
    go (yes q) rest = ap f q ∙ omega arith
    go (no n) rest = rest (omega (arith, n))

lacks_none : (c : Chunk) → c.scanned ≡ true → c.settled ≡ true → c.levelled ≡ true → lacks c ≡ 0
unfolding lacks
lacks_none c p q r = omega (arith, ap (λ (b : Bool). digit (not b)) p, ap (λ (b : Bool). digit (not b)) q, ap (λ (b : Bool). digit (not b)) r)

none_lacks : (c : Chunk) → lacks c ≡ 0 → c.levelled ≡ true
unfolding lacks
none_lacks c e = go c.levelled refl
  where
    go : (b : Bool) → c.levelled ≡ b → c.levelled ≡ true
    go true p = p
    go false p = absurd (omega (arith, ap (λ (b : Bool). digit (not b)) p))

module _ {text : List ℕ} {levels : ℕ} {h : Held} (r : Reached text levels h) (unclosed : h.job.state ≡ Closed → ⊥) where
  -- a levelled chunk has had the two other steps
  pub levelled_last : (k : ℕ) → k < h.job.count → (chunk_at h.job k).levelled ≡ true → ((chunk_at h.job k).settled ≡ true) × ((chunk_at h.job k).scanned ≡ true)
  levelled_last k l e =
      let ok = (good r unclosed).ok k l in
      let s = ok.settled_first e in
      (s, (ok.truth s).scanned_is)

  -- no step is left exactly when every chunk is levelled, which is what close asks for
  pub three_each : (steps_left h.job ≡ 0) ↔ (all_levelled h.job ≡ true)
  unfolding steps_left all_levelled
  three_each = (there, back)
    where
      count : chunks_of h.job ≡ h.job.count
      count = count_is (good r unclosed).shape

      there : total (λ k. lacks (chunk_at h.job k)) h.job.count ≡ 0 → every (λ k. (chunk_at h.job k).levelled) (chunks_of h.job) ≡ true
      there e =
          every_all (λ k. (chunk_at h.job k).levelled) (chunks_of h.job)
          (λ i l. none_lacks (chunk_at h.job i) (none_total (λ k. lacks (chunk_at h.job k)) h.job.count e i (omega (arith, l, count))))

      back : every (λ k. (chunk_at h.job k).levelled) (chunks_of h.job) ≡ true → total (λ k. lacks (chunk_at h.job k)) h.job.count ≡ 0
      back e =
          total_none (λ k. lacks (chunk_at h.job k)) h.job.count
          (λ i l.
          let lev = every_one (λ k. (chunk_at h.job k).levelled) (chunks_of h.job) e i (omega (arith, l, count)) in
          let had = levelled_last i l lev in
          lacks_none (chunk_at h.job i) had.1 had.0 lev)

  -- over a sound record, close answers Done exactly when each chunk has had three
  pub three_closes : fault_of text ≡ sound → (answer text close h ≡ Done) ↔ (steps_left h.job ≡ 0)
  unfolding answer
  three_closes s = (λ d. three_each.1 ((close_done h.job (length text) h.words).0 d).1.1, λ e. then_closes r is_open (three_each.0 e))
    where
      is_open : h.job.state ≡ Open
      is_open = state_case (λ x. h.job.state ≡ x → h.job.state ≡ Open) (λ p. p) (λ f p. absurd (never_stopped s r f p)) (λ p. absurd (unclosed p)) h.job.state refl

-- ---- every run can be brought to a close

pub run_append : (text : List ℕ) (cs ds : List Call) (h : Held) → run text (cs ++ ds) h ≡ run text ds (run text cs h)
unfolding run
run_append text [] ds h = refl
run_append text (c ∷ cs) ds h = run_append text cs ds (act text c h)

pub reach_more : {text : List ℕ} {levels : ℕ} {h : Held} (c : Call) → Reached text levels h → Reached text levels (act text c h)
unfolding run
reach_more {text} {levels} {h} c r =
    record {
      cuts = r.cuts;
      words = r.words;
      calls = r.calls ++ (c ∷ []);
      accepted = r.accepted;
      leads = run_append text r.calls (c ∷ []) (start text levels r.cuts r.words) ∙ ap (act text c) r.leads;
    }

-- settle closes no job
pub settle_live : {text : List ℕ} {levels : ℕ} {h : Held} → Reached text levels h → (h.job.state ≡ Closed → ⊥) → (k : ℕ) → (act text (settle k) h).job.state ≡ Closed → ⊥
unfolding Fine
settle_live {text} {levels} {h} r l k = (settle_fine text levels k h (good r l)).live

-- a step leaves an open job open or stopped
step_live : {text : List ℕ} {levels : ℕ} {h : Held} {c : Call} → Reached text levels h → h.job.state ≡ Open → Next text h c → (act text c h).job.state ≡ Closed → ⊥
unfolding Fine
step_live {text} {levels} {h} r o (scan_next k x e) = (scan_fine text levels k x h (g r o)).live
step_live {text} {levels} {h} r o (settle_next k e) = (settle_fine text levels k h (g r o)).live
step_live {text} {levels} {h} r o (level_next k e) = (level_fine text levels k h (g r o)).live

by_fuel : {text : List ℕ} {levels : ℕ} (fuel : ℕ) (h : Held) → Reached text levels h → (h.job.state ≡ Closed → ⊥) → steps_left h.job < fuel → (cs : List Call) × Ends (answer text close (run text cs h))
unfolding run
by_fuel {text} {levels} zero h r l b = absurd (omega arith)
by_fuel {text} {levels} (suc fuel) h r l b =
    state_case (λ s. h.job.state ≡ s → (cs : List Call) × Ends (answer text close (run text cs h))) (λ o. opened o (some_step r o) (λ c. by_fuel fuel (act text c h) (reach_more c r)))
    (λ f e. ([], subst Ends (sym (stopped_closes r f e)) (Ends.fault f))) (λ e. absurd (l e)) h.job.state refl
  where
    opened : h.job.state ≡ Open → (all_levelled h.job ≡ true) ⊎ Left text h
        → ((c : Call) → ((act text c h).job.state ≡ Closed → ⊥) → steps_left (act text c h).job < fuel → (cs : List Call) × Ends (answer text close (run text cs (act text c h))))
        → (cs : List Call) × Ends (answer text close (run text cs h))
    opened o (inl e) more = ([], subst Ends (sym (then_closes r o e)) Ends.done)
    opened o (inr n) more =
        let c = next_step n.chunk (chunk_at h.job n.chunk) in
        let rest = more c (step_live r o n.accepts) (omega (arith, lowers r o n.accepts)) in
        (c ∷ rest.0, rest.1)

-- whatever was called so far, unless the job is closed, further calls bring it to a close
pub can_close : {text : List ℕ} {levels : ℕ} {h : Held} → Reached text levels h → (h.job.state ≡ Closed → ⊥) → (cs : List Call) × Ends (answer text close (run text cs h))
can_close {text} {levels} {h} r l = by_fuel (suc (steps_left h.job)) h r l (omega arith)
