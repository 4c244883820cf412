-- What a step marks, exactly: its own step of its own chunk, where it is called in its time. By the refusals of an open job, test by test.
use Prim.Native.Nat.{ℕ, ◌<◌}
use mathlib.Core.Path.{◌≡◌, refl, sym, ap, ap₂, ◌∙◌, subst}
use mathlib.Core.Bool.{Bool, true, false, ◌&&◌, ◌||◌}
use mathlib.Core.List.{List}
use native.Mathlib.Decide.{ℕ_discrete}
use native.Mathlib.Omega.{arith}
use lib.ListN.{length}
use borrow.Author.Tests.{eq-eqb, ne_eqb}
use Rattle.rules.proofs.Booleans.{impossible, bool1}
use Rattle.index.specs.declared.Answer.{Answer}
use Rattle.index.specs.declared.Answer.TheVariants.{Done, Refused, Faulty}
use Rattle.index.specs.declared.Job.{Job}
use Rattle.index.specs.Types.{Chunk, Open, Closed, Step, Scan, Settle, Level}
use Rattle.index.specs.Answers.{on_done}
use Rattle.index.specs.Checks.{chunks_of, chunk_at, with_chunk, same_lengths, taken, settled_before, ready, refusal}
use Rattle.index.specs.Scanning.{scan_chunk, scanned}
use Rattle.index.specs.Settling.{settle_words, settle_chunk, found_by, found_job, settled}
use Rattle.index.specs.Levelling.{level_chunk, levelled}
use Rattle.index.proofs.CheckLaws.{chunks_few, accepted, if_taken, if_early, if_done}
use Rattle.runs.specs.Runs.{scan, settle, level, Held, act, Reached}
use Rattle.runs.specs.Whole.{and_now}
use Rattle.runs.proofs.Spans.{Shape, count_is, chunk_new, chunk_old, chunk_any}
use Rattle.runs.proofs.Theorems.{good, lengths_exactly}
use Rattle.runs.proofs.Settles.{found_chunk}

-- ---- what a chunk has now

pub still : (had : ℕ → Bool) (k : ℕ) (inTime : Bool) (i : ℕ) → had i ≡ true → and_now had k inTime i ≡ true
still had k inTime i e = rw e

pub now : (had : ℕ → Bool) (k : ℕ) (inTime : Bool) → inTime ≡ true → and_now had k inTime k ≡ true
now had k inTime e = rw (eq-eqb k k refl, e) (bool1 (λ b. b || true) (λ b. true) tt (had k))

other : (had : ℕ → Bool) (k : ℕ) (inTime : Bool) (i : ℕ) → (i ≡ k → ⊥) → had i ≡ and_now had k inTime i
other had k inTime i n = rw (ne_eqb i k n) (bool1 (λ b. b) (λ b. b || false) tt (had i))

-- ---- of a job that is open

module _ {text : List ℕ} {levels : ℕ} {h : Held} (r : Reached text levels h) (o : h.job.state ≡ Open) (k : ℕ) where
  abbrev j : Job
  j = h.job

  live : j.state ≡ Closed → ⊥
  live e = impossible (cc)

  shape : Shape text levels j h.words
  shape = (good r live).shape

  same : same_lengths j (length text) (length h.words) ≡ true
  same = (lengths_exactly r live (length text) (length h.words)).1 (refl, refl)

  module _ (s : Step) (next : Chunk) where
    abbrev after : Job
    after = on_done (refusal s j (length text) (length h.words) k) (with_chunk j k next) j

    few : refusal s j (length text) (length h.words) k ≡ Done → k < 64
    few e = omega (arith, (accepted s j (length text) (length h.words) k e).chunk, chunks_few j)

    -- what the new chunk has as the old one had it, all chunks have as before
    unmarked : (f : Chunk → Bool) → f next ≡ f (chunk_at j k) → (i : ℕ) → f (chunk_at after i) ≡ f (chunk_at j i)
    unmarked f e i = go (refusal s j (length text) (length h.words) k) refl
      where
        go : (a : Answer) → refusal s j (length text) (length h.words) k ≡ a → f (chunk_at (on_done a (with_chunk j k next) j) i) ≡ f (chunk_at j i)
        go Done q = chunk_any j shape.room k (few q) next f e i
        go (Refused y) q = refl
        go (Faulty f) q = refl

    module _ (own : taken s next ≡ true) where
      here : k < j.count → taken s (chunk_at after k) ≡ and_now (λ x. taken s (chunk_at j x)) k (ready s j k) k
      here l = by (taken s (chunk_at j k)) refl (ready s j k) refl
        where
          inside : k < chunks_of j
          inside = omega (arith, l, count_is shape)

          small : k < 64
          small = omega (arith, inside, chunks_few j)

          by : (t : Bool) → taken s (chunk_at j k) ≡ t → (e : Bool) → ready s j k ≡ e → taken s (chunk_at after k) ≡ and_now (λ x. taken s (chunk_at j x)) k (ready s j k) k
          by true t e q = rw (if_taken s j (length text) (length h.words) k o same inside t, t)
          by false t false q = rw (if_early s j (length text) (length h.words) k o same inside t q, t, q, eq-eqb k k refl)
          by false t true q = rw (if_done s j (length text) (length h.words) k o same inside t q, t, q, eq-eqb k k refl, chunk_new j shape.room k small next) own

      away : (i : ℕ) → (i ≡ k → ⊥) → taken s (chunk_at after i) ≡ taken s (chunk_at j i)
      away i n = go (refusal s j (length text) (length h.words) k) refl
        where
          go : (a : Answer) → refusal s j (length text) (length h.words) k ≡ a → taken s (chunk_at (on_done a (with_chunk j k next) j) i) ≡ taken s (chunk_at j i)
          go Done q = ap (taken s) (chunk_old j shape.room k (few q) next i n)
          go (Refused y) q = refl
          go (Faulty f) q = refl

      marks : (i : ℕ) → i < j.count → taken s (chunk_at after i) ≡ and_now (λ x. taken s (chunk_at j x)) k (ready s j k) i
      marks i l = go (ℕ_discrete i k)
        where
          go : Dec (i ≡ k) → taken s (chunk_at after i) ≡ and_now (λ x. taken s (chunk_at j x)) k (ready s j k) i
          go (yes p) = subst (λ (x : ℕ). taken s (chunk_at after x) ≡ and_now (λ y. taken s (chunk_at j y)) k (ready s j k) x) (sym p) (here (omega (arith, l, p)))
          go (no n) = away i n ∙ other (λ x. taken s (chunk_at j x)) k (ready s j k) i n

  -- ---- the three steps, and a step in its time

  pub scan_marks : (g : Bool) (i : ℕ) → i < j.count → (chunk_at (act text (scan k g) h).job i).scanned ≡ and_now (λ x. (chunk_at j x).scanned) k true i
  unfolding act scanned scan_chunk
  scan_marks g = marks Scan (scan_chunk j text k g) refl

  pub scan_rest : (g : Bool) (i : ℕ) → ((chunk_at (act text (scan k g) h).job i).settled ≡ (chunk_at j i).settled) × ((chunk_at (act text (scan k g) h).job i).levelled ≡ (chunk_at j i).levelled)
  unfolding act scanned scan_chunk
  scan_rest g i = (unmarked Scan (scan_chunk j text k g) (λ c. c.settled) refl i, unmarked Scan (scan_chunk j text k g) (λ c. c.levelled) refl i)

  pub level_marks : (i : ℕ) → i < j.count → (chunk_at (act text (level k) h).job i).levelled ≡ and_now (λ x. (chunk_at j x).levelled) k (ready Level j k) i
  unfolding act levelled level_chunk
  level_marks = marks Level (level_chunk j k) refl

  pub level_rest : (i : ℕ) → ((chunk_at (act text (level k) h).job i).scanned ≡ (chunk_at j i).scanned) × ((chunk_at (act text (level k) h).job i).settled ≡ (chunk_at j i).settled)
  unfolding act levelled level_chunk
  level_rest i = (unmarked Level (level_chunk j k) (λ c. c.scanned) refl i, unmarked Level (level_chunk j k) (λ c. c.settled) refl i)

  abbrev settled_chunk : Chunk
  settled_chunk = settle_chunk j text (settle_words j text h.words k) k

  -- a fault that is found changes the state alone
  found_same : (i : ℕ) → chunk_at (act text (settle k) h).job i ≡ chunk_at (after Settle settled_chunk) i
  unfolding act settled
  found_same i = go (refusal Settle j (length text) (length h.words) k)
    where
      go : (a : Answer) → chunk_at (on_done a (found_job (found_by j text (settle_words j text h.words k) k) (with_chunk j k settled_chunk)) j) i ≡ chunk_at (on_done a (with_chunk j k settled_chunk) j) i
      go Done = found_chunk (found_by j text (settle_words j text h.words k) k) (with_chunk j k settled_chunk) i
      go (Refused y) = refl
      go (Faulty f) = refl

  pub settle_marks : (i : ℕ) → i < j.count → (chunk_at (act text (settle k) h).job i).settled ≡ and_now (λ x. (chunk_at j x).settled) k (ready Settle j k) i
  unfolding settle_chunk
  settle_marks i l = ap (λ (c : Chunk). c.settled) (found_same i) ∙ marks Settle settled_chunk refl i l

  pub settle_rest : (i : ℕ) → ((chunk_at (act text (settle k) h).job i).scanned ≡ (chunk_at j i).scanned) × ((chunk_at (act text (settle k) h).job i).levelled ≡ (chunk_at j i).levelled)
  unfolding settle_chunk
  settle_rest i = (
    ap (λ (c : Chunk). c.scanned) (found_same i) ∙ unmarked Settle settled_chunk (λ c. c.scanned) refl i,
    ap (λ (c : Chunk). c.levelled) (found_same i) ∙ unmarked Settle settled_chunk (λ c. c.levelled) refl i,
  )

  module _ (l : k < j.count) where
    pub scan_had : (g : Bool) → (chunk_at (act text (scan k g) h).job k).scanned ≡ true
    scan_had g = scan_marks g k l ∙ now (λ x. (chunk_at j x).scanned) k true refl

    pub settle_had : (chunk_at j k).scanned ≡ true → settled_before j k ≡ true → (chunk_at (act text (settle k) h).job k).settled ≡ true
    settle_had seen before = settle_marks k l ∙ now (λ x. (chunk_at j x).settled) k (ready Settle j k) (ap₂ ◌&&◌ seen before)

    pub level_had : (chunk_at j k).settled ≡ true → (chunk_at (act text (level k) h).job k).levelled ≡ true
    level_had set = level_marks k l ∙ now (λ x. (chunk_at j x).levelled) k (ready Level j k) set
