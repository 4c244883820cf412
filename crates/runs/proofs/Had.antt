-- Steps that chunks have had stay had, whatever is called next, and a stopped job stays stopped.
use mathlib.Core.Path.{◌≡◌, refl, ap, ◌∙◌, subst}
use mathlib.Core.Bool.{Bool, true}
use mathlib.Core.List.{List}
use Prim.Native.Nat.{ℕ, ◌<◌}
use native.Mathlib.Decide.{ℕ_discrete}
use native.Mathlib.Omega.{arith}
use lib.ListN.{length}
use Rattle.index.specs.declared.Answer.{Answer}
use Rattle.index.specs.declared.Answer.TheVariants.{Done, Refused, Faulty}
use Rattle.index.specs.declared.Fault.{Fault}
use Rattle.index.specs.declared.Job.{Job}
use Rattle.index.specs.Types.{Chunk, Stopped, Step, Scan, Settle, Level}
use Rattle.index.specs.Answers.{on_done}
use Rattle.index.specs.Checks.{chunk_at, with_chunk, refusal}
use Rattle.index.specs.Scanning.{scan_chunk, scanned}
use Rattle.index.specs.Settling.{settle_words, settle_chunk, found_by, found_job, settled}
use Rattle.index.specs.Levelling.{level_chunk, levelled}
use Rattle.index.proofs.Cases.{found_case}
use Rattle.index.proofs.CheckLaws.{chunks_few, accepted, if_stopped}
use Rattle.runs.specs.Runs.{scan, settle, level, Held, act}
use Rattle.runs.proofs.Spans.{Shape, chunk_new, chunk_old}

-- every step that a chunk has had
pub record Keeps (j next : Job) : Type 0 where
  pub as_many : next.count ≡ j.count
  pub scanned_stays : (i : ℕ) → (chunk_at j i).scanned ≡ true → (chunk_at next i).scanned ≡ true
  pub settled_stays : (i : ℕ) → (chunk_at j i).settled ≡ true → (chunk_at next i).settled ≡ true
  pub levelled_stays : (i : ℕ) → (chunk_at j i).levelled ≡ true → (chunk_at next i).levelled ≡ true

same_keeps : {j : Job} → Keeps j j
same_keeps = record { as_many = refl; scanned_stays = λ i e. e; settled_stays = λ i e. e; levelled_stays = λ i e. e }

module _ (j : Job) (room : length j.chunks ≡ 64) (k : ℕ) (l : k < 64) (c : Chunk) where
  flag_stays : (f : Chunk → Bool) → (f (chunk_at j k) ≡ true → f c ≡ true) → (i : ℕ) → f (chunk_at j i) ≡ true → f (chunk_at (with_chunk j k c) i) ≡ true
  flag_stays f stays i e = go (ℕ_discrete i k)
    where
      go : Dec (i ≡ k) → f (chunk_at (with_chunk j k c) i) ≡ true
      go (yes p) = ap (λ (x : ℕ). f (chunk_at (with_chunk j k c) x)) p ∙ ap f (chunk_new j room k l c) ∙ stays (subst (λ (x : ℕ). f (chunk_at j x) ≡ true) p e)
      go (no n) = ap f (chunk_old j room k l c i n) ∙ e

  chunk_keeps : ((chunk_at j k).scanned ≡ true → c.scanned ≡ true) → ((chunk_at j k).settled ≡ true → c.settled ≡ true) → ((chunk_at j k).levelled ≡ true → c.levelled ≡ true) → Keeps j (with_chunk j k c)
  chunk_keeps p q r =
      record { as_many = refl; scanned_stays = flag_stays (λ x. x.scanned) p; settled_stays = flag_stays (λ x. x.settled) q; levelled_stays = flag_stays (λ x. x.levelled) r }

module _ {text : List ℕ} {levels : ℕ} {h : Held} (s : Shape text levels h.job h.words) (k : ℕ) where
  abbrev j : Job
  j = h.job

  few : (st : Step) → refusal st j (length text) (length h.words) k ≡ Done → k < 64
  few st e = omega (arith, (accepted st j (length text) (length h.words) k e).chunk, chunks_few j)

  pub scan_keeps : (x : Bool) → Keeps j (act text (scan k x) h).job
  unfolding act scanned scan_chunk
  scan_keeps x = go (refusal Scan j (length text) (length h.words) k) refl
    where
      go : (a : Answer) → refusal Scan j (length text) (length h.words) k ≡ a → Keeps j (on_done a (with_chunk j k (scan_chunk j text k x)) j)
      go Done e = chunk_keeps j s.room k (few Scan e) (scan_chunk j text k x) (λ p. refl) (λ p. p) (λ p. p)
      go (Refused y) e = same_keeps
      go (Faulty f) e = same_keeps

  pub settle_keeps : Keeps j (act text (settle k) h).job
  unfolding act settled settle_chunk
  settle_keeps = go (refusal Settle j (length text) (length h.words) k) refl
    where
      after : List ℕ
      after = settle_words j text h.words k

      go : (a : Answer) → refusal Settle j (length text) (length h.words) k ≡ a → Keeps j (on_done a (found_job (found_by j text after k) (with_chunk j k (settle_chunk j text after k))) j)
      go Done e =
          let m = chunk_keeps j s.room k (few Settle e) (settle_chunk j text after k) (λ p. p) (λ p. refl) (λ p. p) in
          found_case (λ y. Keeps j (found_job y (with_chunk j k (settle_chunk j text after k)))) m
          (λ f. record { as_many = m.as_many; scanned_stays = m.scanned_stays; settled_stays = m.settled_stays; levelled_stays = m.levelled_stays }) (found_by j text after k)
      go (Refused y) e = same_keeps
      go (Faulty f) e = same_keeps

  pub level_keeps : Keeps j (act text (level k) h).job
  unfolding act levelled level_chunk
  level_keeps = go (refusal Level j (length text) (length h.words) k) refl
    where
      go : (a : Answer) → refusal Level j (length text) (length h.words) k ≡ a → Keeps j (on_done a (with_chunk j k (level_chunk j k)) j)
      go Done e = chunk_keeps j s.room k (few Level e) (level_chunk j k) (λ p. p) (λ p. p) (λ p. refl)
      go (Refused y) e = same_keeps
      go (Faulty f) e = same_keeps

module _ (text : List ℕ) (k : ℕ) (h : Held) where
  -- scan and level leave the state
  pub scan_state : (x : Bool) → (act text (scan k x) h).job.state ≡ h.job.state
  unfolding act scanned
  scan_state x = go (refusal Scan h.job (length text) (length h.words) k)
    where
      go : (a : Answer) → (on_done a (with_chunk h.job k (scan_chunk h.job text k x)) h.job).state ≡ h.job.state
      go Done = refl
      go (Refused y) = refl
      go (Faulty f) = refl

  pub level_state : (act text (level k) h).job.state ≡ h.job.state
  unfolding act levelled
  level_state = go (refusal Level h.job (length text) (length h.words) k)
    where
      go : (a : Answer) → (on_done a (with_chunk h.job k (level_chunk h.job k)) h.job).state ≡ h.job.state
      go Done = refl
      go (Refused y) = refl
      go (Faulty f) = refl

  -- and a stopped job stays stopped
  pub settle_stopped : (f : Fault) → h.job.state ≡ Stopped f → (act text (settle k) h).job.state ≡ Stopped f
  unfolding act settled
  settle_stopped f e = rw (if_stopped Settle h.job (length text) (length h.words) k f e) e
