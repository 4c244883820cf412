-- Whatever is called, in whatever order: a job that calls have led to is good, or closed. A refused call changes nothing, an accepted step keeps
-- the job good, and a closed job stays closed.
use mathlib.Core.Path.{◌≡◌, refl, subst}
use mathlib.Core.Bool.{Bool}
use mathlib.Core.Logic.{◌⊎◌, inl, inr}
use mathlib.Core.List.{List, [], ◌∷◌}
use Prim.Native.Nat.{ℕ}
use lib.ListN.{length, replicate}
use Rattle.index.specs.declared.Answer.{Answer}
use Rattle.index.specs.declared.Answer.TheVariants.{Done, Refused, Faulty}
use Rattle.index.specs.Types.{Closed, Scan, Settle, Level}
use Rattle.index.specs.Answers.{on_done}
use Rattle.index.specs.Checks.{chunk_at, with_chunk, with_state, span_of, refusal}
use Rattle.chunks.specs.Sweeping.{scan_words}
use Rattle.index.specs.Scanning.{scan_chunk, scanned, scanned_words}
use Rattle.index.specs.Settling.{settle_words, settle_chunk, found_job, found_by, settled, settled_words}
use Rattle.chunks.specs.Levels.{level_words}
use Rattle.index.specs.Levelling.{level_chunk, levelled, levelled_words}
use Rattle.index.specs.Closing.{unless_refused, on_fault, closing, closed, closed_words}
use Rattle.index.proofs.CheckLaws.{if_closed}
use Rattle.index.proofs.CloseLaws.{closing_closed}
use Rattle.runs.specs.Runs.{Call, scan, settle, level, close, Held, act, run, start, Reached}
use Rattle.runs.proofs.Good.{Good}
use Rattle.runs.proofs.Opening.{opened_good}
use Rattle.runs.proofs.Calls.{scan_good, level_good, settle_good}

-- ---- one call: by what its checks answer

module _ (text : List ℕ) (levels : ℕ) where
  unfoldable pub Fine : Held → Type 0
  Fine h = Good text levels h.job h.words

  unfoldable pub Over : Held → Type 0
  Over h = h.job.state ≡ Closed

  pub scan_fine : (k : ℕ) (x : Bool) (h : Held) → Fine h → Fine (act text (scan k x) h)
  unfolding Fine act scanned scanned_words
  scan_fine k x h g = go (refusal Scan h.job (length text) (length h.words) k) refl
    where
      go : (r : Answer) → refusal Scan h.job (length text) (length h.words) k ≡ r
          → Good text levels (on_done r (with_chunk h.job k (scan_chunk h.job text k x)) h.job)
          (on_done r (scan_words text h.job.levels (span_of h.job (length text) k).from (span_of h.job (length text) k).to x h.words) h.words)
      go Done e = scan_good g k x e
      go (Refused y) e = g
      go (Faulty f) e = g

  pub settle_fine : (k : ℕ) (h : Held) → Fine h → Fine (act text (settle k) h)
  unfolding Fine act settled settled_words
  settle_fine k h g = go (refusal Settle h.job (length text) (length h.words) k) refl
    where
      after : List ℕ
      after = settle_words h.job text h.words k

      go : (r : Answer) → refusal Settle h.job (length text) (length h.words) k ≡ r
          → Good text levels (on_done r (found_job (found_by h.job text after k) (with_chunk h.job k (settle_chunk h.job text after k))) h.job) (on_done r after h.words)
      go Done e = settle_good g k e
      go (Refused y) e = g
      go (Faulty f) e = g

  pub level_fine : (k : ℕ) (h : Held) → Fine h → Fine (act text (level k) h)
  unfolding Fine act levelled levelled_words
  level_fine k h g = go (refusal Level h.job (length text) (length h.words) k) refl
    where
      go : (r : Answer) → refusal Level h.job (length text) (length h.words) k ≡ r
          → Good text levels (on_done r (with_chunk h.job k (level_chunk h.job k)) h.job)
          (on_done r (level_words text h.job.levels (span_of h.job (length text) k).from (span_of h.job (length text) k).to (chunk_at h.job k).start h.words) h.words)
      go Done e = level_good g k e
      go (Refused y) e = g
      go (Faulty f) e = g

  close_fine : (h : Held) → Fine h → Fine (act text close h) ⊎ Over (act text close h)
  unfolding Fine Over act closed closed_words
  close_fine h g = go (closing h.job (length text) (length h.words))
    where
      go : (r : Answer) → Good text levels (unless_refused r (with_state h.job Closed) h.job) (on_fault r (replicate (length h.words) 0) h.words) ⊎ ((unless_refused r (with_state h.job Closed) h.job).state ≡ Closed)
      go Done = inr refl
      go (Refused y) = inl g
      go (Faulty f) = inr refl

  act_fine : (c : Call) (h : Held) → Fine h → Fine (act text c h) ⊎ Over (act text c h)
  act_fine (scan k x) h g = inl (scan_fine k x h g)
  act_fine (settle k) h g = inl (settle_fine k h g)
  act_fine (level k) h g = inl (level_fine k h g)
  act_fine close h g = close_fine h g

  -- a closed job answers nothing but 7 any more
  act_over : (c : Call) (h : Held) → Over h → Over (act text c h)
  unfolding Over act scanned settled levelled closed
  act_over (scan k x) h o = rw (if_closed Scan h.job (length text) (length h.words) k o) o
  act_over (settle k) h o = rw (if_closed Settle h.job (length text) (length h.words) k o) o
  act_over (level k) h o = rw (if_closed Level h.job (length text) (length h.words) k o) o
  act_over close h o = rw (closing_closed h.job (length text) (length h.words) o) o

  -- ---- any calls

  run_over : (cs : List Call) (h : Held) → Over h → Over (run text cs h)
  unfolding run
  run_over [] h o = o
  run_over (c ∷ cs) h o = run_over cs (act text c h) (act_over c h o)

  pub run_fine : (cs : List Call) (h : Held) → Fine h → Fine (run text cs h) ⊎ Over (run text cs h)
  unfolding run
  run_fine [] h g = inl g
  run_fine (c ∷ cs) h g = go (act_fine c h g) (run_fine cs (act text c h))
    where
      go : Fine (act text c h) ⊎ Over (act text c h) → (Fine (act text c h) → Fine (run text cs (act text c h)) ⊎ Over (run text cs (act text c h)))
          → Fine (run text cs (act text c h)) ⊎ Over (run text cs (act text c h))
      go (inl x) rest = rest x
      go (inr o) rest = inr (run_over cs (act text c h) o)

  pub reached_fine : (h : Held) → Reached text levels h → Fine h ⊎ Over h
  unfolding Fine start
  reached_fine h r = subst (λ (x : Held). Fine x ⊎ Over x) r.leads (run_fine r.calls (start text levels r.cuts r.words) (opened_good text levels r.cuts r.words r.accepted))
