-- Runs of a job over one unchanged record: an opening, any calls in any order, each with the job and the words that the last one left.
use Rattle.std.specs.Prelude.{◌≡◌, Bool, true, false, not, List, [], ◌∷◌, ℕ, zero, suc, ◌+◌, ◌*◌, ◌≤◌, ◌<◌, length}
use Rattle.index.specs.declared.Answer.{Answer}
use Rattle.index.specs.declared.Answer.TheVariants.{Done, Faulty}
use Rattle.index.specs.declared.Fault.{Fault}
use Rattle.index.specs.declared.Job.{Job}
use Rattle.rules.specs.Word.{digit, pick, word_at}
use Rattle.rules.specs.Faults.{Verdict, faulty}
use Rattle.rules.specs.Layout.{Bitmap, width_of, cell, bit_of}
use Rattle.index.specs.Types.{Chunk, Scan, Settle, Level}
use Rattle.index.specs.Checks.{chunk_at, is_last, span_of, refusal}
use Rattle.index.specs.Answers.{fault_number, fault_place}
use Rattle.index.specs.Numbers.{Refuses}
use Rattle.index.specs.Opening.{opening, opened}
use Rattle.index.specs.Scanning.{scanned, scanned_words}
use Rattle.index.specs.Settling.{settled, settled_words}
use Rattle.index.specs.Levelling.{levelled, levelled_words}
use Rattle.index.specs.Closing.{closed, closed_words}

-- a call: of a step on a chunk, for scan with its guess, or of close
pub data Call : Type 0 where
  scan : ℕ → Bool → Call
  settle level : ℕ → Call
  close : Call

-- a job and the words lent to it, between two calls
pub record Held : Type 0 where
  pub job : Job
  pub words : List ℕ

-- what a call answers, and what it hands back and leaves: the outcomes that the contracts of `index` give, on all inputs
unfoldable pub answer : List ℕ → Call → Held → Answer
answer text (scan k g) h = (scanned h.job text (length h.words) k g).answer
answer text (settle k) h = (settled h.job text h.words k).answer
answer text (level k) h = (levelled h.job (length text) (length h.words) k).answer
answer text close h = (closed h.job (length text) (length h.words)).answer

unfoldable pub act : List ℕ → Call → Held → Held
act text (scan k g) h = record { job = (scanned h.job text (length h.words) k g).job; words = scanned_words h.job text h.words k g }
act text (settle k) h = record { job = (settled h.job text h.words k).job; words = settled_words h.job text h.words k }
act text (level k) h = record { job = (levelled h.job (length text) (length h.words) k).job; words = levelled_words h.job text h.words k }
act text close h = record { job = (closed h.job (length text) (length h.words)).job; words = closed_words h.job (length text) h.words }

-- calls one after the other
unfoldable pub run : List ℕ → List Call → Held → Held
run text [] h = h
run text (c ∷ cs) h = run text cs (act text c h)

-- an opening over the record, with any cuts and any first contents of the words
unfoldable pub start : List ℕ → ℕ → List ℕ → List ℕ → Held
start text levels cuts words = record { job = (opened (length text) (length words) levels cuts).job; words = words }

-- what an accepted opening and any calls lead to
pub record Reached (text : List ℕ) (levels : ℕ) (h : Held) : Type 0 where
  pub cuts : List ℕ
  pub words : List ℕ
  pub calls : List Call
  pub accepted : opening (length text) (length words) levels cuts ≡ Done
  pub leads : run text calls (start text levels cuts words) ≡ h

-- a fault that a call names, as the rules name it: its number and its place
unfoldable pub verdict_of : Fault → Verdict
verdict_of f = faulty (fault_number f) (fault_place f)

-- a place of chunk k: one of its bytes' places, and for the last chunk the end of the record, of n bytes, too
pub data LiesIn (j : Job) (n k p : ℕ) : Type 0 where
  among : 64 * (span_of j n k).from ≤ p → p < 64 * (span_of j n k).to → LiesIn j n k p
  at_the_end : is_last j k ≡ true → p ≡ n → LiesIn j n k p

-- the words that chunk k has of a bitmap are those of the rules
abbrev pub Right : List ℕ → ℕ → Held → ℕ → Bitmap → Type 0
Right text levels h k b =
    (w : ℕ) → (span_of h.job (length text) k).from ≤ w → w < (span_of h.job (length text) k).to
    → cell h.words levels (width_of (length text)) b w ≡ word_at (bit_of text b) w

-- an answer of close that ends the job
pub data Ends : Answer → Type 0 where
  done : Ends Done
  fault : (f : Fault) → Ends (Faulty f)

-- a run that was closed: the answer of its close, and the words that it left
pub record ClosedRun (text : List ℕ) (levels : ℕ) (a : Answer) (after : List ℕ) : Type 0 where
  pub before : Held
  pub reached : Reached text levels before
  pub answers : answer text close before ≡ a
  pub ends : Ends a
  pub leaves : (act text close before).words ≡ after

-- the steps that a chunk has not had, and those of a job
unfoldable pub lacks : Chunk → ℕ
lacks c = digit (not c.scanned) + digit (not c.settled) + digit (not c.levelled)

-- f 0 + .. + f (m - 1)
unfoldable pub total : (ℕ → ℕ) → ℕ → ℕ
total f zero = 0
total f (suc m) = total f m + f m

unfoldable pub steps_left : Job → ℕ
steps_left j = total (λ k. lacks (chunk_at j k)) j.count

-- a step that the job accepts
pub data Next (text : List ℕ) (h : Held) : Call → Type 0 where
  scan_next : (k : ℕ) (g : Bool) → refusal Scan h.job (length text) (length h.words) k ≡ Done → Next text h (scan k g)
  settle_next : (k : ℕ) → refusal Settle h.job (length text) (length h.words) k ≡ Done → Next text h (settle k)
  level_next : (k : ℕ) → refusal Level h.job (length text) (length h.words) k ≡ Done → Next text h (level k)

-- the step that a chunk has not had yet: scan with the guess 'outside', then settle, then level
unfoldable pub next_step : ℕ → Chunk → Call
next_step k c = pick c.scanned (pick c.settled (level k) (settle k)) (scan k false)

-- of the first chunk that is not levelled, the job accepts that step
pub record Left (text : List ℕ) (h : Held) : Type 0 where
  pub chunk : ℕ
  pub is_chunk : chunk < h.job.count
  pub not_levelled : (chunk_at h.job chunk).levelled ≡ false
  pub first : (i : ℕ) → i < chunk → (chunk_at h.job i).levelled ≡ true
  pub accepts : Next text h (next_step chunk (chunk_at h.job chunk))

-- calls none of which is refused
pub data Accepts (text : List ℕ) : List Call → Held → Type 0 where
  none : {h : Held} → Accepts text [] h
  more : {c : Call} {cs : List Call} {h : Held} → (Refuses (answer text c h) → ⊥) → Accepts text cs (act text c h) → Accepts text (c ∷ cs) h
