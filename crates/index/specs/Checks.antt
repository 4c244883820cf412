-- What every step checks, 7 to 12 in this order; where a chunk lies; and what asking tells.
use Rattle.std.specs.Prelude.{ℕ, zero, suc, ◌+◌, ◌/◌, min, Bool, true, false, not, ◌&&◌, List, [], ◌∷◌, get_or, set, pos, eqb, ltb, leb, Some, None}
use Rattle.rules.specs.Word.{pick}
use Rattle.rules.specs.Layout.{width_of, size_of}
use Rattle.index.specs.declared.Refusal.TheVariants.{IsClosed, IsStopped, OtherLength, NoChunk, Taken, Early}
use Rattle.index.specs.declared.Answer.{Answer}
use Rattle.index.specs.declared.Answer.TheVariants.{Done}
use Rattle.index.specs.declared.State.{State}
use Rattle.index.specs.declared.State.TheVariants.{Open, Stopped, Closed}
use Rattle.index.specs.declared.Step.{Step}
use Rattle.index.specs.declared.Step.TheVariants.{Scan, Settle, Level}
use Rattle.index.specs.declared.Chunk.{Chunk}
use Rattle.index.specs.declared.Job.{Job}
use Rattle.index.specs.declared.Asked.{Asked}
use Rattle.chunks.specs.declared.Span.{Span}
use Rattle.index.specs.Answers.{Check, checked}

-- ---- the chunks of a job

-- "c cuts make c + 1 chunks": 1 to 64 in a job of open, and of any other no more than 64 count
unfoldable pub chunks_of : Job → ℕ
chunks_of j = min j.count 64

-- a chunk that begins at this byte and has had no step
abbrev pub fresh : ℕ → Chunk
fresh cut =
    record {
      cut = cut;
      scanned = false;
      settled = false;
      levelled = false;
      inside = false;
      start = 0;
      kept = record { odd = false; net = pos 0; low = pos 0; high = pos 0 };
    }

abbrev pub chunk_at : Job → ℕ → Chunk
chunk_at j k = get_or j.chunks k (fresh 0)

-- the job with one chunk anew, and in another state
abbrev pub with_chunk : Job → ℕ → Chunk → Job
with_chunk j k c = record { n = j.n; levels = j.levels; count = j.count; state = j.state; chunks = set j.chunks k c }

abbrev pub with_state : Job → State → Job
with_state j s = record { n = j.n; levels = j.levels; count = j.count; state = s; chunks = j.chunks }

-- ---- the words of a chunk, of a record of n bytes: from its own first up to the next chunk's, or all that are left

unfoldable pub first_word : Job → ℕ → ℕ → ℕ
first_word j n k = min ((chunk_at j k).cut / 64) (width_of n)

unfoldable pub is_last : Job → ℕ → Bool
is_last j k = leb (chunks_of j) (k + 1)

unfoldable pub span_of : Job → ℕ → ℕ → Span
span_of j n k = record { from = first_word j n k; to = pick (is_last j k) (width_of n) (first_word j n (k + 1)) }

-- ---- asking: "the number of chunks and which steps a chunk has had, or 10"

unfoldable pub asked : Job → ℕ → Asked
asked j k =
    record {
      chunks = chunks_of j;
      had = pick (ltb k (chunks_of j)) (Some (record { scanned = (chunk_at j k).scanned; settled = (chunk_at j k).settled; levelled = (chunk_at j k).levelled })) None;
    }

-- ---- the conditions of 7 to 12

abbrev pub is_closed : State → Bool
is_closed Open = false
is_closed (Stopped f) = false
is_closed Closed = true

abbrev pub is_stopped : State → Bool
is_stopped Open = false
is_stopped (Stopped f) = true
is_stopped Closed = false

-- the record has n bytes and the buffer w words, as the job's have: within the limits of opening, also for a job that was made up
unfoldable pub same_lengths : Job → ℕ → ℕ → Bool
same_lengths j n w = eqb n j.n && leb n 16777216 && leb j.levels 16 && eqb (size_of j.levels n) w

abbrev pub taken : Step → Chunk → Bool
taken Scan c = c.scanned
taken Settle c = c.settled
taken Level c = c.levelled

-- "the chunk before it, if any, is settled"
abbrev pub settled_before : Job → ℕ → Bool
settled_before j zero = true
settled_before j (suc k) = (chunk_at j k).settled

-- scan at any time; settle "once the chunk is scanned and the chunk before it, if any, is settled"; level "once settled"
abbrev pub ready : Step → Job → ℕ → Bool
ready Scan j k = true
ready Settle j k = (chunk_at j k).scanned && settled_before j k
ready Level j k = (chunk_at j k).settled

-- "A step checks 7 to 12 in that order", at a record of n bytes and w words
unfoldable pub step_checks : Step → Job → ℕ → ℕ → ℕ → List Check
step_checks s j n w k =
    (is_closed j.state, IsClosed)
    ∷ (is_stopped j.state, IsStopped)
    ∷ (not (same_lengths j n w), OtherLength)
    ∷ (leb (chunks_of j) k, NoChunk)
    ∷ (taken s (chunk_at j k), Taken)
    ∷ (not (ready s j k), Early)
    ∷ []

-- Done where no condition holds
unfoldable pub refusal : Step → Job → ℕ → ℕ → ℕ → Answer
refusal s j n w k = checked (step_checks s j n w k) Done
