-- Scan, on all inputs.
use Rattle.std.specs.Prelude.{ℕ, ◌+◌, ◌*◌, ◌-◌, Bool, true, List, length}
use Rattle.rules.specs.Word.{odd, count}
use Rattle.rules.specs.Bits.{quote_bit}
use Rattle.index.specs.declared.Step.TheVariants.{Scan}
use Rattle.index.specs.declared.Kept.{Kept}
use Rattle.index.specs.declared.Chunk.{Chunk}
use Rattle.index.specs.declared.Job.{Job}
use Rattle.index.specs.declared.Handed.{Handed}
use Rattle.chunks.specs.declared.Span.{Span}
use Rattle.index.specs.Answers.{on_done}
use Rattle.index.specs.Checks.{chunk_at, with_chunk, span_of, refusal}
use Rattle.index.specs.Depth.{kept_of}
use Rattle.blocks.specs.Guessing.{guess_bit}
use Rattle.chunks.specs.Sweeping.{swing_by, scan_words}

-- ---- the step

-- "the parity of its quotes"
unfoldable pub odd_in : List ℕ → ℕ → ℕ → Bool
odd_in text from to = odd (count (λ j. quote_bit text (64 * from + j)) (64 * (to - from)))

-- what the chunk keeps under the guess g
unfoldable pub scan_kept : List ℕ → Span → Bool → Kept
scan_kept text s g = kept_of (odd_in text s.from s.to) (swing_by (guess_bit g (64 * s.from) text) text (64 * s.from) (64 * (s.to - s.from)))

unfoldable pub scan_chunk : Job → List ℕ → ℕ → Bool → Chunk
scan_chunk j text k g =
    let c = chunk_at j k in
    record { cut = c.cut; scanned = true; settled = c.settled; levelled = c.levelled; inside = g; start = c.start; kept = scan_kept text (span_of j (length text) k) g }

-- what scan answers and hands back, of a buffer of w words
unfoldable pub scanned : Job → List ℕ → ℕ → ℕ → Bool → Handed
scanned j text w k g =
    let a = refusal Scan j (length text) w k in
    record { answer = a; job = on_done a (with_chunk j k (scan_chunk j text k g)) j }

-- and the words it leaves
unfoldable pub scanned_words : Job → List ℕ → List ℕ → ℕ → Bool → List ℕ
scanned_words j text words k g =
    let s = span_of j (length text) k in
    on_done (refusal Scan j (length text) (length words) k) (scan_words text j.levels s.from s.to g words) words
