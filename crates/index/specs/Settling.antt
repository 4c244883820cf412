-- Settle, on all inputs.
use Rattle.std.specs.Prelude.{Option, Some, None, Result, Ok, Err}
use Rattle.std.specs.Prelude.{ℕ, zero, suc, ◌+◌, ◌*◌, ◌-◌, Bool, true, false, ◌||◌, List, length, pos, ◌+ℤ◌, eqb, ltb}
use Rattle.rules.specs.Word.{pick, xor}
use Rattle.rules.specs.Bytes.{opens, closes}
use Rattle.rules.specs.Bits.{plain}
use Rattle.index.specs.declared.Fault.{Fault}
use Rattle.index.specs.declared.Fault.TheVariants.{Closer, Opener, InString, InBracket}
use Rattle.index.specs.declared.Step.TheVariants.{Settle}
use Rattle.index.specs.declared.State.TheVariants.{Stopped}
use Rattle.index.specs.declared.Answer.{Answer}
use Rattle.index.specs.declared.Answer.TheVariants.{Done, Faulty}
use Rattle.index.specs.declared.Kept.{Kept}
use Rattle.index.specs.declared.Chunk.{Chunk}
use Rattle.index.specs.declared.Job.{Job}
use Rattle.index.specs.declared.Handed.{Handed}
use Rattle.chunks.specs.declared.Span.{Span}
use Rattle.index.specs.Answers.{on_done}
use Rattle.index.specs.Checks.{chunk_at, with_chunk, with_state, span_of, is_last, refusal}
use Rattle.index.specs.Depth.{kept_of, below_zero, above64, clamp_depth}
use Rattle.chunks.specs.Flipping.{mask_in, flip_words, swing_in}

-- the depth at which a bracket is a fault, the fault, and the depth past a bracket that is none
abbrev pub limit_of : Bool → ℕ
limit_of true = 64
limit_of false = 0

abbrev pub fault_of_bracket : Bool → ℕ → Fault
fault_of_bracket true i = Opener i
fault_of_bracket false i = Closer i

abbrev pub depth_past : Bool → ℕ → ℕ
depth_past true d = d + 1
depth_past false d = d - 1

-- walking m places from i on at depth d, openers o and closers c: the first closer at depth 0 or opener at depth 64, or the depth behind
unfoldable pub seek : (ℕ → Bool) → (ℕ → Bool) → ℕ → ℕ → ℕ → Result ℕ Fault
seek o c d i zero = Ok d
seek o c d i (suc m) =
    let past = seek o c (depth_past (o i) d) (suc i) m in
    let on = seek o c d (suc i) m in
    pick (o i || c i) (pick (eqb d (limit_of (o i))) (Err (fault_of_bracket (o i) i)) past) on

-- the same over the words from `from` up to `to`, by the mask as lent
unfoldable pub seek_in : List ℕ → List ℕ → ℕ → ℕ → ℕ → ℕ → Result ℕ Fault
seek_in text words levels from to start =
    seek (plain (mask_in words levels (length text)) opens text) (plain (mask_in words levels (length text)) closes text) start (64 * from) (64 * (to - from))

-- ---- the true state at a chunk's border, from the chunk before it

unfoldable pub inside_of : Job → ℕ → Bool
inside_of j zero = false
inside_of j (suc k) = xor (chunk_at j k).inside (chunk_at j k).kept.odd

unfoldable pub start_depth : Job → ℕ → ℕ
start_depth j zero = 0
start_depth j (suc k) = clamp_depth (pos (chunk_at j k).start +ℤ (chunk_at j k).kept.net)

unfoldable pub guess_wrong : Job → ℕ → Bool
guess_wrong j k = xor (chunk_at j k).inside (inside_of j k)

-- "the chunk's mask words become right"
unfoldable pub settle_words : Job → List ℕ → List ℕ → ℕ → List ℕ
settle_words j text words k =
    let s = span_of j (length text) k in
    pick (guess_wrong j k) (flip_words (length text) j.levels s.from s.to words) words

-- what the chunk keeps: counted anew, by the mask that the words now have, where the guess was wrong
unfoldable pub settle_kept : Job → List ℕ → List ℕ → ℕ → Kept
settle_kept j text words k =
    let s = span_of j (length text) k in
    pick (guess_wrong j k) (kept_of (chunk_at j k).kept.odd (swing_in text words j.levels s.from s.to)) (chunk_at j k).kept

-- "and its starting depth is fixed"
unfoldable pub settle_chunk : Job → List ℕ → List ℕ → ℕ → Chunk
settle_chunk j text words k =
    let c = chunk_at j k in
    record { cut = c.cut; scanned = c.scanned; settled = true; levelled = c.levelled; inside = inside_of j k; start = start_depth j k; kept = settle_kept j text words k }

-- ---- the fault of a settled chunk

abbrev pub of_sought : Result ℕ Fault → Option Fault
of_sought (Ok d) = None
of_sought (Err f) = Some f

-- the kept counts say that there is one: its place is looked for only then
unfoldable pub announced : Chunk → Bool
announced c = below_zero (pos c.start +ℤ c.kept.low) || above64 (pos c.start +ℤ c.kept.high)

unfoldable pub sought_fault : Chunk → List ℕ → List ℕ → ℕ → Span → Option Fault
sought_fault c text words levels s = pick (announced c) (of_sought (seek_in text words levels s.from s.to c.start)) None

-- at the end of the last chunk: a string that is open, then a bracket
unfoldable pub end_fault : Chunk → ℕ → Option Fault
end_fault c n = pick (xor c.inside c.kept.odd) (Some (InString n)) (pick (ltb 0 (clamp_depth (pos c.start +ℤ c.kept.net))) (Some (InBracket n)) None)

abbrev pub or_found : Option Fault → Option Fault → Option Fault
or_found None other = other
or_found (Some f) other = Some f

unfoldable pub chunk_fault : Chunk → List ℕ → List ℕ → ℕ → Span → Bool → Option Fault
chunk_fault c text words levels s last = or_found (sought_fault c text words levels s) (pick last (end_fault c (length text)) None)

-- "If the record has a fault here, the job stops with it"
abbrev pub found_answer : Option Fault → Answer
found_answer None = Done
found_answer (Some f) = Faulty f

abbrev pub found_job : Option Fault → Job → Job
found_job None j = j
found_job (Some f) j = with_state j (Stopped f)

-- ---- the step: `words` are those that it leaves

unfoldable pub found_by : Job → List ℕ → List ℕ → ℕ → Option Fault
found_by j text words k = chunk_fault (settle_chunk j text words k) text words j.levels (span_of j (length text) k) (is_last j k)

unfoldable pub settled : Job → List ℕ → List ℕ → ℕ → Handed
settled j text words k =
    let a = refusal Settle j (length text) (length words) k in
    let after = settle_words j text words k in
    let found = found_by j text after k in
    record { answer = on_done a (found_answer found) a; job = on_done a (found_job found (with_chunk j k (settle_chunk j text after k))) j }

unfoldable pub settled_words : Job → List ℕ → List ℕ → ℕ → List ℕ
settled_words j text words k = on_done (refusal Settle j (length text) (length words) k) (settle_words j text words k) words
