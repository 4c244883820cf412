-- Level, on all inputs.
use Rattle.std.specs.Prelude.{ℕ, true, List, length}
use Rattle.chunks.specs.Levels.{level_words}
use Rattle.index.specs.declared.Step.TheVariants.{Level}
use Rattle.index.specs.declared.Chunk.{Chunk}
use Rattle.index.specs.declared.Job.{Job}
use Rattle.index.specs.declared.Handed.{Handed}
use Rattle.index.specs.Answers.{on_done}
use Rattle.index.specs.Checks.{chunk_at, with_chunk, span_of, refusal}

-- ---- the step

unfoldable pub level_chunk : Job → ℕ → Chunk
level_chunk j k =
    let c = chunk_at j k in
    record { cut = c.cut; scanned = c.scanned; settled = c.settled; levelled = true; inside = c.inside; start = c.start; kept = c.kept }

-- of a record of n bytes and w words
unfoldable pub levelled : Job → ℕ → ℕ → ℕ → Handed
levelled j n w k =
    let a = refusal Level j n w k in
    record { answer = a; job = on_done a (with_chunk j k (level_chunk j k)) j }

unfoldable pub levelled_words : Job → List ℕ → List ℕ → ℕ → List ℕ
levelled_words j text words k =
    let s = span_of j (length text) k in
    on_done (refusal Level j (length text) (length words) k) (level_words text j.levels s.from s.to (chunk_at j k).start words) words
