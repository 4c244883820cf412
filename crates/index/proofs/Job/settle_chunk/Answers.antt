-- `settle_chunk` meets its contract.
use Rattle.std.proofs.Common.{ℕ, Bool, true, ap₂, ◌∙◌}
use Rattle.index.specs.declared.Kept.{Kept}
use Rattle.index.specs.declared.Chunk.{Chunk}
use Rattle.index.specs.Settling.{inside_of, start_depth, settle_chunk}
use Rattle.index.proofs.Job.settle_chunk.Goals as goal

pub returns : goal.returns
unfolding settle_chunk
returns c =
    let made : Chunk → Bool → ℕ → Kept → Chunk = λ d i s x. record { cut = d.cut; scanned = d.scanned; settled = true; levelled = d.levelled; inside = i; start = s; kept = x } in
    record {
      value =
          ap₂ (λ (i : Bool) (s : ℕ). made c.chunk.result i s c.settle_kept.result) c.inside_of.ensures c.start_depth.ensures
          ∙ ap₂ (λ (d : Chunk) (x : Kept). made d (inside_of c.args.self c.args.k) (start_depth c.args.self c.args.k) x) c.chunk.ensures c.settle_kept.ensures.value;
      words_after = c.settle_kept.ensures.words_after;
    }
