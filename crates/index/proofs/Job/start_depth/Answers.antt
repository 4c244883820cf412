-- `start_depth` meets its contract.
use Rattle.std.proofs.Common.{ℤ, pos, ◌+ℤ◌, sym, ap, ◌∙◌, arith}
use Rattle.index.specs.declared.Chunk.{Chunk}
use Rattle.index.specs.Depth.{clamp_depth}
use Rattle.index.proofs.Signed.{back32}
use Rattle.index.proofs.SettleLaws.{start_first, start_next}
use Rattle.index.proofs.Job.start_depth.Goals as goal

pub returns-then-k-eq0 : goal.returns-then-k-eq0
returns-then-k-eq0 c = sym (start_first c.args.self.now c.args.k c.if-k-eq0.true)

pub returns : goal.returns
returns c = let a = c.args in
    let d = c.chunk-before.result in
    c.depth_after.ensures ∙ ap (λ (z : ℤ). clamp_depth (pos d.start +ℤ z)) (back32 d.kept.net (omega arith))
    ∙ ap (λ (x : Chunk). clamp_depth (pos x.start +ℤ x.kept.net)) c.chunk-before.ensures ∙ sym (start_next a.self.now a.k c.if-k-eq0.false)
