-- `Job::level` meets its contract.
use Rattle.std.proofs.Common.{true, sym, ap, ap₂, ◌∙◌}
use Rattle.index.specs.declared.Step.TheVariants.{Level}
use Rattle.index.specs.declared.Chunk.{Chunk}
use Rattle.chunks.specs.declared.Span.{Span}
use Rattle.index.specs.Checks.{with_chunk}
use Rattle.chunks.specs.Levels.{level_words}
use Rattle.index.specs.Levelling.{level_chunk, levelled, levelled_words}
use Rattle.index.proofs.StepLaws.{fitted, lent_chunk, handed, check_refused, check_passed, as_done}
use Rattle.index.proofs.Job.level.Goals as goal

pub returns-in-Err : goal.returns-in-Err
unfolding levelled levelled_words
returns-in-Err c = let no = check_refused c.in-Err.is c.check.ensures in record { hands = rw no c.refused.ensures; leaves = rw no }

pub span-s-requires : goal.span-s-requires
span-s-requires c = (fitted Level _ _ _ c.args.k (check_passed c.in_default.not-Err c.check.ensures)).short

pub level_words-requires : goal.level_words-requires
level_words-requires c = let a = c.args in
    rw c.span-s.ensures (lent_chunk a.self a.text.now a.words.now a.k (fitted Level _ _ _ a.k (check_passed c.in_default.not-Err c.check.ensures)))

pub returns : goal.returns
unfolding levelled levelled_words level_chunk
returns c = let a = c.args in
    let done = check_passed c.in_default.not-Err c.check.ensures in
    let marked : Chunk → Chunk = λ x. record { cut = x.cut; scanned = x.scanned; settled = x.settled; levelled = true; inside = x.inside; start = x.start; kept = x.kept } in
    record {
      hands = ap₂ handed (sym done) (c.with_chunk.ensures ∙ ap (λ (x : Chunk). with_chunk a.self a.k (marked x)) c.chunk-c.ensures ∙ as_done done _ _);
      leaves =
          c.level_words.ensures ∙ ap₂ (λ (s : Span) (x : Chunk). level_words a.text.now a.self.levels s.from s.to x.start a.words.now) c.span-s.ensures c.chunk-c.ensures
          ∙ as_done done _ _;
    }
