-- `Job::open` meets its contract: its answer says what it hands back.
use Rattle.std.proofs.Common.{length}
use Rattle.index.specs.Opening.{opened}
use Rattle.index.proofs.OpenLaws.{openable, open_done}
use Rattle.index.proofs.StepLaws.{check_refused, check_passed}
use Rattle.index.proofs.Job.open.Goals as goal

pub returns-in-Err : goal.returns-in-Err
unfolding opened
returns-in-Err c = let no = check_refused c.in-Err.is c.check_opening.ensures in rw no (rw c.no_job.ensures at c.refused.ensures)

pub cut_chunks-requires : goal.cut_chunks-requires
cut_chunks-requires c = let a = c.args in
    (openable (length a.text.now) (length a.words.now) a.levels a.cuts.now (check_passed c.in_default.not-Err c.check_opening.ensures)).cuts_few

pub returns : goal.returns
returns c = let a = c.args in
    rw c.cut_chunks.ensures (open_done (length a.text.now) (length a.words.now) a.levels a.cuts.now (check_passed c.in_default.not-Err c.check_opening.ensures))
