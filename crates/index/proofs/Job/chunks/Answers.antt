-- `Job::chunks` meets its contract.
use Rattle.index.specs.Checks.{chunks_of}
use Rattle.index.proofs.Job.chunks.Goals as goal

pub returns : goal.returns
unfolding chunks_of
returns c = c.min.ensures
