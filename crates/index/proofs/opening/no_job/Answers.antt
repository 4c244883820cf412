-- `no_job` meets its contract.
use Rattle.index.specs.Opening.{blank}
use Rattle.index.proofs.opening.no_job.Goals as goal

pub returns : goal.returns
unfolding blank
returns c = rw c.fresh_chunk.ensures
