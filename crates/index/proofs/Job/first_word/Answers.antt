-- `Job::first_word` meets its contract.
use Rattle.index.specs.Checks.{first_word}
use Rattle.index.proofs.Job.first_word.Goals as goal

pub returns : goal.returns
unfolding first_word
returns c = rw (← c.chunk.ensures, ← c.width_of.ensures) c.min.ensures
