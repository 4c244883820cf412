-- `parities` meets its contract: each line doubles the window whose parity a bit holds.
use Rattle.blocks.proofs.Parities.{step, cascade}
use Rattle.blocks.proofs.marks.parities.Goals as goal

pub returns : goal.returns
unfolding step
returns c = cascade c.args.x
