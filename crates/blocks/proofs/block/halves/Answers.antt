-- `halves` meets its contract: its expression is the definition.
use Rattle.std.proofs.Common.{refl}
use Rattle.blocks.specs.Block.{halves}
use Rattle.blocks.proofs.block.halves.Goals as goal

pub returns : goal.returns
unfolding halves
returns c = refl
