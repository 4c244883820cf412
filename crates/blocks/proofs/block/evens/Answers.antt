-- `evens` meets its contract: its expression is the definition.
use Rattle.std.proofs.Common.{refl}
use Rattle.blocks.specs.Block.{evens}
use Rattle.blocks.proofs.block.evens.Goals as goal

pub returns : goal.returns
unfolding evens
returns c = refl
