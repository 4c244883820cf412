-- `woven` meets its contract: nothing is carried over.
use Rattle.std.proofs.Common.{arith}
use Rattle.blocks.specs.Block.{evens}
use Rattle.blocks.proofs.block.woven.Goals as goal

pub overflow_mul-result : goal.overflow_mul-result
unfolding evens
overflow_mul-result c = omega (arith, c.evens-2.ensures)

pub overflow_add-result : goal.overflow_add-result
unfolding evens
overflow_add-result c = omega (arith, c.evens.ensures, c.evens-2.ensures)
