-- `joined` meets its contract: nothing is carried over.
use Rattle.std.proofs.Common.{arith}
use Rattle.blocks.specs.Block.{halves}
use Rattle.blocks.proofs.block.joined.Goals as goal

pub overflow_mul-result : goal.overflow_mul-result
unfolding halves
overflow_mul-result c = omega (arith, c.halves-2.ensures)

pub overflow_add-result : goal.overflow_add-result
unfolding halves
overflow_add-result c = omega (arith, c.halves.ensures, c.halves-2.ensures)
