-- `lanes` meets its contract: after j turns the sum is the lanes of j codes.
use Rattle.std.proofs.Common.{refl}
use Rattle.rules.specs.Word.{word}
use Rattle.blocks.specs.Coding.{beside}
use Rattle.blocks.specs.Block.{lanes_of}
use Rattle.blocks.proofs.Lanes.{lanes_sum}
use Rattle.blocks.proofs.block.lanes.Goals as goal

pub loop-j-init : goal.loop-j-init
unfolding lanes_of beside word
loop-j-init c = λ k e. refl

pub loop-j-preserved : goal.loop-j-preserved
loop-j-preserved c = λ k e. lanes_sum k c.loop-j.j c.loop-j-test.true (c.loop-j.invariant k e) (e c.loop-j.j c.loop-j-test.true)
