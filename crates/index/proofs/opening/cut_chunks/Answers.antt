-- `cut_chunks` meets its contract: a turn is a step of the definition.
use Rattle.std.proofs.Common.{add-one, rules}
use Rattle.index.specs.Opening.{blank, cut_up_to}
use Rattle.index.proofs.opening.cut_chunks.Goals as goal

pub loop-i-init : goal.loop-i-init
unfolding blank cut_up_to
loop-i-init c = record { few = search rules; cut = rw c.fresh_chunk-chunks.ensures }

pub loop-i-preserved : goal.loop-i-preserved
unfolding cut_up_to
loop-i-preserved c = record { few = c.loop-i.invariant.few; cut = rw (c.loop-i.invariant.cut, c.fresh_chunk.ensures, add-one) }
