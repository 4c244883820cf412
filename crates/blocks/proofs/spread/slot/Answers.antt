-- `slot` meets its contract.
use Rattle.std.proofs.Common.{le-leb}
use borrow.Author.Tests.{lt-leb}
use Rattle.blocks.specs.Spreading.{slot_of}
use Rattle.blocks.proofs.spread.slot.Goals as goal

pub returns-then-depth-le16-clause-value : goal.returns-then-depth-le16-clause-value
unfolding slot_of
returns-then-depth-le16-clause-value c = rw (← c.saturating_sub-depth.ensures) (rw (le-leb c.saturating_sub-depth.result 16 c.if-depth-le16.true))

pub returns-else-depth-le16-clause-value : goal.returns-else-depth-le16-clause-value
unfolding slot_of
returns-else-depth-le16-clause-value c = rw (← c.saturating_sub-depth.ensures) (rw (lt-leb c.saturating_sub-depth.result 16 c.if-depth-le16.false))
