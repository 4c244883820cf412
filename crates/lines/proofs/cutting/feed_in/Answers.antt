-- By the bits of the comparison.
use Rattle.std.proofs.Common.{arith}
use Rattle.lines.proofs.FeedLaws.{no_feed, first_feed}
use Rattle.lines.proofs.cutting.feed_in.Goals as goal

pub returns-then-feeds-eq0 : goal.returns-then-feeds-eq0
returns-then-feeds-eq0 c = no_feed c.args.text.now c.args.a 16 (omega arith) (omega arith) c.if-feeds-eq0.true

pub returns-else-feeds-eq0 : goal.returns-else-feeds-eq0
returns-else-feeds-eq0 c = first_feed c.args.text.now c.args.a 16 (omega arith) (omega arith) c.if-feeds-eq0.false
