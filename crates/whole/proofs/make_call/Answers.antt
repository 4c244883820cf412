-- By the step: what it hands back and leaves is what the run's call does.
use Rattle.whole.proofs.Turns.{scan_acts, settle_acts, level_acts}
use Rattle.whole.proofs.make_call.Goals as goal

pub returns-in-Scan : goal.returns-in-Scan
returns-in-Scan c = rw c.in-Scan.is (scan_acts _ _ _ c.args.job c.scan.result c.in-Scan.chunk c.in-Scan.inside c.scan.ensures)

pub returns-in-Settle : goal.returns-in-Settle
returns-in-Settle c = rw c.in-Settle.is (settle_acts _ _ _ c.args.job c.settle.result c.in-Settle.chunk c.settle.ensures)

pub returns-in-Level : goal.returns-in-Level
returns-in-Level c = rw c.in-Level.is (level_acts _ _ _ c.args.job c.level.result c.in-Level.chunk c.level.ensures)
