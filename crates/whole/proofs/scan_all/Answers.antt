-- The loop keeps that the scans that are left give what all of them gave from the start.
use Rattle.std.proofs.Common.{sym, ◌∙◌, arith}
use Rattle.whole.proofs.Turns.{scan_turn, scans_done}
use Rattle.whole.proofs.scan_all.Goals as goal

pub loop-k-preserved : goal.loop-k-preserved
loop-k-preserved c = scan_turn _ _ _ c.loop-k.job c.scan.result c.loop-k.k c.loop-k-test.true c.scan.ensures ∙ c.loop-k.invariant

pub returns : goal.returns
returns c = sym (scans_done _ _ _ c.loop-k.k (omega arith)) ∙ c.loop-k.invariant
