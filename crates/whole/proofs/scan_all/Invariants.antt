-- The loop keeps that the scans that are left give what all of them gave from the start.
use Rattle.std.proofs.Common.{◌≡◌}
use Rattle.runs.specs.Runs.{run}
use Rattle.runs.specs.Whole.{held, scans}
use Rattle.whole.proofs.scan_all.Given as goal

abbrev pub invariant-loop-k : goal.invariant-loop-k
invariant-loop-k l = run l.text (scans l.k) (held l.job l.words) ≡ run l.text (scans l.chunks) (held l.initial.job l.initial.words)
