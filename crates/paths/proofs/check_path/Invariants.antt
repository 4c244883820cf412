-- The loop keeps that the check of the rest, with what was seen before it, is the check of the path.
use Prim.Native.Nat.{◌-◌}
use lib.ListN.{length}
use Rattle.paths.proofs.Checking.{Checking}
use Rattle.paths.proofs.check_path.Given as goal

abbrev pub invariant-loop-step : goal.invariant-loop-step
invariant-loop-step l = Checking l.path l.levels l.at l.big l.steps

abbrev pub decreases-loop-step : goal.decreases-loop-step
decreases-loop-step l = length l.path - l.at
