-- The loop keeps where the run ends.
use mathlib.Core.Path.{◌≡◌}
use Rattle.paths.specs.Path.{is_tail, run_end}
use Rattle.paths.proofs.name_end.Given as goal

abbrev pub invariant-loop-i : goal.invariant-loop-i
invariant-loop-i l = run_end is_tail l.path l.from ≡ run_end is_tail l.path l.i
