-- The loop keeps where the run ends, and the value so far, which stays where it is too large.
use Prim.Native.Nat.{◌-◌, min}
use mathlib.Core.Path.{◌≡◌}
use Rattle.paths.specs.Path.{is_digit, run_end, decimal}
use Rattle.paths.proofs.read_digits.Given as goal

abbrev pub invariant-loop-i : goal.invariant-loop-i
invariant-loop-i l = (run_end is_digit l.path l.from ≡ run_end is_digit l.path l.i) × (l.value ≡ min (decimal l.path l.from (l.i - l.from)) 16777216)
