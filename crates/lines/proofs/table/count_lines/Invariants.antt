-- The loop keeps that all lines are those counted and those from there on.
use Prim.Native.Nat.{◌+◌, ◌-◌, ◌≤◌}
use mathlib.Core.Path.{◌≡◌}
use lib.ListN.{length}
use Rattle.lines.specs.Lines.{lines, lines_from}
use Rattle.lines.proofs.table.count_lines.Given as goal

abbrev pub invariant-loop-line : goal.invariant-loop-line
invariant-loop-line l = (length (lines l.text) ≡ l.count + length (lines_from l.text l.at)) × (l.count ≤ l.at)

abbrev pub decreases-loop-line : goal.decreases-loop-line
decreases-loop-line l = length l.text - l.at
