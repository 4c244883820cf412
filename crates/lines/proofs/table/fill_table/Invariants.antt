-- The loop keeps that what is left to be set from there gives what all gave from the start.
use Prim.Native.Nat.{◌-◌}
use lib.ListN.{length}
use Rattle.lines.proofs.TableLaws.{Filling}
use Rattle.lines.proofs.table.fill_table.Given as goal

abbrev pub invariant-loop-line : goal.invariant-loop-line
invariant-loop-line l = Filling l.text l.initial.table l.table l.i l.at

abbrev pub decreases-loop-line : goal.decreases-loop-line
decreases-loop-line l = length l.text - l.at
