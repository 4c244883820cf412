-- The loop keeps that the first LF from there on is the one from a on.
use Rattle.std.proofs.Common.{◌≡◌, ◌≤◌, ◌-◌, length}
use Rattle.lines.specs.Lines.{line_end}
use Rattle.lines.proofs.cutting.line_end.Given as goal

abbrev pub invariant-loop-at : goal.invariant-loop-at
invariant-loop-at l = (l.at ≤ length l.text) × (line_end l.text l.a ≡ line_end l.text l.at)

abbrev pub decreases-loop-at : goal.decreases-loop-at
decreases-loop-at l = length l.text - l.at
