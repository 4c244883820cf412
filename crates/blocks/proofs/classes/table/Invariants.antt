-- `table` meets its contract: the test of its rows is computed before the first turn, and after i turns i of them are laid.
use Rattle.std.proofs.Common.{◌≡◌, ◌*◌, ◌≤◌, T, length}
use Rattle.blocks.specs.Coding.{Filled}
use Rattle.blocks.proofs.ClassLaws.{tested, class_at}
use Rattle.blocks.proofs.classes.table.Given as goal

abbrev pub invariant-loop-i : goal.invariant-loop-i
invariant-loop-i l = T (tested l.rows) × (l.i ≤ 16) × (length l.t ≡ 256) × Filled (class_at l.rows) (16 * l.i) l.t
