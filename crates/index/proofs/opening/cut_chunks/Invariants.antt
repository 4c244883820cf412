-- `cut_chunks` meets its contract: a turn is a step of the definition.
use Rattle.std.proofs.Common.{◌≡◌, ◌≤◌, length}
use Rattle.index.specs.Opening.{cut_up_to}
use Rattle.index.proofs.opening.cut_chunks.Given as goal

abbrev pub invariant-loop-i : goal.invariant-loop-i
invariant-loop-i l = record { few : length l.cuts ≤ 63; cut : l.chunks ≡ cut_up_to l.cuts l.i }
