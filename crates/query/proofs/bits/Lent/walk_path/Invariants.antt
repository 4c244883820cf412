-- The loop keeps where the walk along the path stands.
use Prim.Native.Nat.{◌-◌}
use lib.ListN.{length}
use Rattle.query.proofs.Going.{Going}
use Rattle.query.proofs.bits.Lent.walk_path.Given as goal

abbrev pub invariant-loop-step : goal.invariant-loop-step
invariant-loop-step l = Going l.self.text.now l.self.words.now l.self.shape l.path l.fn.whole.start l.fn.whole.end l.part.start l.part.end l.at l.k

abbrev pub decreases-loop-step : goal.decreases-loop-step
decreases-loop-step l = length l.path - l.at
