-- Both loops keep where the walk over the items stands.
use Prim.Native.Nat.{◌-◌}
use Rattle.layout.specs.declared.Map.TheVariants.{Commas}
use Rattle.paths.specs.Places.{byte_in}
use Rattle.names.specs.Spelling.{matched}
use Rattle.query.specs.Helpers.{bit_at, bits_of}
use Rattle.query.specs.Items.{item_at}
use Rattle.query.proofs.Walking.{Walking}
use Rattle.query.proofs.bits.Lent.find_name.Given as goal

abbrev pub invariant-loop-x : goal.invariant-loop-x
invariant-loop-x l = Walking (item_at (byte_in l.self.text.now) (bits_of l.self) l.k (matched l.name)) (bit_at l.self (Commas l.k)) l.lo l.hi l.start l.at l.w l.x

abbrev pub decreases-loop-x : goal.decreases-loop-x
decreases-loop-x l = l.hi - l.at

abbrev pub invariant-walk : goal.invariant-walk
invariant-walk l = Walking (item_at (byte_in l.self.text.now) (bits_of l.self) l.k (matched l.name)) (bit_at l.self (Commas l.k)) l.lo l.hi l.start l.at l.w l.x

abbrev pub decreases-walk : goal.decreases-walk
decreases-walk l = l.hi - l.w
