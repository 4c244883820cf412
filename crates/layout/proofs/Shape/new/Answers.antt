-- `Shape::new` meets its contract: a record's words are few.
use Rattle.std.proofs.Common.{arith}
use Rattle.rules.specs.Layout.{width_of}
use Rattle.layout.proofs.Shape.new.Goals as goal

pub invariant_of-result : goal.invariant_of-result
unfolding width_of
invariant_of-result c = record { few = omega (arith, c.requires); narrow = omega (arith, c.requires, c.width_of.ensures) }
