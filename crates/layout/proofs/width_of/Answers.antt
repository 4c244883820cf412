-- `width_of` meets its contract.
use Rattle.rules.specs.Layout.{width_of}
use mathlib.Core.Path.{refl}
use Rattle.layout.proofs.width_of.Goals as goal

pub returns : goal.returns
unfolding width_of
returns c = refl
