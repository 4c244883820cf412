-- The loop keeps that the rest from where it stands decides.
use mathlib.Core.Path.{◌≡◌}
use lib.ListN.{length}
use Rattle.names.specs.Spelling.{spelling}
use Rattle.names.specs.Helpers.{another}
use Rattle.names.proofs.read_on.Given as goal

abbrev pub invariant-loop-rest : goal.invariant-loop-rest
invariant-loop-rest l = another (spelling l.name) ≡ another (spelling l.rest)

abbrev pub decreases-loop-rest : goal.decreases-loop-rest
decreases-loop-rest l = length l.rest
