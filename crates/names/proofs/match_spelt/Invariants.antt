-- The loop keeps that the comparison of what is left is the whole comparison.
use mathlib.Core.Path.{◌≡◌}
use lib.ListN.{length}
use Rattle.names.specs.Spelling.{matched}
use Rattle.names.proofs.match_spelt.Given as goal

abbrev pub invariant-loop-rest : goal.invariant-loop-rest
invariant-loop-rest l = matched l.wanted l.name ≡ matched l.left l.rest

abbrev pub decreases-loop-rest : goal.decreases-loop-rest
decreases-loop-rest l = length l.rest
