-- The byte behind the backslash, if the name has one.
use native.Mathlib.Omega.{arith}
use lib.ListN.{get_or-eq_default}
use Rattle.names.specs.Spelling.{short_of}
use Rattle.names.proofs.short_at.Goals as goal

pub returns-then-name-lt2 : goal.returns-then-name-lt2
unfolding short_of
returns-then-name-lt2 c = rw (get_or-eq_default c.args.name.now 0 {n = 1} (omega arith))
