-- Two laws of tests, by computing both sides.
use mathlib.Core.Path.{◌≡◌}
use mathlib.Core.Bool.{Bool, true, false, ◌&&◌, ◌||◌}
use Rattle.rules.proofs.Booleans.{bool1}

pub and_false : (t : Bool) → (t && false) ≡ false
and_false = bool1 _ _ tt

pub or_true : (t : Bool) → (t || true) ≡ true
or_true = bool1 _ _ tt
