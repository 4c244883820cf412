-- The code's `!=` of two truths is the one of the two and not both.
use Rattle.std.proofs.Common.{◌≡◌, Bool, not}
use mathlib.Core.Bool.{beq}
use Rattle.rules.specs.Word.{xor}
use Rattle.rules.proofs.Booleans.{bool2}

pub xor_ne : (a b : Bool) → not (beq a b) ≡ xor a b
xor_ne = bool2 _ _ tt
