-- `escapes` meets its contract.
use Rattle.std.proofs.Common.{◌≡◌, Bool, true, false, refl}
use mir.Val.{bool_byte}
use Rattle.rules.specs.Word.{digit}
use Rattle.blocks.proofs.EscapeLaw.{escapes_meets}
use Rattle.blocks.proofs.marks.escapes.Goals as goal

byte_digit : (b : Bool) → bool_byte b ≡ digit b
byte_digit true = refl
byte_digit false = refl

pub returns : goal.returns
returns c p e = escapes_meets c.args.carry p e (byte_digit c.args.carry) refl refl
