-- By the last byte of the part that is not blank.
use mathlib.Core.Bool.{not}
use native.Mathlib.Omega.{arith}
use Rattle.std.proofs.Common.{rules}
use Rattle.query.specs.Items.{is_blank}
use Rattle.query.proofs.Parts.{last_in_part, none_last}
use Rattle.query.proofs.blanks.drop_blanks.Goals as goal

pub returns-in-Some : goal.returns-in-Some
returns-in-Some c = let a = c.args in
    last_in_part a.text.now a.a a.e (λ b. not (is_blank b)) c.in-Some.n (search rules) (search rules) (search rules)

pub returns-in-None : goal.returns-in-None
returns-in-None c = let a = c.args in
    none_last a.text.now a.a a.e (λ b. not (is_blank b)) (omega arith) (search rules)
