-- By the three cases of a number: none, `0`, digits.
use mathlib.Core.Path.{◌≡◌, sym, ap, ◌∙◌}
use mathlib.Core.Bool.{true, false}
use native.Mathlib.Omega.{arith}
use lib.ListN.{get_or}
use Rattle.paths.specs.Path.{is_digit}
use Rattle.paths.specs.Helpers.{told}
use Rattle.paths.proofs.PathLaws.{digit_is, digit_behind, number_none, number_zero, number_long, told_large}
use Rattle.paths.proofs.read_number.Goals as goal
use Rattle.paths.proofs.read_number.Goals.{then-path-from-via-then-path-from, then-path-from-via-else-path-from+then-not-is_ascii_digit}

pub returns-then-path-from : goal.returns-then-path-from
unfolding told
returns-then-path-from c = let a = c.args in
    let n : is_digit (get_or a.path.now a.from 0) ≡ false =
    elim c.then-path-from.branch [
      | then-path-from-via-then-path-from w ↦ digit_behind a.path.now a.from w.if-path-from.true
      | then-path-from-via-else-path-from+then-not-is_ascii_digit w ↦ digit_is _ ∙ sym w.is_ascii_digit.ensures.value ∙ w.if-not-is_ascii_digit.true
    ] in
    rw (number_none a.path.now a.from n)

pub returns-then-path-from-eq48 : goal.returns-then-path-from-eq48
returns-then-path-from-eq48 c = let a = c.args in c.close_number.ensures ∙ ap told (sym (number_zero a.path.now a.from c.if-path-from-eq48.true))

pub returns : goal.returns
returns c = let a = c.args in
    let d = c.read_digits-digits in
    let y : is_digit (get_or a.path.now a.from 0) ≡ true = digit_is _ ∙ sym c.is_ascii_digit.ensures.value ∙ c.if-not-is_ascii_digit.false in
    let l = number_long a.path.now a.from (omega arith) y c.if-path-from-eq48.false in
    c.close_number-2.ensures ∙ rw (d.ensures.1, d.ensures.0) (sym (ap told l ∙ told_large a.path.now _ _))
