-- The loop keeps where the run ends, and the value so far, which stays where it is too large.
use Prim.Native.Nat.{◌-◌}
use mathlib.Core.Path.{◌≡◌, refl, sym, ap, ◌∙◌}
use mathlib.Core.Bool.{not, true}
use lib.ListN.{length, get_or}
use native.Mathlib.Omega.{arith}
use Rattle.paths.specs.Path.{is_digit, decimal}
use Rattle.paths.proofs.PlaceLaws.{first_none, first_here, first_next}
use Rattle.paths.proofs.PathLaws.{digit_is, digit_range, decimal_next}
use Rattle.paths.proofs.read_digits.Goals as goal

pub loop-i-init : goal.loop-i-init
unfolding decimal
loop-i-init c = let z : c.args.from - c.args.from ≡ 0 = omega arith in (refl, rw z)

pub returns-then-not-is_ascii_digit : goal.returns-then-not-is_ascii_digit
returns-then-not-is_ascii_digit c = let i = c.loop-i in
    (sym (i.invariant.0 ∙ first_here _ _ _ (omega arith) (ap not (digit_is _ ∙ sym c.is_ascii_digit.ensures.value ∙ c.if-not-is_ascii_digit.true))), i.invariant.1)

pub loop-i-preserved : goal.loop-i-preserved
loop-i-preserved c = let l = c.loop-i in
    let a = c.args in
    let d : is_digit (get_or a.path.now l.i 0) ≡ true = digit_is _ ∙ sym c.is_ascii_digit.ensures.value ∙ c.if-not-is_ascii_digit.false in
    let n = decimal_next a.path.now a.from l.i (omega arith) in
    (l.invariant.0 ∙ first_next _ _ _ (omega arith) (ap not d), omega (arith, n, digit_range _ d))

pub returns : goal.returns
returns c = let a = c.args in
    let l = c.loop-i in
    let z = first_none (λ k. not (is_digit (get_or a.path.now k 0))) l.i (length a.path.now) (omega arith) in
    let e : l.i ≡ length a.path.now = omega arith in
    (sym (l.invariant.0 ∙ z ∙ e), rw e at l.invariant.1)
