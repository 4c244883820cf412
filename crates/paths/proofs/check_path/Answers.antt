-- The loop keeps that the check of the rest, with what was seen before it, is the check of the path.
use Prim.Native.Nat.{◌+◌, ◌<◌}
use mathlib.Core.Path.{◌≡◌, refl, sym, ap, ◌∙◌}
use mathlib.Core.Bool.{false}
use native.Mathlib.Omega.{arith}
use borrow.Author.Rules.{rules}
use borrow.Author.Tests.{lt-ltb, le-ltb, ne_eqb, eqb-true}
use lib.Dec.{eqb}
use lib.ListN.{length, get_or}
use Rattle.std.proofs.Common.{Ok, Some}
use Rattle.paths.specs.Path.{step_at, read_path}
use Rattle.paths.specs.Helpers.{told, path_check}
use Rattle.paths.proofs.PathLaws.{behind}
use Rattle.paths.proofs.Checking.{Checking, checking_start, checking_name, checking_number, checking_end, checking_bad}
use Rattle.paths.proofs.check_path.Goals as goal
use Rattle.paths.proofs.check_path.Goals.{in-Name, in-Number+then-big, in-Number+else-big, then-is_empty-via-then-is_empty, then-is_empty-via-else-is_empty+then-path-ne36}

-- where the arms meet, the check goes on behind the step
after : (c : goal.Joined-step)
    → (c.loop-step.at < c.match-step.at) × Checking c.args.path.now c.args.levels c.match-step.at c.match-step.big (c.loop-step.steps + 1)
after c =
    let i = c.loop-step.invariant in
    let e : told (step_at c.args.path.now c.loop-step.at) ≡ Ok (Some c.in-Some.step) = sym c.read_step.ensures ∙ c.in_ok-step.was ∙ ap Ok c.in-Some.is in
    elim c.match-step.branch [
      | in-Name w ↦ rw (w.at-is, w.big-is) (checking_name i (rw w.in-Name.is at e))
      | in-Number+then-big w ↦ rw (w.at-is, w.big-is, w.if-big.true) (rw w.if-big.true at (checking_number i (rw w.in-Number.is at e)))
      | in-Number+else-big w ↦ rw (w.at-is, w.big-is) (rw w.if-big.false at (checking_number i (rw w.in-Number.is at e)))
    ]

pub returns-then-path-gt1024 : goal.returns-then-path-gt1024
unfolding path_check
returns-then-path-gt1024 c = rw (lt-ltb _ _ c.if-path-gt1024.true)

pub returns-then-is_empty : goal.returns-then-is_empty
unfolding path_check read_path
returns-then-is_empty c = let a = c.args in
    let n : eqb (get_or a.path.now 0 0) 36 ≡ false =
    elim c.then-is_empty.branch [
      | then-is_empty-via-then-is_empty w ↦ behind (λ b. eqb b 36) refl a.path.now 0 (omega (arith, eqb-true _ _ (sym c.is_empty.ensures ∙ w.if-is_empty.true)))
      | then-is_empty-via-else-is_empty+then-path-ne36 w ↦ ne_eqb _ _ w.if-path-ne36.true
    ] in
    rw (le-ltb 1024 (length a.path.now) (omega arith), n)

pub loop-step-init : goal.loop-step-init
loop-step-init c = checking_start _ _ c.if-path-gt1024.false c.if-path-ne36.false

pub returns-in_err-step : goal.returns-in_err-step
returns-in_err-step c = rw (checking_bad c.loop-step.invariant (sym c.read_step.ensures ∙ c.in_err-step.was)) (search rules)

pub loop-step-smaller : goal.loop-step-smaller
loop-step-smaller c = omega (arith, after c)

pub loop-step-preserved : goal.loop-step-preserved
loop-step-preserved c = (after c).1

pub returns : goal.returns
returns c = c.check_limits.ensures ∙ sym (checking_end c.loop-step.invariant (sym c.read_step.ensures ∙ c.in_ok-step.was ∙ ap Ok c.in_default.is))
