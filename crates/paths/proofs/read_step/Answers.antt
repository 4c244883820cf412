-- Test by test, as the definition.
use native.Mathlib.Omega.{arith}
use borrow.Author.Rules.{rules}
use borrow.Author.Tests.{ne_eqb, lt-ltb, le-ltb}
use lib.ListN.{get_or}
use Rattle.paths.specs.Path.{step_at}
use Rattle.paths.specs.Helpers.{told}
use Rattle.paths.proofs.read_step.Goals as goal

pub returns-then-path-at : goal.returns-then-path-at
unfolding told step_at
returns-then-path-at c = rw (le-ltb _ _ c.if-path-at.true)

pub returns-in_err-read_name-in-46 : goal.returns-in_err-read_name-in-46
unfolding step_at
returns-in_err-read_name-in-46 c = rw (lt-ltb _ _ c.if-path-at.false, c.in-46.is, ← (rw c.in_err-read_name-in-46.was at c.read_name.ensures)) (search rules)

pub returns-in_err-read_number-in-91 : goal.returns-in_err-read_number-in-91
unfolding step_at
returns-in_err-read_number-in-91 c = rw (lt-ltb _ _ c.if-path-at.false, c.in-91.is, ← (rw c.in_err-read_number-in-91.was at c.read_number.ensures)) (search rules)

pub returns-in_ok-read_name-in-46 : goal.returns-in_ok-read_name-in-46
unfolding step_at
returns-in_ok-read_name-in-46 c = rw (lt-ltb _ _ c.if-path-at.false, c.in-46.is) (rw c.in_ok-read_name-in-46.was at c.read_name.ensures)

pub returns-in_ok-read_number-in-91 : goal.returns-in_ok-read_number-in-91
unfolding step_at
returns-in_ok-read_number-in-91 c = rw (lt-ltb _ _ c.if-path-at.false, c.in-91.is) (rw c.in_ok-read_number-in-91.was at c.read_number.ensures)

pub returns-in_default : goal.returns-in_default
unfolding told step_at
returns-in_default c = let b = get_or c.args.path.now c.args.at 0 in rw (lt-ltb _ _ c.if-path-at.false, ne_eqb b 46 (omega arith), ne_eqb b 91 (omega arith))
