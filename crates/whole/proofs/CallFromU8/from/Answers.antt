-- The call that the byte tells, by what is left of it.
use Rattle.std.proofs.Common.{◌%◌, eq-eqb, ne_eqb, arith}
use Rattle.whole.specs.Calls.{call_of}
use Rattle.whole.proofs.CallFromU8.from.Goals as goal

pub returns-in-0 : goal.returns-in-0
unfolding call_of
returns-in-0 c = rw (eq-eqb (c.args.byte % 4) 0 c.in-0.is)

pub returns-in-1 : goal.returns-in-1
unfolding call_of
returns-in-1 c = rw (ne_eqb (c.args.byte % 4) 0 (omega (arith, c.in-1.is)), eq-eqb (c.args.byte % 4) 1 c.in-1.is)

pub returns-in-2 : goal.returns-in-2
unfolding call_of
returns-in-2 c = rw (ne_eqb (c.args.byte % 4) 0 (omega (arith, c.in-2.is)), ne_eqb (c.args.byte % 4) 1 (omega (arith, c.in-2.is)), eq-eqb (c.args.byte % 4) 2 c.in-2.is)

pub returns-in_default : goal.returns-in_default
unfolding call_of
returns-in_default c = rw (ne_eqb (c.args.byte % 4) 0 (omega arith), ne_eqb (c.args.byte % 4) 1 (omega arith), ne_eqb (c.args.byte % 4) 2 (omega arith))
