-- `end_fault` meets its contract.
use mathlib.Core.Path.{sym, ◌∙◌}
use native.Mathlib.Omega.{arith}
use Rattle.index.proofs.Signed.{back32}
use Rattle.index.proofs.Differs.{xor_ne}
use Rattle.index.proofs.SettleLaws.{end_string, end_bracket, end_none}
use Rattle.index.proofs.settling.end_fault.Goals as goal

pub returns-then-c : goal.returns-then-c
returns-then-c c = sym (end_string c.args.c c.args.n (sym (xor_ne _ _) ∙ c.if-c.true))

pub returns-then-depth_after-gt0 : goal.returns-then-depth_after-gt0
returns-then-depth_after-gt0 c = let a = c.args in
    sym (end_bracket a.c a.n (sym (xor_ne _ _) ∙ c.if-c.false) (rw (c.depth_after.ensures, back32 a.c.kept.net (omega arith)) at c.if-depth_after-gt0.true))

pub returns : goal.returns
returns c = let a = c.args in
    sym (end_none a.c a.n (sym (xor_ne _ _) ∙ c.if-c.false) (rw (c.depth_after.ensures, back32 a.c.kept.net (omega arith)) at c.if-depth_after-gt0.false))
