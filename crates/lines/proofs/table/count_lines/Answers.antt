-- The loop keeps that all lines are those counted and those from there on.
use mathlib.Core.Path.{sym, ap, ◌∙◌}
use native.Mathlib.Omega.{arith}
use lib.ListN.{length}
use Rattle.lines.proofs.LineLaws.{next_at, next_end}
use Rattle.lines.proofs.table.count_lines.Goals as goal

pub loop-line-preserved : goal.loop-line-preserved
loop-line-preserved c = let l = c.loop-line in
    let found = next_at c.args.text.now l.at _ _ (sym c.next_line.ensures.value ∙ c.in-Some.is) in
    (omega (arith, l.invariant.0, ap length found.listed), omega (arith, l.invariant.1, found.behind, found.some))

pub returns : goal.returns
returns c = let l = c.loop-line in
    omega (arith, l.invariant.0, ap length (next_end c.args.text.now l.at (sym c.next_line.ensures.value ∙ c.in_default.is)))
