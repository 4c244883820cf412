-- The loop keeps that the next line from there on is the one from `from` on.
use mathlib.Core.Path.{sym, ◌∙◌}
use native.Mathlib.Omega.{arith}
use Rattle.lines.proofs.LineLaws.{next_at, next_none, next_passed, next_here}
use Rattle.lines.proofs.cutting.next_line.Goals as goal

pub returns-then-not-is_blank_line : goal.returns-then-not-is_blank_line
returns-then-not-is_blank_line c = let l = c.loop-at in
    let next = l.invariant ∙ next_here c.args.text.now l.at c.line_end-end.result (omega arith) c.line_end-end.ensures.value (sym c.is_blank_line.ensures ∙ c.if-not-is_blank_line.true) in
    let found = next_at c.args.text.now c.args.from _ _ next in
    record { value = sym next; within = (found.behind, found.some, found.inside) }

pub loop-at-preserved : goal.loop-at-preserved
loop-at-preserved c = let l = c.loop-at in
    l.invariant ∙ next_passed c.args.text.now l.at c.line_end-end.result (omega arith) c.line_end-end.ensures.value (sym c.is_blank_line.ensures ∙ c.if-not-is_blank_line.false)

pub returns-clause-value : goal.returns-clause-value
returns-clause-value c = let l = c.loop-at in sym (l.invariant ∙ next_none c.args.text.now l.at (omega arith))
