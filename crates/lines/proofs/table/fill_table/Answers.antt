-- The loop keeps that what is left to be set from there gives what all gave from the start.
use mathlib.Core.Path.{refl, sym, ap, ◌∙◌}
use native.Mathlib.Omega.{arith}
use lib.ListN.{length, length-set}
use Rattle.lines.proofs.LineLaws.{Listed, next_at, next_end}
use Rattle.lines.proofs.TableLaws.{filling_turn, filling_done}
use Rattle.lines.proofs.table.fill_table.Goals as goal
use Rattle.lines.proofs.table.fill_table.Goals.{In-Some}

-- the line that was found
found : (c : In-Some) → Listed c.args.text.now c.loop-line.at c.in-Some.line.start c.in-Some.line.end
found c = next_at _ _ _ _ (sym c.next_line.ensures.value ∙ c.in-Some.is)

pub loop-line-init : goal.loop-line-init
loop-line-init c = record { same = refl; room = omega arith; long = refl; few = omega arith }

pub offset_bounds-table-i : goal.offset_bounds-table-i
offset_bounds-table-i c = omega (arith, c.loop-line.invariant.few, found c)

pub bounds-table-i : goal.bounds-table-i
bounds-table-i c = omega (arith, c.loop-line.invariant.room, ap length (found c).listed)

pub overflow_add-table : goal.overflow_add-table
overflow_add-table c = omega (arith, c.loop-line.invariant.few, found c)

pub offset_bounds-table-i-in-Some : goal.offset_bounds-table-i-in-Some
offset_bounds-table-i-in-Some c = omega (arith, c.loop-line.invariant.few, found c)

pub bounds-table-i-in-Some : goal.bounds-table-i-in-Some
bounds-table-i-in-Some c = let l = c.loop-line in omega (arith, l.invariant.room, ap length (found c).listed, length-set l.table l.i c.in-Some.line.start)

pub overflow_add-i : goal.overflow_add-i
overflow_add-i c = omega (arith, c.loop-line.invariant.few, found c)

pub loop-line-preserved : goal.loop-line-preserved
loop-line-preserved c = filling_turn _ _ _ _ _ _ _ c.loop-line.invariant (next_at _ _ _ _ (sym c.next_line.ensures.value ∙ c.in-Some.is))

pub returns : goal.returns
returns c = filling_done _ _ _ _ _ c.loop-line.invariant (next_end _ _ (sym c.next_line.ensures.value ∙ c.in_default.is)) (omega arith)
