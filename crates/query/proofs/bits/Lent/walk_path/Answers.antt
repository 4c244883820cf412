-- The loop keeps where the walk along the path stands: which step is at hand, a step that is refused, and the end.
use mathlib.Core.Path.{◌≡◌, sym, ap, ◌∙◌}
use Rattle.std.proofs.Common.{Option, None, Some, Result, Ok, Err}
use Rattle.std.specs.Result.{result_unwrap_or}
use Rattle.paths.specs.declared.PathStep.{PathStep}
use Rattle.paths.specs.declared.BadPath.{BadPath}
use Rattle.std.proofs.lemmas.Result.{err_from_is_err_and}
use Rattle.rules.proofs.Booleans.{impossible}
use Rattle.paths.specs.Path.{step_at}
use Rattle.paths.specs.Helpers.{told}
use Rattle.query.proofs.Going.{level_name, stop_name, level_number, stop_number, stop_end}
use Rattle.query.proofs.bits.Lent.walk_path.Goals as goal
use Rattle.query.proofs.bits.Lent.walk_path.Goals.{In-Some}

-- a step is told where one is left
step_left : {E : Type 0} (r : Result (Option PathStep) E) {st : PathStep} → result_unwrap_or r None ≡ Some st → r ≡ Ok (Some st)
step_left (Ok o) e = ap Ok e
step_left (Err b) e = impossible (cc)

-- the step that the code holds is the path's
step_told : (c : In-Some) → told (step_at c.args.path.now c.loop-step.at) ≡ Ok (Some c.in-Some.step)
step_told c = sym c.read_step.ensures ∙ step_left c.read_step.result (sym c.unwrap_or.ensures ∙ c.in-Some.is)

pub returns-in_default : goal.returns-in_default
returns-in_default c = λ ss r.
    sym (stop_end c.loop-step.invariant (λ st e. c.in_default.not-Some st (c.unwrap_or.ensures ∙ ap (λ (h : Result (Option PathStep) BadPath). result_unwrap_or h None) (c.read_step.ensures ∙ e))) ss r)

pub name_step-requires-clause-le_k : goal.name_step-requires-clause-le_k
name_step-requires-clause-le_k c = let g = c.loop-step.invariant in
    (g.level, level_name g (rw c.in-Name.is at (step_told (goal.at.name_step-requires-clause-le_k c).In-Some)))

pub number_step-requires-clause-le_k : goal.number_step-requires-clause-le_k
number_step-requires-clause-le_k c = let g = c.loop-step.invariant in
    (g.level, level_number g (rw c.in-Number.is at (step_told (goal.at.number_step-requires-clause-le_k c).In-Some)))

pub returns-in_err-member-in-Name : goal.returns-in_err-member-in-Name
returns-in_err-member-in-Name c = λ ss r.
    let p = err_from_is_err_and c.from_residual.result c.from_residual.ensures.1 in
    let t = rw c.in-Name.is at (step_told (goal.at.returns-in_err-member-in-Name c).In-Some) in
    rw (p.1, p.2) (sym (stop_name c.loop-step.invariant t (sym c.name_step.ensures ∙ c.in_err-member-in-Name.was) ss r))

pub returns-in_err-element-in-Number : goal.returns-in_err-element-in-Number
returns-in_err-element-in-Number c = λ ss r.
    let p = err_from_is_err_and c.from_residual-in_err-element-in-Number.result c.from_residual-in_err-element-in-Number.ensures.1 in
    let t = rw c.in-Number.is at (step_told (goal.at.returns-in_err-element-in-Number c).In-Some) in
    rw (p.1, p.2) (sym (stop_number c.loop-step.invariant t (sym c.number_step.ensures ∙ c.in_err-element-in-Number.was) ss r))
