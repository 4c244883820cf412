-- The loop keeps that the rest from where it stands decides.
use mathlib.Core.Path.{sym, ap, ◌∙◌}
use native.Mathlib.Omega.{arith}
use borrow.Author.Rules.{rules}
use borrow.Author.Tests.{eqb-true, eqb-false}
use lib.ListN.{length}
use Rattle.paths.proofs.PlaceLaws.{rest_is}
use Rattle.names.specs.Spelling.{spelling}
use Rattle.names.specs.Helpers.{another}
use Rattle.names.proofs.SpellingLaws.{spelling_none, spelt_within, reads_wrong, reads_on, none_left}
use Rattle.names.proofs.read_on.Goals as goal

pub returns-in_err-here : goal.returns-in_err-here
returns-in_err-here c = let l = c.loop-rest in
    let n = eqb-false (length l.rest.now) 0 (sym c.is_empty.ensures ∙ c.loop-rest-test.true) in
    rw (l.invariant, reads_wrong l.rest.now (omega arith) (sym c.spelt_at.ensures ∙ c.in_err-here.was)) (search rules)

pub overflow_add-rest : goal.overflow_add-rest
overflow_add-rest c = omega (arith, spelt_within c.loop-rest.rest.now (sym c.is_empty.ensures ∙ c.loop-rest-test.true) (sym c.spelt_at.ensures ∙ c.in_ok-here.was))

pub slice_bounds-rest-count : goal.slice_bounds-rest-count
slice_bounds-rest-count c = omega (arith, spelt_within c.loop-rest.rest.now (sym c.is_empty.ensures ∙ c.loop-rest-test.true) (sym c.spelt_at.ensures ∙ c.in_ok-here.was))

pub slice_bounds-rest-start : goal.slice_bounds-rest-start
slice_bounds-rest-start c = omega (arith, spelt_within c.loop-rest.rest.now (sym c.is_empty.ensures ∙ c.loop-rest-test.true) (sym c.spelt_at.ensures ∙ c.in_ok-here.was))

pub loop-rest-preserved : goal.loop-rest-preserved
loop-rest-preserved c = let l = c.loop-rest in
    let n = eqb-false (length l.rest.now) 0 (sym c.is_empty.ensures ∙ c.loop-rest-test.true) in
    l.invariant ∙ reads_on l.rest.now (omega arith) (sym c.spelt_at.ensures ∙ c.in_ok-here.was) ∙ ap (λ bs. another (spelling bs)) (sym (rest_is l.rest.now _))

pub returns : goal.returns
returns c = let l = c.loop-rest in
    let n = none_left l.rest.now (eqb-true _ _ (sym c.is_empty.ensures ∙ c.loop-rest-test.false)) in
    sym (l.invariant ∙ ap (λ bs. another (spelling bs)) n ∙ ap another spelling_none)
