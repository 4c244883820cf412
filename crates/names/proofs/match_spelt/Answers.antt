-- The loop keeps that the comparison of what is left is the whole comparison.
use Prim.Native.Nat.{ℕ, ◌+◌, ◌-◌, ◌<◌}
use mathlib.Core.Path.{sym, ap, ◌∙◌}
use mathlib.Core.Logic.{◌≢◌}
use mathlib.Core.List.{List}
use native.Mathlib.Omega.{arith}
use borrow.Author.Rules.{rules}
use borrow.Author.Tests.{eqb-true, eqb-false}
use lib.ListN.{length, get_or, take, drop}
use Rattle.paths.proofs.PlaceLaws.{rest_is}
use Rattle.names.specs.Spelling.{spelling, matched}
use Rattle.names.specs.Helpers.{another}
use Rattle.names.proofs.SpellingLaws.{spelt_within, none_left, match_none, match_wrong, match_next, match_other}
use Rattle.names.proofs.match_spelt.Goals as goal
use Rattle.names.proofs.match_spelt.Goals.{then-is_empty-via-then-is_empty, then-is_empty-via-else-is_empty+then-left-here}

pub returns-in_err-here : goal.returns-in_err-here
returns-in_err-here c = let l = c.loop-rest in
    let n = eqb-false (length l.rest.now) 0 (sym c.is_empty.ensures ∙ c.loop-rest-test.true) in
    rw (l.invariant, match_wrong l.left.now l.rest.now (omega arith) (sym c.spelt_at.ensures ∙ c.in_err-here.was)) (search rules)

pub overflow_add-rest : goal.overflow_add-rest
overflow_add-rest c = omega (arith, spelt_within c.loop-rest.rest.now (sym c.is_empty.ensures ∙ c.loop-rest-test.true) (sym c.spelt_at.ensures ∙ c.in_ok-here.was))

pub slice_bounds-rest-count : goal.slice_bounds-rest-count
slice_bounds-rest-count c = omega (arith, spelt_within c.loop-rest.rest.now (sym c.is_empty.ensures ∙ c.loop-rest-test.true) (sym c.spelt_at.ensures ∙ c.in_ok-here.was))

pub slice_bounds-rest-start : goal.slice_bounds-rest-start
slice_bounds-rest-start c = omega (arith, spelt_within c.loop-rest.rest.now (sym c.is_empty.ensures ∙ c.loop-rest-test.true) (sym c.spelt_at.ensures ∙ c.in_ok-here.was))

pub returns-then-is_empty : goal.returns-then-is_empty
returns-then-is_empty c = let l = c.loop-rest in
    let n = eqb-false (length l.rest.now) 0 (sym c.is_empty.ensures ∙ c.loop-rest-test.true) in
    let h : 0 < length l.left.now → c.in_ok-here.here.character ≢ get_or l.left.now 0 0 =
    elim c.then-is_empty.branch [
      | then-is_empty-via-then-is_empty w ↦ let z = eqb-true (length l.left.now) 0 (sym c.is_empty-in-loop-rest.ensures ∙ w.if-is_empty.true) in λ s. absurd (omega arith)
      | then-is_empty-via-else-is_empty+then-left-here w ↦ λ s e. w.if-left-here.true (sym e)
    ] in
    c.read_on.ensures ∙ ap (λ bs. another (spelling bs)) (rest_is l.rest.now _)
    ∙ sym (l.invariant ∙ match_other l.left.now l.rest.now (omega arith) (sym c.spelt_at.ensures ∙ c.in_ok-here.was) h)

pub loop-rest-preserved : goal.loop-rest-preserved
loop-rest-preserved c = let l = c.loop-rest in
    let n = eqb-false (length l.rest.now) 0 (sym c.is_empty.ensures ∙ c.loop-rest-test.true) in
    let more = c.in_ok-here.here.more in
    let m = eqb-false (length l.left.now) 0 (sym c.is_empty-in-loop-rest.ensures ∙ c.if-is_empty.false) in
    l.invariant ∙ match_next l.left.now l.rest.now (omega arith) (sym c.spelt_at.ensures ∙ c.in_ok-here.was) (omega arith) (sym c.if-left-here.false)
    ∙ sym (ap (λ (bs : List ℕ). matched bs (take (length l.rest.now - (1 + more)) (drop (1 + more) l.rest.now))) (rest_is l.left.now 1) ∙ ap (matched (drop 1 l.left.now)) (rest_is l.rest.now (1 + more)))

pub returns : goal.returns
returns c = let l = c.loop-rest in
    let n = none_left l.rest.now (eqb-true _ _ (sym c.is_empty.ensures ∙ c.loop-rest-test.false)) in
    rw c.is_empty-2.ensures (sym (l.invariant ∙ ap (matched l.left.now) n ∙ match_none l.left.now))
