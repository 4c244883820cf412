-- Test by test, as the definition.
use mathlib.Core.Path.{sym, ap, ◌∙◌}
use borrow.Author.Tests.{ne_eqb, ltb-true}
use Rattle.paths.proofs.PlaceLaws.{rest_is}
use Rattle.names.specs.Spelling.{unit_of, wide, spelt}
use Rattle.rules.proofs.Booleans.{told_some, told_none}
use Rattle.names.proofs.SpellingLaws.{unit_long}
use Rattle.names.proofs.spelt_at.Goals as goal

pub returns-then-name-ne92 : goal.returns-then-name-ne92
unfolding spelt
returns-then-name-ne92 c = rw (ne_eqb _ _ c.if-name-ne92.true)

pub slice_bounds-wide_of-count : goal.slice_bounds-wide_of-count
slice_bounds-wide_of-count c = unit_long c.args.name.now (ltb-true _ _ (told_some _ _ (sym c.unit_at.ensures ∙ c.in-Some.is)).0)

pub slice_bounds-wide_of-start : goal.slice_bounds-wide_of-start
slice_bounds-wide_of-start c = unit_long c.args.name.now (ltb-true _ _ (told_some _ _ (sym c.unit_at.ensures ∙ c.in-Some.is)).0)

pub returns-in-Some : goal.returns-in-Some
unfolding spelt
returns-in-Some c = let n = c.args.name.now in
    let t = told_some _ _ (sym c.unit_at.ensures ∙ c.in-Some.is) in
    rw (c.if-name-ne92.false, t.0, t.1) (c.wide_of.ensures ∙ ap (λ bs. wide c.in-Some.u (unit_of bs)) (rest_is n 6))

pub returns-in-None : goal.returns-in-None
unfolding spelt
returns-in-None c = rw (c.if-name-ne92.false, told_none _ _ (sym c.unit_at.ensures ∙ c.in-None.is)) c.short_at.ensures
