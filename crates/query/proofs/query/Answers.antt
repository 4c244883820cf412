-- A found part lies inside the record.
use mathlib.Core.Path.{sym, ◌∙◌, subst}
use native.Mathlib.Omega.{arith}
use Rattle.std.specs.Prelude.{ℕ, List, ◌≡◌, Ok}
use lib.ListN.{length}
use Rattle.query.specs.Answer.{Answer}
use Rattle.query.specs.Answers.{answer_of}
use Rattle.query.specs.declared.types.Part.{Part}
use Rattle.query.proofs.Inside.{InRecord, answer_in}
use Rattle.query.proofs.query.Goals as goal

-- what is found lies in the record
within : (text words : List ℕ) (levels : ℕ) (path : List ℕ) {told : Answer} {part : Part} → told ≡ answer_of text words levels path → told ≡ Ok part → InRecord (length text) (Ok part)
within text words levels path answered found = subst (InRecord (length text)) (sym answered ∙ found) (answer_in text words levels path)

pub slice_bounds-result-count : goal.slice_bounds-result-count
slice_bounds-result-count c =
    omega (arith, within c.args.text.now c.args.words.now c.args.levels c.args.path.now c.answer-told.ensures c.in-Ok.is)

pub slice_bounds-result-start : goal.slice_bounds-result-start
slice_bounds-result-start c =
    omega (arith, within c.args.text.now c.args.words.now c.args.levels c.args.path.now c.answer-told.ensures c.in-Ok.is)

pub slice_bounds-result-end : goal.slice_bounds-result-end
slice_bounds-result-end c =
    omega (arith, within c.args.text.now c.args.words.now c.args.levels c.args.path.now c.answer-told.ensures c.in-Ok.is)
