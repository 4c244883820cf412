-- `check_opening` meets its contract: each way back by the tests that led there.
use Rattle.std.proofs.Common.{ℕ, sym, ap, ◌∙◌, ltb-true, ltb-false}
use Rattle.rules.proofs.Booleans.{told_some, told_none}
use Rattle.index.specs.declared.Answer.TheVariants.{Refused}
use Rattle.index.specs.declared.Refusal.TheVariants.{BadCut}
use Rattle.index.specs.Opening.{first_bad}
use Rattle.index.proofs.OpenLaws.{if_empty, if_long, if_level_0, if_levels, if_buffer, if_many, if_bad, if_opened}
use Rattle.index.proofs.opening.check_opening.Goals.{then-levels-eq0-via-then-levels-eq0, then-levels-eq0-via-else-levels-eq0+then-levels-gt16}
use Rattle.index.proofs.opening.check_opening.Goals as goal

pub returns-then-n-eq0 : goal.returns-then-n-eq0
returns-then-n-eq0 c = let a = c.args in
    sym (if_empty a.n a.w a.levels a.cuts.now c.if-n-eq0.true)

pub returns-then-n-gt16777216 : goal.returns-then-n-gt16777216
returns-then-n-gt16777216 c = let a = c.args in
    sym (if_long a.n a.w a.levels a.cuts.now c.if-n-eq0.false c.if-n-gt16777216.true)

pub returns-then-levels-eq0 : goal.returns-then-levels-eq0
returns-then-levels-eq0 c = let a = c.args in
    elim c.then-levels-eq0.branch [
      | then-levels-eq0-via-then-levels-eq0 w ↦ sym (if_level_0 a.n a.w a.levels a.cuts.now c.if-n-eq0.false c.if-n-gt16777216.false w.if-levels-eq0.true)
      | then-levels-eq0-via-else-levels-eq0+then-levels-gt16 w ↦ sym (if_levels a.n a.w a.levels a.cuts.now c.if-n-eq0.false c.if-n-gt16777216.false w.if-levels-eq0.false w.if-levels-gt16.true)
    ]

pub returns-then-w-size_of : goal.returns-then-w-size_of
returns-then-w-size_of c = let a = c.args in
    sym (if_buffer a.n a.w a.levels a.cuts.now c.if-n-eq0.false c.if-n-gt16777216.false c.if-levels-eq0.false c.if-levels-gt16.false (rw c.size_of.ensures at c.if-w-size_of.true))

pub returns-then-cuts-gt63 : goal.returns-then-cuts-gt63
returns-then-cuts-gt63 c = let a = c.args in
    sym (if_many a.n a.w a.levels a.cuts.now c.if-n-eq0.false c.if-n-gt16777216.false c.if-levels-eq0.false c.if-levels-gt16.false (rw c.size_of.ensures at c.if-w-size_of.false) c.if-cuts-gt63.true)

pub returns-in-Some : goal.returns-in-Some
returns-in-Some c = let a = c.args in
    let is = told_some _ (first_bad a.n a.cuts.now) (sym c.first_bad.ensures ∙ c.in-Some.is) in
    sym (if_bad a.n a.w a.levels a.cuts.now c.if-n-eq0.false c.if-n-gt16777216.false c.if-levels-eq0.false c.if-levels-gt16.false (rw c.size_of.ensures at c.if-w-size_of.false) c.if-cuts-gt63.false (ltb-true _ _ is.0) ∙ ap (λ (i : ℕ). Refused (BadCut i)) is.1)

pub returns-in-None : goal.returns-in-None
returns-in-None c = let a = c.args in
    let no = told_none _ (first_bad a.n a.cuts.now) (sym c.first_bad.ensures ∙ c.in-None.is) in
    sym (if_opened a.n a.w a.levels a.cuts.now c.if-n-eq0.false c.if-n-gt16777216.false c.if-levels-eq0.false c.if-levels-gt16.false (rw c.size_of.ensures at c.if-w-size_of.false) c.if-cuts-gt63.false (ltb-false _ _ no))
