-- `sought_fault` meets its contract: the place is looked for only where the counts announce a fault.
use Rattle.std.proofs.Common.{◌≡◌, ℕ, Result, Ok, Err, refl, sym, ap, ◌∙◌}
use Rattle.std.specs.Result.{result_err}
use Rattle.index.specs.declared.Fault.{Fault}
use Rattle.index.specs.Settling.{of_sought}
use Rattle.index.proofs.SettleLaws.{not_announced, is_announced}
use Rattle.index.proofs.settling.sought_fault.Goals as goal

err_is : (x : Result ℕ Fault) → result_err x ≡ of_sought x
err_is (Ok d) = refl
err_is (Err f) = refl

pub returns-then-not-announces : goal.returns-then-not-announces
returns-then-not-announces c = let a = c.args in
    sym (not_announced a.c a.text.now a.words.now a.levels a.s (sym c.announces.ensures ∙ c.if-not-announces.true))

pub returns : goal.returns
returns c = let a = c.args in
    c.err.ensures.value ∙ err_is c.seek_words.result ∙ ap of_sought c.seek_words.ensures ∙ sym (is_announced a.c a.text.now a.words.now a.levels a.s (sym c.announces.ensures ∙ c.if-not-announces.false))
