-- `Job::close_answer` meets its contract: each way back by the state and the tests that led there.
use mathlib.Core.Path.{sym, ◌∙◌}
use Rattle.index.proofs.CloseLaws.{closing_closed, stopped_other, stopped_fault, closing_other, closing_early, closing_done}
use Rattle.index.proofs.Job.close_answer.Goals as goal

pub returns-then-not-fits : goal.returns-then-not-fits
returns-then-not-fits c = let a = c.args in
    sym (closing_other a.self.now a.n a.w c.in-Open.is (sym c.fits-in-Open.ensures ∙ c.if-not-fits.true))

pub returns-in-Closed : goal.returns-in-Closed
returns-in-Closed c = let a = c.args in sym (closing_closed a.self.now a.n a.w c.in-Closed.is)

pub returns-then-fits : goal.returns-then-fits
returns-then-fits c = let a = c.args in sym (stopped_fault a.self.now a.n a.w c.in-Stopped.f c.in-Stopped.is (sym c.fits.ensures ∙ c.if-fits.true))

pub returns-else-fits : goal.returns-else-fits
returns-else-fits c = let a = c.args in sym (stopped_other a.self.now a.n a.w c.in-Stopped.f c.in-Stopped.is (sym c.fits.ensures ∙ c.if-fits.false))

pub returns-then-all_levelled : goal.returns-then-all_levelled
returns-then-all_levelled c = let a = c.args in
    sym (closing_done a.self.now a.n a.w c.in-Open.is (sym c.fits-in-Open.ensures ∙ c.if-not-fits.false)
    (sym c.all_levelled.ensures ∙ c.if-all_levelled.true))

pub returns-else-all_levelled : goal.returns-else-all_levelled
returns-else-all_levelled c = let a = c.args in
    sym (closing_early a.self.now a.n a.w c.in-Open.is (sym c.fits-in-Open.ensures ∙ c.if-not-fits.false)
    (sym c.all_levelled.ensures ∙ c.if-all_levelled.false))
