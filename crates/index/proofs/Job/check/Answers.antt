-- `Job::check` meets its contract: each way back by the tests that led there.
use Rattle.std.proofs.Common.{sym, ◌∙◌}
use Rattle.index.proofs.CheckLaws.{if_closed, if_stopped, if_other, if_none, if_taken, if_early, if_done}
use Rattle.index.proofs.Job.check.Goals as goal

pub returns-in-Closed : goal.returns-in-Closed
returns-in-Closed c = let a = c.args in sym (if_closed a.s a.self.now a.n a.w a.k c.in-Closed.is)

pub returns-in-Stopped : goal.returns-in-Stopped
returns-in-Stopped c = let a = c.args in sym (if_stopped a.s a.self.now a.n a.w a.k c.in-Stopped.field-0 c.in-Stopped.is)

pub returns-then-not-fits : goal.returns-then-not-fits
returns-then-not-fits c = let a = c.args in
    sym (if_other a.s a.self.now a.n a.w a.k c.in-Open.is (sym c.fits.ensures ∙ c.if-not-fits.true))

pub returns-then-chunks-k : goal.returns-then-chunks-k
returns-then-chunks-k c = let a = c.args in
    sym (if_none a.s a.self.now a.n a.w a.k c.in-Open.is (sym c.fits.ensures ∙ c.if-not-fits.false) (rw c.chunks.ensures at c.if-chunks-k.true))

pub returns-then-took : goal.returns-then-took
returns-then-took c = let a = c.args in
    sym (if_taken a.s a.self.now a.n a.w a.k c.in-Open.is (sym c.fits.ensures ∙ c.if-not-fits.false) (rw c.chunks.ensures at c.if-chunks-k.false)
    (rw c.chunk.ensures at (sym c.took.ensures ∙ c.if-took.true)))

pub returns-then-not-is_ready : goal.returns-then-not-is_ready
returns-then-not-is_ready c = let a = c.args in
    sym (if_early a.s a.self.now a.n a.w a.k c.in-Open.is (sym c.fits.ensures ∙ c.if-not-fits.false) (rw c.chunks.ensures at c.if-chunks-k.false)
    (rw c.chunk.ensures at (sym c.took.ensures ∙ c.if-took.false)) (sym c.is_ready.ensures ∙ c.if-not-is_ready.true))

pub returns : goal.returns
returns c = let a = c.args in
    sym (if_done a.s a.self.now a.n a.w a.k c.in-Open.is (sym c.fits.ensures ∙ c.if-not-fits.false) (rw c.chunks.ensures at c.if-chunks-k.false)
    (rw c.chunk.ensures at (sym c.took.ensures ∙ c.if-took.false)) (sym c.is_ready.ensures ∙ c.if-not-is_ready.false))
