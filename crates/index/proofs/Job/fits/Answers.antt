-- `Job::fits` meets its contract: the tests go as the definition does.
use Rattle.std.proofs.Common.{eq-eqb, ne_eqb, le-leb}
use borrow.Author.Tests.{lt-leb}
use Rattle.index.specs.Checks.{same_lengths}
use Rattle.index.proofs.Job.fits.Goals.{then-n-self-via-then-n-self, then-n-self-via-else-n-self+then-n-gt16777216, then-n-self-via-else-n-self+else-n-gt16777216+then-self-gt16}
use Rattle.index.proofs.Job.fits.Goals as goal

pub returns-then-n-self : goal.returns-then-n-self
unfolding same_lengths
returns-then-n-self c =
    elim c.then-n-self.branch [
      | then-n-self-via-then-n-self w ↦ simp (ne_eqb _ _ w.if-n-self.true)
      | then-n-self-via-else-n-self+then-n-gt16777216 w ↦ simp (eq-eqb _ _ w.if-n-self.false, lt-leb _ _ w.if-n-gt16777216.true)
      | then-n-self-via-else-n-self+else-n-gt16777216+then-self-gt16 w ↦ simp (eq-eqb _ _ w.if-n-self.false, le-leb _ _ w.if-n-gt16777216.false, lt-leb _ _ w.if-self-gt16.true)
    ]

pub returns : goal.returns
unfolding same_lengths
returns c = rw c.size_of.ensures (simp (eq-eqb _ _ c.if-n-self.false, le-leb _ _ c.if-n-gt16777216.false, le-leb _ _ c.if-self-gt16.false))
