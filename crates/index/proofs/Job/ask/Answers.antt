-- `Job::ask` meets its contract.
use Rattle.std.proofs.Common.{◌≡◌, Bool, true, false, Some, None, refl}
use Rattle.std.specs.Bool.{then_some}
use Rattle.rules.specs.Word.{pick}
use Rattle.index.specs.declared.Steps.{Steps}
use Rattle.index.specs.Checks.{asked}
use Rattle.index.proofs.Job.ask.Goals as goal

some_or_none : (b : Bool) (s : Steps) → then_some b s ≡ pick b (Some s) None
some_or_none true s = refl
some_or_none false s = refl

pub returns : goal.returns
unfolding asked
returns c = rw (c.then_some.ensures, c.chunks-chunks.ensures, c.chunk-c.ensures) (rw some_or_none)
