-- `Job::is_last` meets its contract: there is no chunk behind it.
use Rattle.std.proofs.Common.{◌≡◌, ℕ, ◌+◌, ◌<◌, sym, ◌∙◌, arith, le-leb, leb, eqb}
use Rattle.std.proofs.lemmas.Bool.Decides.{nat_tests}
use Rattle.index.specs.Checks.{is_last}
use Rattle.index.proofs.Job.is_last.Goals as goal

last_is : (m k : ℕ) → k < m → eqb m (k + 1) ≡ leb m (k + 1)
last_is m k l = grind (arith, nat_tests)

pub returns-then-chunks-k : goal.returns-then-chunks-k
unfolding is_last
returns-then-chunks-k c = le-leb _ _ c.if-chunks-k.true ∙ sym (le-leb _ _ (omega (arith, c.if-chunks-k.true, c.chunks.ensures)))

pub returns-else-chunks-k : goal.returns-else-chunks-k
unfolding is_last
returns-else-chunks-k c = rw c.chunks-else-chunks-k.ensures (last_is _ _ (omega (arith, c.if-chunks-k.false, c.chunks.ensures)))
