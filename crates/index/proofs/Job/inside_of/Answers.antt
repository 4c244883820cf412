-- `inside_of` meets its contract.
use Rattle.std.proofs.Common.{sym, ◌∙◌}
use Rattle.index.proofs.Differs.{xor_ne}
use Rattle.index.proofs.SettleLaws.{inside_first, inside_next}
use Rattle.index.proofs.Job.inside_of.Goals as goal

pub returns-then-k-eq0 : goal.returns-then-k-eq0
returns-then-k-eq0 c = sym (inside_first c.args.self.now c.args.k c.if-k-eq0.true)

pub returns : goal.returns
returns c = rw c.chunk-before.ensures (xor_ne _ _ ∙ sym (inside_next c.args.self.now c.args.k c.if-k-eq0.false))
