-- `announces` meets its contract.
use Rattle.std.proofs.Common.{Bool, ◌||◌, ℤ, pos, ◌+ℤ◌, sym, ap, ◌∙◌, arith}
use Rattle.index.specs.Depth.{below_zero, above64}
use Rattle.index.specs.Settling.{announced}
use Rattle.index.proofs.Signed.{back32}
use Rattle.index.proofs.settling.announces.Goals as goal

pub returns-then-falls : goal.returns-then-falls
unfolding announced
returns-then-falls c = let a = c.args in
    c.if-falls.true ∙ ap (λ (b : Bool). b || above64 (pos a.c.start +ℤ a.c.kept.high)) (sym c.if-falls.true ∙ c.falls.ensures ∙ ap (λ (z : ℤ). below_zero (pos a.c.start +ℤ z)) (back32 a.c.kept.low (omega arith)))

pub returns-else-falls : goal.returns-else-falls
unfolding announced
returns-else-falls c = let a = c.args in
    c.climbs.ensures ∙ ap (λ (z : ℤ). above64 (pos a.c.start +ℤ z)) (back32 a.c.kept.high (omega arith))
    ∙ ap (λ (b : Bool). b || above64 (pos a.c.start +ℤ a.c.kept.high)) (sym c.if-falls.false ∙ c.falls.ensures ∙ ap (λ (z : ℤ). below_zero (pos a.c.start +ℤ z)) (back32 a.c.kept.low (omega arith)))
