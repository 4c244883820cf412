-- `size_of` meets its contract: the sizes are small, so the product fits.
use mathlib.Core.Path.{ap}
use Prim.Native.Nat.{ℕ, ◌+◌, ◌*◌, ◌≤◌}
use native.Mathlib.Nat.{mul-le-mul_right}
use native.Mathlib.Omega.{arith}
use Rattle.rules.specs.Layout.{width_of, size_of}
use Rattle.layout.proofs.size_of.Goals as goal

pub overflow_mul-result-2 : goal.overflow_mul-result-2
unfolding width_of
overflow_mul-result-2 c = let a = c.args in
    let w = c.width_of.result in
    let few : (2 + 2 * a.levels) * w ≤ 34 * w = mul-le-mul_right w (omega (arith, c.requires)) in
    record { fits = omega (arith, few, c.width_of.ensures, c.requires) }

pub returns : goal.returns
unfolding size_of
returns c = ap (λ (w : ℕ). (2 + 2 * c.args.levels) * w) c.width_of.ensures
