-- A word of a bitmap lies among the lent words, which are few.
use Rattle.std.proofs.Common.{ℕ, ◌+◌, ◌*◌, ◌≤◌, ◌<◌, arith}
use native.Mathlib.Nat.{mul-le-mul}
use Rattle.rules.specs.Layout.{address}
use Rattle.rules.proofs.LayoutLaws.{address_lt}
use Rattle.layout.specs.declared.Map.{Map}
use Rattle.layout.specs.declared.Shape.{Shape}
use Rattle.layout.specs.Maps.{mapped, InMap}

module _ (s : Shape) {m : Map} {w : ℕ} (r : InMap s.levels s.width m w) where
  pub map_in : address s.levels s.width (mapped m) w < (2 + 2 * s.levels) * s.width
  map_in = address_lt s.levels s.width (mapped m) w r.has r.inside

  pub map_small : address s.levels s.width (mapped m) w < 8912896
  map_small =
      let few : 2 + 2 * s.levels ≤ 34 = omega (arith, s.few) in
      omega (arith, map_in, mul-le-mul few s.narrow)
