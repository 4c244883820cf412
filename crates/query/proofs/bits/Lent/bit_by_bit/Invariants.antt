-- The loop keeps that the place with the number left, from there on, is the one asked for.
use Prim.Native.Nat.{◌-◌, ◌≤◌}
use mathlib.Core.Path.{◌≡◌}
use Rattle.paths.specs.Places.{nth_at}
use Rattle.query.specs.Helpers.{bit_at}
use Rattle.query.proofs.bits.Lent.bit_by_bit.Given as goal

abbrev pub invariant-loop : goal.invariant-loop
invariant-loop l = let t = bit_at l.self l.m in
    (l.at ≤ l.e) × (nth_at t l.number l.a l.e ≡ nth_at t (l.number - l.counter) l.at l.e)
