-- The loop keeps how many bits the rest of the word has, and that the place with the number left, from there on, is the one asked for.
use Prim.Native.Nat.{◌+◌, ◌*◌, ◌-◌, ◌≤◌, ◌<◌}
use mathlib.Core.Path.{◌≡◌}
use Rattle.rules.specs.Word.{count}
use Rattle.query.specs.Helpers.{bit_at}
use Rattle.paths.specs.Places.{nth_at}
use Rattle.query.proofs.bits.Lent.nth_bit.Given as goal

abbrev pub invariant-loop-ones : goal.invariant-loop-ones
invariant-loop-ones l = let t = bit_at l.self l.m in
    (l.at < l.e) × (l.w * 64 ≤ l.at) × (l.at ≤ l.w * 64 + 64) × (count t l.at + l.ones ≡ count t (l.w * 64 + 64)) × (nth_at t l.number l.a l.e ≡ nth_at t l.left l.at l.e)

abbrev pub decreases-loop-ones : goal.decreases-loop-ones
decreases-loop-ones l = l.e - l.w
