-- The loop keeps that no bit is set from behind word w up to the word where it stands.
use Prim.Native.Nat.{ℕ, ◌+◌, ◌*◌, ◌≤◌, ◌<◌}
use mathlib.Core.Path.{◌≡◌}
use mathlib.Core.Bool.{false}
use Rattle.query.specs.Helpers.{bit_at}
use Rattle.query.proofs.bits.Lent.bit_behind.Given as goal

abbrev pub invariant-loop-v : goal.invariant-loop-v
invariant-loop-v l = (k : ℕ) → l.w * 64 + 64 ≤ k → k < l.v * 64 → bit_at l.self l.m k ≡ false
