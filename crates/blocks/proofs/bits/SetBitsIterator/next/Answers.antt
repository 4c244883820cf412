-- `SetBits` keeps its invariant: what is left of the word from a place on, moved back there, is no larger than the word.
use Rattle.std.proofs.Common.{◌≡◌, ℕ, ◌+◌, ◌*◌, ◌/◌, ◌^◌, ◌<◌, ◌≤◌, sym, arith, pow_pos}
use native.Mathlib.Nat.{mul-div_cancel, div-mul-le_self}
use lib.Count.{count_trailing_zeros}
use Rattle.rules.proofs.BitWalk.{Standing, standing_low, standing_next}
use Rattle.blocks.proofs.bits.SetBitsIterator.next.Goals as goal

module _ (left at : ℕ) (within : at ≤ 64) (fits : left * 2 ^ at < 2 ^ 64) (some : left ≡ 0 → ⊥) where
  stands : Standing (left * 2 ^ at) at left
  stands = record { within = within; rest = sym (mul-div_cancel left (pow_pos at)); fits = fits }

  next_within : at + count_trailing_zeros 64 left + 1 ≤ 64
  next_within = omega (arith, (standing_low stands some).0)

  next_fits : left / 2 ^ count_trailing_zeros 64 left / 2 ^ 1 * 2 ^ (at + count_trailing_zeros 64 left + 1) < 2 ^ 64
  next_fits =
      let n = count_trailing_zeros 64 left in
      let next = standing_next stands n (standing_low stands some).0 in
      rw next.rest (omega (arith, div-mul-le_self (left * 2 ^ at) (2 ^ (at + n + 1)), fits))

pub invariant_of-self : goal.invariant_of-self
invariant_of-self c = let s = c.args.self.now in
    record { within = next_within s.left s.at s.within s.fits c.if-self-eq0.false; fits = next_fits s.left s.at s.within s.fits c.if-self-eq0.false }
