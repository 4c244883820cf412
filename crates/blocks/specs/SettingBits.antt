-- What the ghost members of `SetBits` cite: the set bits of a word, from the lowest to the highest.
use Rattle.std.specs.Prelude.{◌≡◌, ℕ, ◌+◌, ◌-◌, ◌/◌, ◌^◌, Some, None, Option}
use Rattle.std.specs.Iterator.{Count, at_most}
use lib.Count.{count_trailing_zeros}
use Rattle.blocks.specs.declared.bits.SetBits.{SetBits}

-- the next set bit is told, and what is left is shifted past it; or nothing is left
abbrev pub StepsBit : SetBits → Option ℕ → SetBits → Type 0
StepsBit s None t = (s.left ≡ 0) × (t.left ≡ 0)
StepsBit s (Some p) t =
    (s.left ≡ 0 → ⊥) × (p ≡ s.at + count_trailing_zeros 64 s.left) × (t.at ≡ p + 1) × (t.left ≡ s.left / 2 ^ count_trailing_zeros 64 s.left / 2 ^ 1)

-- no more than the places that are left
abbrev pub bits_left : SetBits → Count
bits_left s = at_most (64 - s.at)
