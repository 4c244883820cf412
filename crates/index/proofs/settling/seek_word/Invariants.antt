-- `seek_word` meets its contract: what is left of the walk is the whole walk, as long as no fault was met.
use mathlib.Core.Path.{◌≡◌}
use mathlib.Core.Bool.{Bool}
use Prim.Native.Nat.{ℕ, ◌+◌, ◌-◌, ◌≤◌}
use lib.Bits.{bit_or}
use Rattle.rules.proofs.BitWalk.{Standing}
use Rattle.blocks.specs.Swinging.{Brackets}
use Rattle.index.specs.Settling.{seek}
use Rattle.index.proofs.settling.seek_word.Given as goal

pub record Inv (opens closes depth base d at left : ℕ) : Type 0 where
  pub standing : Standing (bit_or opens closes) at left
  pub small : d ≤ depth + at
  pub so_far : (o c : ℕ → Bool) → Brackets o c base opens closes → seek o c depth base 64 ≡ seek o c d (base + at) (64 - at)

abbrev pub invariant-loop-place : goal.invariant-loop-place
invariant-loop-place l = Inv l.opens l.closes l.depth l.base l.d l.place-iterator.at l.place-iterator.left
