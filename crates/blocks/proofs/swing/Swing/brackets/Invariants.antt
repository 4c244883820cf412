-- `brackets` meets its contract: what was passed so far has swung as the places before `at` do, and the next set bit is the next bracket.
use Rattle.std.proofs.Common.{◌≡◌, ℕ, ◌+◌, Bool}
use lib.Bits.{bit_or}
use Rattle.rules.proofs.BitWalk.{Standing}
use Rattle.blocks.specs.Swinging.{swing, Brackets, Small}
use Rattle.blocks.specs.declared.swing.Swing.{Swing}
use Rattle.blocks.proofs.swing.Swing.brackets.Given as goal

pub record Inv (opens closes : ℕ) (t₀ t : Swing) (at left : ℕ) : Type 0 where
  pub standing : Standing (bit_or opens closes) at left
  pub small : Small (16777216 + at) t
  pub so_far : (o c : ℕ → Bool) (i : ℕ) → Brackets o c i opens closes → t₀ ≡ swing o c i → t ≡ swing o c (i + at)

abbrev pub invariant-loop-place : goal.invariant-loop-place
invariant-loop-place l = Inv l.opens l.closes l.initial.swing l.swing l.place-iterator.at l.place-iterator.left
