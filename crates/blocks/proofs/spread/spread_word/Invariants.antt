-- `spread_word` meets its contract: the places before `at` are in their slots, and the counts are those at `at`.
use Rattle.std.proofs.Common.{◌≡◌, ℕ, ◌+◌, ◌≤◌, Bool, ltb, List, length}
use lib.Bits.{bit_or}
use Rattle.rules.specs.Word.{count, word}
use Rattle.rules.proofs.BitWalk.{Standing}
use Rattle.blocks.specs.Swinging.{Brackets}
use Rattle.blocks.proofs.SpreadLaws.{Slots}
use Rattle.blocks.proofs.spread.spread_word.Given as goal

pub record Inv (opens closes up down : ℕ) (slots : List ℕ) (u d done at left : ℕ) : Type 0 where
  pub standing : Standing (bit_or opens closes) at left
  pub few : length slots ≡ 17
  pub done_is : done ≡ word 64 (λ j. ltb j at)
  pub ups : u ≤ up + at
  pub downs : d ≤ down + at
  pub so_far : (o c : ℕ → Bool) (i s : ℕ) → Brackets o c i opens closes → up ≡ s + count o i → down ≡ count c i → (u ≡ s + count o (i + at)) × (d ≡ count c (i + at)) × Slots s o c i at slots

abbrev pub invariant-loop-place : goal.invariant-loop-place
invariant-loop-place l = Inv l.opens l.closes l.initial.up l.initial.down l.slots l.up l.down l.done l.place-iterator.at l.place-iterator.left
