-- What the clauses of `spread_word` cite: the depth at a place, and the places of a word by their depth.
use Rattle.std.specs.Prelude.{◌≡◌, ℕ, ◌+◌, ◌-◌, ◌≤◌, Bool, ◌==◌, nat_le, slice_index}
use Rattle.rules.specs.Word.{pick, count, word}
use Rattle.blocks.specs.declared.spread.Spread.{Spread}

-- the depth at place x is k, where it starts at s and openers are o, closers c
unfoldable pub deep_at : ℕ → (ℕ → Bool) → (ℕ → Bool) → ℕ → ℕ → Bool
deep_at s o c k x = s + count o x == count c x + k

-- the slot of a depth: each of 1 to 16 has one, and the others share slot 0
unfoldable pub slot_of : ℕ → ℕ → ℕ
slot_of up down = pick (nat_le (up - down) 16) (up - down) 0

-- which places of a word lie at each depth, and the counts behind it
pub record SpreadOf (s : ℕ) (o c : ℕ → Bool) (i : ℕ) (r : Spread) : Type 0 where
  pub slots_are : (k : ℕ) → 1 ≤ k → k ≤ 16 → slice_index r.slots k ≡ word 64 (λ j. deep_at s o c k (i + j))
  pub up_is : r.up ≡ s + count o (i + 64)
  pub down_is : r.down ≡ count c (i + 64)
