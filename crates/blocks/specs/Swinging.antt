-- How far brackets move the depth: counted, and the farthest below and above the start.
use Rattle.std.specs.Prelude.{◌≡◌, ℕ, zero, suc, ◌+◌, ◌-◌, ◌≤◌, max, Bool, true, false}
use Rattle.rules.specs.Word.{count, word}
use Rattle.blocks.specs.declared.swing.Swing.{Swing}

-- of the places before i: how far the closers c are ahead of the openers o at most
unfoldable pub dip : (ℕ → Bool) → (ℕ → Bool) → ℕ → ℕ
dip o c zero = 0
dip o c (suc i) = max (dip o c i) (count c (suc i) - count o (suc i))

-- and the openers of the closers
unfoldable pub peak : (ℕ → Bool) → (ℕ → Bool) → ℕ → ℕ
peak o c zero = 0
peak o c (suc i) = max (peak o c i) (count o (suc i) - count c (suc i))

unfoldable pub swing : (ℕ → Bool) → (ℕ → Bool) → ℕ → Swing
swing o c i = record { up = count o i; down = count c i; dip = dip o c i; peak = peak o c i }

-- one bracket more, an opener or a closer
abbrev pub past : Swing → Bool → Swing
past s true = record { up = s.up + 1; down = s.down; dip = s.dip; peak = max s.peak (s.up + 1 - s.down) }
past s false = record { up = s.up; down = s.down + 1; dip = max s.dip (s.down + 1 - s.up); peak = s.peak }

-- no place has both
abbrev pub Apart : (ℕ → Bool) → (ℕ → Bool) → Type 0
Apart o c = (i : ℕ) → o i ≡ true → c i ≡ false

-- the words hold openers and closers from i on
pub record Brackets (o c : ℕ → Bool) (i opens closes : ℕ) : Type 0 where
  pub apart : Apart o c
  pub opens_are : opens ≡ word 64 (λ j. o (i + j))
  pub closes_are : closes ≡ word 64 (λ j. c (i + j))

-- no count is above m
pub record Small (m : ℕ) (s : Swing) : Type 0 where
  pub ups : s.up ≤ m
  pub downs : s.down ≤ m
  pub dips : s.dip ≤ m
  pub peaks : s.peak ≤ m
