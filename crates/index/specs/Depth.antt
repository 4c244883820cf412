-- Depths as signed numbers: what a chunk keeps of its brackets, and what it makes of the depth at its border.
use Rattle.std.specs.Prelude.{ℕ, min, Bool, true, false, ltb, ℤ, pos, negsuc}
use Rattle.std.proofs.Math.IntN.{sub_ℕ}
use Rattle.blocks.specs.declared.swing.Swing.{Swing}
use Rattle.index.specs.declared.Kept.{Kept}

-- "the parity of its quotes and its change of depth, which may fall below zero", with the lowest and the highest depth met
unfoldable pub kept_of : Bool → Swing → Kept
kept_of odd s = record { odd = odd; net = sub_ℕ s.up s.down; low = sub_ℕ 0 s.dip; high = pos s.peak }

-- a closer at depth 0 was met: 13
abbrev pub below_zero : ℤ → Bool
below_zero (pos n) = false
below_zero (negsuc n) = true

-- an opener at depth 64 was met: 14
abbrev pub above64 : ℤ → Bool
above64 (pos n) = ltb 64 n
above64 (negsuc n) = false

-- within 0 to 64, as every depth of a sound record is
abbrev pub clamp_depth : ℤ → ℕ
clamp_depth (pos n) = min n 64
clamp_depth (negsuc n) = 0
