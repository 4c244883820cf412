-- `seek_words` meets its contract: what is left of the walk is the whole walk, as long as no fault was met.
use mathlib.Core.Path.{◌≡◌}
use mathlib.Core.List.{List}
use Prim.Native.Nat.{ℕ, ◌+◌, ◌*◌, ◌-◌, ◌≤◌}
use lib.ListN.{length}
use Rattle.rules.specs.Bytes.{opens, closes}
use Rattle.rules.specs.Bits.{plain}
use Rattle.rules.specs.Layout.{width_of}
use Rattle.chunks.specs.Flipping.{mask_in}
use Rattle.index.specs.Settling.{seek, seek_in}
use Rattle.index.proofs.settling.seek_words.Given as goal

pub record Inv (text words : List ℕ) (levels from to width start depth w : ℕ) : Type 0 where
  pub low : from ≤ w
  pub wide : width ≡ width_of (length text)
  pub small : depth ≤ start + 64 * (w - from)
  pub so_far : seek_in text words levels from to start ≡ seek (plain (mask_in words levels (length text)) opens text) (plain (mask_in words levels (length text)) closes text) depth (64 * w) (64 * (to - w))

abbrev pub invariant-loop-w : goal.invariant-loop-w
invariant-loop-w l = Inv l.text l.words l.levels l.from l.to l.shape.width l.start l.depth l.w
