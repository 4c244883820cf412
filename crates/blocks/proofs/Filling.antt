-- A list filled from the front, a store a turn.
use Rattle.std.proofs.Common.{◌≡◌, ℕ, ◌+◌, ◌<◌, List, length, get_or, set, sym, ap, ◌∙◌, arith, get_or-set_other, get_or-set_same}
use native.Mathlib.Decide.{ℕ_discrete}
use Rattle.blocks.specs.Coding.{Filled}

pub fill_next : (f : ℕ → ℕ) (b : ℕ) (t : List ℕ) {v : ℕ} → Filled f b t → b < length t → v ≡ f b → Filled f (b + 1) (set t b v)
fill_next f b t {v} h l e k m = go (ℕ_discrete k b)
  where
    go : Dec (k ≡ b) → get_or (set t b v) k 0 ≡ f k
    go (yes q) = ap (λ (x : ℕ). get_or (set t b v) x 0) q ∙ get_or-set_same t b v 0 l ∙ e ∙ ap f (sym q)
    go (no n) = get_or-set_other t b k v 0 n ∙ h k (omega arith)
