-- Depths in naturals: what the signed tests say of a start, openers and closers that were counted apart.
use mathlib.Core.Path.{◌≡◌, refl, sym, ap, ◌∙◌}
use mathlib.Core.Bool.{Bool, true, false}
use Prim.Native.Nat.{ℕ, suc, ◌+◌, ◌-◌, ◌≤◌, ◌<◌}
use native.Mathlib.Nat.{add-zero}
use native.Mathlib.Omega.{arith}
use lib.Dec.{ltb}
use borrow.Author.Tests.{ltb-true, ltb-false, lt-ltb, le-ltb}
use lib.IntN.{pos, negsuc, sub_ℕ, ◌+ℤ◌}
use Rattle.index.specs.Depth.{below_zero, above64, clamp_depth}

sub_pos : (a b : ℕ) → b ≤ a → sub_ℕ a b ≡ pos (a - b)
sub_pos a b h = simp (le-ltb a b h)

sub_neg : (a b : ℕ) → a < b → sub_ℕ a b ≡ negsuc (b - suc a)
sub_neg a b h = simp (lt-ltb a b h)

-- a difference, added to a start
pub start_plus : (s u d : ℕ) → pos s +ℤ sub_ℕ u d ≡ sub_ℕ (s + u) d
start_plus s u d = go (ltb u d) refl (ltb (s + u) d) refl
  where
    go : (t : Bool) → ltb u d ≡ t → (v : Bool) → ltb (s + u) d ≡ v → pos s +ℤ sub_ℕ u d ≡ sub_ℕ (s + u) d
    go true e true f =
        let h = ltb-true u d e in let k = ltb-true (s + u) d f in
        ap (λ z. pos s +ℤ z) (sub_neg u d h) ∙ sub_neg s (suc (d - suc u)) (omega arith) ∙ ap negsuc (omega arith) ∙ sym (sub_neg (s + u) d k)
    go true e false f =
        let h = ltb-true u d e in let k = ltb-false (s + u) d f in
        ap (λ z. pos s +ℤ z) (sub_neg u d h) ∙ sub_pos s (suc (d - suc u)) (omega arith) ∙ ap pos (omega arith) ∙ sym (sub_pos (s + u) d k)
    go false e v f =
        let h = ltb-false u d e in
        ap (λ z. pos s +ℤ z) (sub_pos u d h) ∙ ap pos (omega arith) ∙ sym (sub_pos (s + u) d (omega arith))

below_sub : (a b : ℕ) → below_zero (sub_ℕ a b) ≡ ltb a b
below_sub a b = go (ltb a b) refl
  where
    go : (t : Bool) → ltb a b ≡ t → below_zero (sub_ℕ a b) ≡ t
    go true e = simp e
    go false e = simp e

-- the closers are ahead by d at most: the depth falls below 0 exactly when the start is less
pub falls_is : (s d : ℕ) → below_zero (pos s +ℤ sub_ℕ 0 d) ≡ ltb s d
falls_is s d = ap below_zero (start_plus s 0 d) ∙ below_sub (s + 0) d ∙ ap (λ x. ltb x d) (add-zero s)

-- the openers are ahead by p at most
pub climbs_is : (s p : ℕ) → above64 (pos s +ℤ pos p) ≡ ltb 64 (s + p)
climbs_is s p = refl

-- u openers and d closers later
pub depth_is : (s u d : ℕ) → d ≤ s + u → s + u - d ≤ 64 → clamp_depth (pos s +ℤ sub_ℕ u d) ≡ s + u - d
depth_is s u d h k = ap clamp_depth (start_plus s u d ∙ sub_pos (s + u) d h) ∙ omega arith
