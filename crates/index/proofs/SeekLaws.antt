-- A walk for the first fault, place by place, over a stretch without brackets, and in two parts.
use Rattle.std.specs.Prelude.{Result, Ok, Err}
use mathlib.Core.Path.{◌≡◌, refl, sym, ap, ap₂, ◌∙◌}
use mathlib.Core.Bool.{Bool, true, false, ◌||◌}
use Prim.Native.Nat.{ℕ, zero, suc, ◌+◌, ◌-◌, ◌≤◌, ◌<◌}
use native.Mathlib.Nat.{add-zero, add-suc, zero-add, suc-add}
use native.Mathlib.Omega.{arith}
use borrow.Author.Tests.{eq-eqb, ne_eqb}
use lib.Bits.{bit_or}
use lib.Dec.{eqb}
use Rattle.rules.specs.Word.{pick, bit}
use Rattle.rules.proofs.Booleans.{impossible}
use Rattle.index.specs.declared.Fault.{Fault}
use Rattle.blocks.specs.Swinging.{Brackets}
use Rattle.index.specs.Settling.{limit_of, fault_of_bracket, depth_past, seek}
use Rattle.blocks.proofs.SwingLaws.{none_from, either_bit, opens_bit}

module _ (o c : ℕ → Bool) where
  pub seek_none : (d i m : ℕ) → (o i || c i) ≡ false → seek o c d i (suc m) ≡ seek o c d (suc i) m
  unfolding seek
  seek_none d i m e = rw (e, pick)

  pub seek_fault : (d i m : ℕ) → (o i || c i) ≡ true → d ≡ limit_of (o i) → seek o c d i (suc m) ≡ Err (fault_of_bracket (o i) i)
  unfolding seek
  seek_fault d i m e l = rw (e, eq-eqb d (limit_of (o i)) l)

  pub seek_past : (d i m : ℕ) → (o i || c i) ≡ true → (d ≡ limit_of (o i) → ⊥) → seek o c d i (suc m) ≡ seek o c (depth_past (o i) d) (suc i) m
  unfolding seek
  seek_past d i m e l = rw (e, ne_eqb d (limit_of (o i)) l)

  pub seek_over : (d i n m : ℕ) → ((j : ℕ) → i ≤ j → j < i + n → (o j || c j) ≡ false) → seek o c d i (n + m) ≡ seek o c d (i + n) m
  seek_over d i zero m h = ap₂ (λ (x y : ℕ). seek o c d x y) (sym (add-zero i)) (zero-add m)
  seek_over d i (suc n) m h =
      ap (seek o c d i) (suc-add n m) ∙ seek_none d i (n + m) (h i (omega arith) (omega arith))
      ∙ seek_over d (suc i) n m (λ j a b. h j (omega arith) (omega arith)) ∙ ap (λ (x : ℕ). seek o c d x m) (suc-add i n ∙ sym (add-suc i n))

  -- in two parts
  abbrev then : Result ℕ Fault → (ℕ → Result ℕ Fault) → Result ℕ Fault
  then (Ok d) f = f d
  then (Err f) g = Err f

  then_pick : (a b : Bool) (x y z : Result ℕ Fault) (f : ℕ → Result ℕ Fault) → then (pick a (pick b x y) z) f ≡ pick a (pick b (then x f) (then y f)) (then z f)
  then_pick true true x y z f = refl
  then_pick true false x y z f = refl
  then_pick false b x y z f = refl

  seek_then : (d i m k : ℕ) → seek o c d i (m + k) ≡ then (seek o c d i m) (λ e. seek o c e (i + m) k)
  unfolding seek
  seek_then d i zero k = ap₂ (λ (x y : ℕ). seek o c d x y) (sym (add-zero i)) (zero-add k)
  seek_then d i (suc m) k =
      let rest : (e : ℕ) → seek o c e (suc i) (m + k) ≡ then (seek o c e (suc i) m) (λ e'. seek o c e' (i + suc m) k) =
      λ e. seek_then e (suc i) m k ∙ ap (λ (x : ℕ). then (seek o c e (suc i) m) (λ e'. seek o c e' x k)) (suc-add i m ∙ sym (add-suc i m)) in
      ap (seek o c d i) (suc-add m k)
      ∙ ap₂ (λ (x y : Result ℕ Fault). pick (o i || c i) (pick (eqb d (limit_of (o i))) (Err (fault_of_bracket (o i) i)) x) y) (rest (depth_past (o i) d)) (rest d)
      ∙ sym (then_pick (o i || c i) (eqb d (limit_of (o i))) (Err (fault_of_bracket (o i) i)) (seek o c (depth_past (o i) d) (suc i) m) (seek o c d (suc i) m) (λ e. seek o c e (i + suc m) k))

  pub seek_on : (d i m k : ℕ) {e : ℕ} → seek o c d i m ≡ Ok e → seek o c d i (m + k) ≡ seek o c e (i + m) k
  seek_on d i m k p = seek_then d i m k ∙ ap (λ (x : Result ℕ Fault). then x (λ e. seek o c e (i + m) k)) p

  pub seek_at : (d i m k : ℕ) {f : Fault} → seek o c d i m ≡ Err f → seek o c d i (m + k) ≡ Err f
  seek_at d i m k p = seek_then d i m k ∙ ap (λ (x : Result ℕ Fault). then x (λ e. seek o c e (i + m) k)) p

  -- each place moves the depth by one at most
  pub seek_le : (d i m : ℕ) {e : ℕ} → seek o c d i m ≡ Ok e → e ≤ d + m
  unfolding seek
  seek_le d i zero {e} p = let q : d ≡ e = cc in omega arith
  seek_le d i (suc m) {e} p = go (o i || c i) (eqb d (limit_of (o i))) (seek_le d (suc i) m) (seek_le (depth_past (o i) d) (suc i) m) (past_le (o i)) p
    where
      past_le : (b : Bool) → depth_past b d ≤ d + 1
      past_le true = omega arith
      past_le false = omega arith

      go : (a b : Bool) → (seek o c d (suc i) m ≡ Ok e → e ≤ d + m) → (seek o c (depth_past (o i) d) (suc i) m ≡ Ok e → e ≤ depth_past (o i) d + m) → depth_past (o i) d ≤ d + 1
          → pick a (pick b (Err (fault_of_bracket (o i) i)) (seek o c (depth_past (o i) d) (suc i) m)) (seek o c d (suc i) m) ≡ Ok e → e ≤ d + suc m
      go true true f g h q = impossible (cc)
      go true false f g h q = omega (arith, g q)
      go false b f g h q = omega (arith, f q)

-- ---- the brackets of a word

module _ {o c : ℕ → Bool} {base opens closes : ℕ} (b : Brackets o c base opens closes) (depth d at n : ℕ) (so_far : seek o c depth base 64 ≡ seek o c d (base + at) (64 - at))
    (l : at + n < 64) (set : bit (bit_or opens closes) (at + n) ≡ true) (before : (k : ℕ) → at ≤ k → k < at + n → bit (bit_or opens closes) k ≡ false) where
  here : seek o c depth base 64 ≡ seek o c d (base + (at + n)) (suc (63 - (at + n)))
  here =
      let parts : 64 - at ≡ n + suc (63 - (at + n)) = omega arith in
      so_far ∙ ap (seek o c d (base + at)) parts
      ∙ seek_over o c d (base + at) n (suc (63 - (at + n))) (λ j p q. let z = none_from b at n (omega arith) before j p q in ap₂ ◌||◌ z.0 z.1)
      ∙ ap (λ (x : ℕ). seek o c d x (suc (63 - (at + n)))) (omega arith)

  bracket : (o (base + (at + n)) || c (base + (at + n))) ≡ true
  bracket = sym (either_bit b (at + n) l) ∙ set

  pub word_fault : d ≡ limit_of (bit opens (at + n)) → Err (fault_of_bracket (bit opens (at + n)) (base + (at + n))) ≡ seek o c depth base 64
  word_fault e =
      let same = opens_bit b (at + n) l in
      ap (λ (x : Bool). Err (fault_of_bracket x (base + (at + n)))) same
      ∙ sym (here ∙ seek_fault o c d (base + (at + n)) (63 - (at + n)) bracket (e ∙ ap limit_of same))

  pub word_past : (d ≡ limit_of (bit opens (at + n)) → ⊥) → seek o c depth base 64 ≡ seek o c (depth_past (bit opens (at + n)) d) (base + (at + n + 1)) (64 - (at + n + 1))
  word_past ne =
      let same = opens_bit b (at + n) l in
      here ∙ seek_past o c d (base + (at + n)) (63 - (at + n)) bracket (λ e. ne (e ∙ ap limit_of (sym same)))
      ∙ ap (λ (x : Bool). seek o c (depth_past x d) (suc (base + (at + n))) (63 - (at + n))) (sym same)
      ∙ ap₂ (λ (x y : ℕ). seek o c (depth_past (bit opens (at + n)) d) x y) (omega arith) (omega arith)

pub word_end : {o c : ℕ → Bool} {base opens closes : ℕ} (b : Brackets o c base opens closes) (depth d at : ℕ) → seek o c depth base 64 ≡ seek o c d (base + at) (64 - at) → at ≤ 64
    → ((k : ℕ) → at ≤ k → bit (bit_or opens closes) k ≡ false) → Ok d ≡ seek o c depth base 64
unfolding seek
word_end {o} {c} {base} b depth d at so_far l none =
    sym (
    so_far ∙ ap (seek o c d (base + at)) (sym (add-zero (64 - at)))
    ∙ seek_over o c d (base + at) (64 - at) 0 (λ j p q. let z = none_from b at (64 - at) (omega arith) (λ k x y. none k x) j p q in ap₂ ◌||◌ z.0 z.1)
    )
