-- The mask as lent: its words read as bits, the class words of a block by it, and a word of it turned over.
use mathlib.Core.Path.{◌≡◌, sym, ap, ap₂, ◌∙◌}
use mathlib.Core.Bool.{Bool}
use mathlib.Core.List.{List}
use Prim.Native.Nat.{ℕ, ◌+◌, ◌*◌, ◌-◌, ◌/◌, ◌%◌, ◌^◌, ◌≤◌, ◌<◌}
use native.Mathlib.Omega.{arith}
use lib.Dec.{ltb}
use lib.Bits.{bit_xor}
use Rattle.rules.specs.Word.{xor, word, word_at, bit}
use Rattle.rules.specs.Layout.{Bitmap, mask, width_of, Has, cell, bit_in}
use Rattle.rules.proofs.LayoutLaws.{Cells}
use Rattle.rules.proofs.WordLaws.{word_bits, word_ext, xor_word, bit_at}
use Rattle.chunks.specs.Flipping.{mask_in, turned}
use Rattle.blocks.proofs.MarkLaws.{ltb_shift}

-- a word of lent words is the word of its bits
pub cell_word : (words : List ℕ) (levels width : ℕ) (b : Bitmap) (w : ℕ) {v : ℕ} → v ≡ cell words levels width b w → v < 2 ^ 64 → v ≡ word_at (bit_in words levels width b) w
unfolding bit_in word_at
cell_word words levels width b w {v} e h =
    sym (word_bits 64 v h)
    ∙ word_ext 64 (bit v) _ (λ j l. ap₂ bit (e ∙ ap (cell words levels width b) (omega arith)) (omega arith))

module _ (words : List ℕ) (levels n w : ℕ) {width v : ℕ} (wide : width ≡ width_of n) (e : v ≡ cell words levels width mask w) (h : v < 2 ^ 64) where
  pub mask_word_of : v ≡ word_at (mask_in words levels n) w
  mask_word_of = cell_word words levels (width_of n) mask w (e ∙ ap (λ (x : ℕ). cell words levels x mask w) wide) h

  pub turned_word : {alive : ℕ} → 64 * w ≤ n → alive ≡ word 64 (λ b. ltb b (n - 64 * w)) → bit_xor v alive ≡ word_at (turned words levels n) w
  unfolding word_at turned
  turned_word l ea =
      ap₂ bit_xor mask_word_of ea ∙ xor_word 64 _ _
      ∙ word_ext 64 _ _ (λ b k. ap (xor (mask_in words levels n (64 * w + b))) (ltb_shift b (64 * w) n l))

-- a bit of words that hold g, where g's word is a bitmap's
pub held_bit : (levels width : ℕ) {words : List ℕ} {g : Bitmap → ℕ → ℕ} (b : Bitmap) (p : ℕ → Bool) (i : ℕ) → Cells levels width words g → Has levels b → i / 64 < width → g b (i / 64) ≡ word_at p (i / 64)
    → bit_in words levels width b i ≡ p i
unfolding bit_in
held_bit levels width b p i c h l e = ap (λ (v : ℕ). bit v (i % 64)) (c.holds b h (i / 64) l ∙ e) ∙ bit_at p i
