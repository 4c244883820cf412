-- What is left of a word of a bitmap, from a place on: its bits are the bitmap's, its lowest set bit is the next place, its count is the rest's.
-- By the bits of a shifted word.
use Prim.Native.Nat.{ℕ, zero, suc, ◌+◌, ◌-◌, ◌*◌, ◌/◌, ◌%◌, ◌^◌, ◌≤◌, ◌<◌, min}
use mathlib.Core.Path.{◌≡◌, refl, sym, ap, ◌∙◌}
use mathlib.Core.Bool.{Bool, true, false, true≢false}
use mathlib.Core.List.{List}
use native.Mathlib.Omega.{arith}
use native.Mathlib.Decide.{dec_lt}
use native.Mathlib.Nat.{zero-div, div-le_self, lt_of_le_of_lt, lt_of_not-le}
use lib.Pow.{shr_le}
use lib.Count.{ones, count_trailing_zeros}
use Rattle.rules.specs.Word.{digit, count, bit}
use Rattle.rules.specs.Layout.{Bitmap, cell, bit_in}
use Rattle.rules.proofs.BitWalk.{bit_shifted, bit_above, lowest}
use Rattle.rules.proofs.WordLaws.{word_bits, ones_word}
use Rattle.rules.proofs.Counting.{count_ext, count_cat}
use Rattle.paths.specs.Places.{first_at}
use Rattle.paths.proofs.PlaceLaws.{first_at_is, first_all}

-- ---- the bits of a number

bit_none : (j : ℕ) → bit 0 j ≡ false
unfolding bit
bit_none j = rw zero-div

pub count_none : (p : ℕ → Bool) (d : ℕ) → ((j : ℕ) → j < d → p j ≡ false) → count p d ≡ 0
unfolding count
count_none p zero h = refl
count_none p (suc d) h = omega (arith, count_none p d (λ j l. h j (omega arith)), ap digit (h d (omega arith)))

-- ---- a word that was read

-- x has the bits of t from place `at` to the end of word w
pub record Standing (t : ℕ → Bool) (w at x : ℕ) : Type 0 where
  pub low : w * 64 ≤ at
  pub high : at ≤ w * 64 + 64
  pub bits : (j : ℕ) → at + j < w * 64 + 64 → bit x j ≡ t (at + j)
  pub above : (j : ℕ) → w * 64 + 64 ≤ at + j → bit x j ≡ false
  pub fits : x < 2 ^ 64

-- the bits of a lent word are the bitmap's
lent_word : (words : List ℕ) (levels width : ℕ) (b : Bitmap) (w r j : ℕ) → r ≡ cell words levels width b w → j < 64
    → bit r j ≡ bit_in words levels width b (w * 64 + j)
unfolding bit_in
lent_word words levels width b w r j e l =
    let q : (w * 64 + j) / 64 ≡ w = omega arith in
    let m : (w * 64 + j) % 64 ≡ j = omega arith in
    rw (q, m, e)

module _ (words : List ℕ) (levels width : ℕ) (b : Bitmap) where
  -- read from place a on
  pub standing_from : (a r : ℕ) → r ≡ cell words levels width b (a / 64) → r < 2 ^ 64
      → Standing (bit_in words levels width b) (a / 64) a (r / 2 ^ (a % 64))
  standing_from a r e l =
      record {
        low = omega arith;
        high = omega arith;
        bits = λ j h. bit_shifted r (a % 64) j ∙ lent_word words levels width b (a / 64) r (a % 64 + j) e (omega arith) ∙ ap (bit_in words levels width b) (omega arith);
        above = λ j h. bit_shifted r (a % 64) j ∙ bit_above 64 r (a % 64 + j) l (omega arith);
        fits = lt_of_le_of_lt (shr_le r (a % 64)) l;
      }

  -- and whole
  pub standing_whole : (w r : ℕ) → r ≡ cell words levels width b w → r < 2 ^ 64 → Standing (bit_in words levels width b) w (w * 64) r
  standing_whole w r e l =
      record {
        low = omega arith;
        high = omega arith;
        bits = λ j h. lent_word words levels width b w r j e (omega arith);
        above = λ j h. bit_above 64 r j l (omega arith);
        fits = l;
      }

module _ (t : ℕ → Bool) (w at x : ℕ) (s : Standing t w at x) where
  standing_bit : (k : ℕ) → at ≤ k → k < w * 64 + 64 → t k ≡ bit x (k - at)
  standing_bit k l h = let e : at + (k - at) ≡ k = omega arith in sym (s.bits (k - at) (omega arith) ∙ ap t e)

  pub standing_zero : x ≡ 0 → (k : ℕ) → at ≤ k → k < w * 64 + 64 → t k ≡ false
  standing_zero e k l h = standing_bit k l h ∙ ap (λ (y : ℕ). bit y (k - at)) e ∙ bit_none (k - at)

  -- the next set bit is at `at` and the trailing zeros of x
  pub standing_low : (x ≡ 0 → ⊥)
      → (at + count_trailing_zeros 64 x < w * 64 + 64) × (t (at + count_trailing_zeros 64 x) ≡ true)
      × ((k : ℕ) → at ≤ k → k < at + count_trailing_zeros 64 x → t k ≡ false)
  standing_low ne =
      let l = lowest 64 x (omega arith) s.fits in
      let z = count_trailing_zeros 64 x in
      let below : at + z < w * 64 + 64 = lt_of_not-le (λ (g : w * 64 + 64 ≤ at + z). true≢false (sym l.1 ∙ s.above z g)) in
      (below, sym (s.bits z below) ∙ l.1, λ k a b. standing_bit k a (omega arith) ∙ l.2 (k - at) (omega arith))

  -- past a place of the word
  pub standing_shift : (n : ℕ) → at + n < w * 64 + 64 → Standing t w (at + n + 1) (x / 2 ^ n / 2)
  standing_shift n h =
      record {
        low = omega (arith, s.low);
        high = omega arith;
        bits = λ j l. shifted j ∙ s.bits (n + (1 + j)) (omega arith) ∙ ap t (omega arith);
        above = λ j l. shifted j ∙ s.above (n + (1 + j)) (omega arith);
        fits = lt_of_le_of_lt (div-le_self (x / 2 ^ n) 2) (lt_of_le_of_lt (shr_le x n) s.fits);
      }
    where
      shifted : (j : ℕ) → bit (x / 2 ^ n / 2) j ≡ bit x (n + (1 + j))
      shifted j = bit_shifted (x / 2 ^ n) 1 j ∙ bit_shifted x n (1 + j)

  -- as many set bits as places of the bitmap, from `at` to the end of the word
  pub standing_ones : count t at + ones x ≡ count t (w * 64 + 64)
  standing_ones =
      let c = w * 64 + 64 - at in
      let d = 64 - c in
      let e : c + d ≡ 64 = omega (arith, s.low, s.high) in
      let f : at + c ≡ w * 64 + 64 = omega (arith, s.high) in
      let here : count (bit x) c ≡ count (λ j. t (at + j)) c = count_ext (bit x) (λ j. t (at + j)) c (λ j l. s.bits j (omega arith)) in
      let past : count (λ j. bit x (c + j)) d ≡ 0 = count_none (λ j. bit x (c + j)) d (λ j l. s.above (c + j) (omega (arith, s.high))) in
      let all : ones x ≡ count (bit x) c + count (λ j. bit x (c + j)) d =
      ap ones (sym (word_bits 64 x s.fits)) ∙ ones_word 64 (bit x) ∙ ap (count (bit x)) (sym e) ∙ count_cat (bit x) c d in
      omega (arith, ap (count t) f, count_cat t at c, here, past, all)

-- ---- a place that was found, or the end before it

pub first_min : (t : ℕ → Bool) (a p e : ℕ) → a ≤ p → a ≤ e → t p ≡ true → ((k : ℕ) → a ≤ k → k < p → t k ≡ false) → min e p ≡ first_at t a e
first_min t a p e h m y none = go (dec_lt p e)
  where
    go : Dec (p < e) → min e p ≡ first_at t a e
    go (yes l) = omega (arith, first_at_is t a p e h l none y)
    go (no l) = omega (arith, first_all t a e m (λ k i j. none k i (omega arith)))
