-- The LFs among n bytes, as the bits of a comparison: none is set, or the lowest is that of the first LF. By the library's laws of such bits.
use Rattle.std.proofs.Common.{ℕ, List, Bool, true, false, ◌+◌, ◌-◌, ◌%◌, ◌^◌, ◌≤◌, ◌<◌, ◌≡◌, refl, sym, ap, ◌∙◌, subst, length, replicate, arith}
use mathlib.Core.Bool.{cond}
use mathlib.Core.List.{map}
use native.Mathlib.Nat.{lt_of_not-le}
use lib.Dec.{eqb}
use lib.ListN.{get_or, get_or-map, length-map}
use lib.Lanes.{chunk, mask_l, top, zip2}
use lib.Count.{count_trailing_zeros}
use lib.Pow.{pow_mono}
use mir.Syntax.{w8}
use mir.Val.{bits, hbits}
use Rattle.std.proofs.lemmas.Simd.{bitmask_splat, bit_mask_l, mask_l-lt, none_from_empty_mask, length-chunk, get_or-chunk}
use Rattle.rules.specs.Word.{bit}
use Rattle.rules.proofs.Booleans.{impossible}
use Rattle.rules.proofs.BitWalk.{lowest, bit_above}
use Rattle.paths.specs.Places.{byte_in}
use Rattle.paths.proofs.PlaceLaws.{first_skip, first_at_is}
use Rattle.lines.specs.Lines.{feed_at, line_end}

abbrev is_feed : ℕ → Bool
is_feed x = eqb x 10

-- the bits of the comparison of n bytes from a on with LF
abbrev feeds : List ℕ → ℕ → ℕ → ℕ
feeds text a n = mask_l (map is_feed (chunk a n text))

digit_is : (b : Bool) → eqb (cond b 1 0) 1 ≡ b
digit_is true = refl
digit_is false = refl

module _ (text : List ℕ) (a n : ℕ) (room : a + n ≤ length text) (small : n ≤ 64) where
  long : length (map is_feed (chunk a n text)) ≡ n
  long = length-map (chunk a n text) is_feed ∙ length-chunk a n text room

  below : feeds text a n < 2 ^ n
  below = subst (λ k. feeds text a n < 2 ^ k) long (mask_l-lt (map is_feed (chunk a n text)))

  -- bit k is byte a + k's
  says : (k : ℕ) → k < n → bit (feeds text a n) k ≡ feed_at text (a + k)
  unfolding bit feed_at byte_in
  says k l =
      let digit = bit_mask_l (map is_feed (chunk a n text)) k in
      ap (λ d. eqb d 1) digit ∙ digit_is (get_or (map is_feed (chunk a n text)) k false)
      ∙ get_or-map is_feed (chunk a n text) k 0 ∙ ap is_feed (get_or-chunk a n text k 0 l)

  lowest_set : 0 < feeds text a n → (count_trailing_zeros 64 (feeds text a n) < n) × (a + count_trailing_zeros 64 (feeds text a n) ≡ line_end text a)
  unfolding line_end
  lowest_set some =
      let m = feeds text a n in
      let low = lowest 64 m some (omega (arith, below, pow_mono {i = n} {j = 64} small)) in
      let t = count_trailing_zeros 64 m in
      let true_false : bit m t ≡ false → ⊥ = λ f. (let w = sym low.1 ∙ f in impossible (cc)) in
      let here : t < n = lt_of_not-le (λ (g : n ≤ t). true_false (bit_above n m t below g)) in (
        here,
        sym (first_at_is (feed_at text) a (a + t) (length text) (omega arith) (omega (arith, here))
            (λ k h l. let back : a + (k - a) ≡ k = omega arith in ap (feed_at text) (sym back) ∙ sym (says (k - a) (omega (arith, here))) ∙ low.2 (k - a) (omega arith))
            (sym (says t here) ∙ low.1)),
      )

  -- the same as the code makes it
  abbrev compared : ℕ
  compared = mask_l (map (top (hbits w8)) (zip2 (λ x y. cond (eqb x y) (2 ^ bits w8 - 1) 0) (chunk a n text) (replicate n 10))) % 2 ^ 64

  compared_is : compared ≡ feeds text a n
  compared_is = bitmask_splat w8 eqb (chunk a n text) n 10 (length-chunk a n text room) small

  pub no_feed : compared ≡ 0 → line_end text a ≡ line_end text (a + n)
  unfolding line_end feed_at byte_in
  no_feed e = first_skip (feed_at text) a (a + n) (length text) (omega arith) room (none_from_empty_mask is_feed text a n 0 room (sym compared_is ∙ e))

  pub first_feed : (compared ≡ 0 → ⊥) → (count_trailing_zeros 64 compared < n) × (a + count_trailing_zeros 64 compared ≡ line_end text a)
  first_feed ne = subst (λ m. (count_trailing_zeros 64 m < n) × (a + count_trailing_zeros 64 m ≡ line_end text a)) (sym compared_is) (lowest_set (omega (arith, λ (z : feeds text a n ≡ 0). ne (compared_is ∙ z))))
