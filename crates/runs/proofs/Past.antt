-- Behind the end of the record there is no quote and no bracket, so counts and states stand still there.
use mathlib.Core.Path.{◌≡◌, ap, ◌∙◌}
use mathlib.Core.Bool.{Bool, false, not, ◌&&◌}
use mathlib.Core.List.{List}
use Prim.Native.Nat.{ℕ, ◌+◌, ◌-◌, ◌≤◌}
use native.Mathlib.Omega.{arith}
use lib.ListN.{length}
use Rattle.rules.specs.Word.{odd, count}
use Rattle.rules.specs.Bytes.{Class, quote, opens, closes}
use Rattle.rules.specs.Bits.{escaped, quote_bit, in_string, mask_bit, plain, opener, closer}
use Rattle.rules.proofs.RuleLaws.{has_past}
use Rattle.blocks.proofs.SpreadLaws.{count_over}

module _ (text : List ℕ) where
  pub plain_past : (by : ℕ → Bool) (c : Class) (i : ℕ) → length text ≤ i → plain by c text i ≡ false
  unfolding plain
  plain_past by c i h = ap (λ (b : Bool). b && not (by i)) (has_past c text i h)

  pub opener_past : (i : ℕ) → length text ≤ i → opener text i ≡ false
  unfolding opener
  opener_past = plain_past (mask_bit text) opens

  pub closer_past : (i : ℕ) → length text ≤ i → closer text i ≡ false
  unfolding closer
  closer_past = plain_past (mask_bit text) closes

  count_past : (p : ℕ → Bool) → ((i : ℕ) → length text ≤ i → p i ≡ false) → (i : ℕ) → length text ≤ i → count p i ≡ count p (length text)
  count_past p none i h = ap (count p) e ∙ count_over p (length text) (i - length text) (λ j a b. none j a)
    where
      e : i ≡ length text + (i - length text)
      e = omega arith

  pub in_string_past : (i : ℕ) → length text ≤ i → in_string text i ≡ in_string text (length text)
  unfolding in_string quote_bit
  in_string_past i h = ap odd (count_past (quote_bit text) (λ j l. ap (λ (b : Bool). b && not (escaped text j)) (has_past quote text j l)) i h)

  pub openers_past : (i : ℕ) → length text ≤ i → count (opener text) i ≡ count (opener text) (length text)
  openers_past = count_past (opener text) opener_past

  pub closers_past : (i : ℕ) → length text ≤ i → count (closer text) i ≡ count (closer text) (length text)
  closers_past = count_past (closer text) closer_past
