-- Each rule one byte further, or from a border on; and the mask of a byte of the record. By the definitions' own recursion on the place.
use mathlib.Core.Path.{◌≡◌, refl, ap, ◌∙◌}
use mathlib.Core.Bool.{Bool, true, false, not, ◌&&◌, ◌||◌}
use mathlib.Core.List.{List}
use Prim.Native.Nat.{ℕ, suc, ◌+◌, ◌≤◌, ◌<◌}
use borrow.Author.Tests.{lt-ltb, eqb-true}
use lib.ListN.{length, get_or, get_or-eq_default}
use lib.Dec.{eqb}
use Rattle.rules.specs.Word.{xor, odd, count}
use Rattle.rules.specs.Bytes.{Class, quote, backslash, opens, closes, colon, comma, is, has}
use Rattle.rules.specs.Bits.{grow, run_before, escaped, quote_bit, in_string, mask_bit, plain}
use Rattle.rules.proofs.Counting.{odd_digit, count_cat, odd_cat}

-- ---- one byte further

odd_grow : (b : Bool) (k : ℕ) → odd (grow b k) ≡ b && not (odd k)
unfolding odd
odd_grow true k = refl
odd_grow false k = refl

pub escaped_suc : (text : List ℕ) (i : ℕ) → escaped text (suc i) ≡ has backslash text i && not (escaped text i)
unfolding escaped run_before
escaped_suc text i = odd_grow (has backslash text i) (run_before text i)

pub in_string_suc : (text : List ℕ) (i : ℕ) → in_string text (suc i) ≡ xor (quote_bit text i) (in_string text i)
unfolding in_string count
in_string_suc text i = odd_digit (count (quote_bit text) i) (quote_bit text i)

-- from a border on: what it is there, changed by each quote bit since
pub in_string_add : (text : List ℕ) (i j : ℕ) → in_string text (i + j) ≡ xor (odd (count (λ b. quote_bit text (i + b)) j)) (in_string text i)
unfolding in_string
in_string_add text i j = ap odd (count_cat (quote_bit text) i j) ∙ odd_cat (count (quote_bit text) i) (λ b. quote_bit text (i + b)) j

-- ---- within the record, and past its end

pub mask_inside : (text : List ℕ) (i : ℕ) → i < length text → mask_bit text i ≡ in_string text i
unfolding mask_bit
mask_inside text i h = ap (λ (b : Bool). b && in_string text i) (lt-ltb i (length text) h)

is_none : (c : Class) → is c 0 ≡ false
unfolding is
is_none quote = refl
is_none backslash = refl
is_none opens = refl
is_none closes = refl
is_none colon = refl
is_none comma = refl

pub has_past : (c : Class) (text : List ℕ) (i : ℕ) → length text ≤ i → has c text i ≡ false
unfolding has
has_past c text i h = ap (is c) (get_or-eq_default text 0 h) ∙ is_none c

-- no byte opens and closes
opens_closes : (b : ℕ) → is opens b ≡ true → is closes b ≡ false
unfolding is
opens_closes b e = go (eqb b 123) refl
  where
    go : (d : Bool) → eqb b 123 ≡ d → (eqb b 125 || eqb b 93) ≡ false
    go true p = rw (eqb-true b 123 p)
    go false p = rw (eqb-true b 91 (rw p at e))

pub plain_apart : (by : ℕ → Bool) (text : List ℕ) (i : ℕ) → plain by opens text i ≡ true → plain by closes text i ≡ false
unfolding plain has
plain_apart by text i e = ap (λ (d : Bool). d && not (by i)) (opens_closes (get_or text i 0) (and_left (is opens (get_or text i 0)) (not (by i)) e))
  where
    and_left : (a b : Bool) → (a && b) ≡ true → a ≡ true
    and_left true b p = refl
    and_left false b p = p
