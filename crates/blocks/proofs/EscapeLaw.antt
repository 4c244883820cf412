-- The escaped places of a word, by a sum.
use Rattle.std.proofs.Common.{◌≡◌, ℕ, zero, suc, ◌+◌, ◌-◌, ◌*◌, ◌/◌, ◌%◌, ◌^◌, Bool, true, false, not, ◌&&◌, eqb, List, sym, refl, ap, ◌∙◌, ap₂, add-zero, add-suc}
use native.Mathlib.Nat.{mod-add-mod}
use lib.Bits.{bit_xor, bit_and, bit_or}
use Rattle.rules.specs.Word.{digit, word, odd, xor}
use Rattle.rules.specs.Bytes.{backslash, has}
use Rattle.rules.specs.Bits.{escaped}
use Rattle.rules.proofs.RuleLaws.{escaped_suc}
use Rattle.rules.proofs.Booleans.{bool2, bool3, bool4}
use Rattle.rules.proofs.WordLaws.{lead, carry, major, sum_bit, and_word, xor_word, not_word, shift_in, add_word, word_ext, word_top}
use Rattle.blocks.specs.Escape.{esc_from}

module _ (c : Bool) (p : ℕ → Bool) where
  -- the backslashes that start a run at an odd place, where no run comes in
  abbrev starts : ℕ → Bool
  starts i = p i && (not (lead c p i) && odd i)

  abbrev carried : ℕ → Bool
  carried = carry c p starts

-- what a place with backslash bit b, which a backslash precedes or not (f), at an odd place or not (d), hands to the next
next_escape : (b f d k : Bool) → (b && not (f && xor d (k && f))) ≡ (b && xor (not d) (major b (b && (not f && d)) (k && f)))
next_escape = bool4 _ _ tt

next_carry : (b f d k : Bool) → major b (b && (not f && d)) (k && f) ≡ (major b (b && (not f && d)) (k && f) && b)
next_carry = bool4 _ _ tt

-- a carry runs only where a backslash precedes; and there the place is escaped as its parity differs from the carry's
mutual_inv : (c : Bool) (p : ℕ → Bool) (i : ℕ) → (esc_from c p i ≡ (lead c p i && xor (odd i) (carried c p i))) × (carried c p i ≡ (carried c p i && lead c p i))
unfolding esc_from odd
mutual_inv true p zero = (refl, refl)
mutual_inv false p zero = (refl, refl)
mutual_inv c p (suc i) =
    let ih = mutual_inv c p i in
    let b = p i in
    let f = lead c p i in
    let d = odd i in
    let k = carried c p i in (
      ap (λ (x : Bool). b && not x) (ih.0 ∙ ap (λ (x : Bool). f && xor d x) ih.1)
          ∙ next_escape b f d k
          ∙ ap (λ (x : Bool). b && xor (not d) (major b (b && (not f && d)) x)) (sym ih.1),
      ap (major b (b && (not f && d))) ih.1 ∙ next_carry b f d k ∙ ap (λ (x : Bool). major b (b && (not f && d)) x && b) (sym ih.1),
    )

xor_comm : (a b : Bool) → xor a b ≡ xor b a
xor_comm = bool2 _ _ tt

cancel : (b o k : Bool) → xor (xor (xor (xor b o) k) b) o ≡ k
cancel = bool3 _ _ tt

-- ---- the words of the code, from the word of backslashes and the carry

abbrev pub ODD : ℕ
ODD = 0xaaaa_aaaa_aaaa_aaaa

odds : ODD ≡ word 64 odd
unfolding word odd
odds = refl

abbrev pub follows_of : ℕ → ℕ → ℕ
follows_of bs c = bit_or ((bs * 2 ^ 1) % 2 ^ 64) c

abbrev pub starts_of : ℕ → ℕ → ℕ
starts_of bs c = bit_and bs (bit_and (2 ^ 64 - 1 - follows_of bs c) ODD)

abbrev pub escapes_of : ℕ → ℕ → ℕ → ℕ
escapes_of bs c sum = bit_and (follows_of bs c) (bit_xor (bit_xor (bit_xor sum bs) (starts_of bs c)) ODD)

module _ (c : Bool) (p : ℕ → Bool) where
  follows_word : follows_of (word 64 p) (digit c) ≡ word 64 (lead c p)
  follows_word = shift_in 63 c p

  starts_word : starts_of (word 64 p) (digit c) ≡ word 64 (starts c p)
  starts_word =
      ap₂ (λ (x y : ℕ). bit_and (word 64 p) (bit_and (2 ^ 64 - 1 - x) y)) follows_word odds
      ∙ ap (λ (x : ℕ). bit_and (word 64 p) (bit_and x (word 64 odd))) (not_word 64 (lead c p))
      ∙ ap (bit_and (word 64 p)) (and_word 64 (λ i. not (lead c p i)) odd)
      ∙ and_word 64 p (λ i. not (lead c p i) && odd i)

  sum_word : (word 64 p + starts_of (word 64 p) (digit c)) % 2 ^ 64 + digit c ≡ (word 64 p + word 64 (starts c p)) % 2 ^ 64 + digit c
  sum_word = ap (λ (x : ℕ). (word 64 p + x) % 2 ^ 64 + digit c) starts_word

  sums : ((word 64 p + starts_of (word 64 p) (digit c)) % 2 ^ 64 + digit c) % 2 ^ 64 ≡ word 64 (sum_bit c p (starts c p))
  sums =
      ap (λ (x : ℕ). x % 2 ^ 64) sum_word
      ∙ mod-add-mod (word 64 p + word 64 (starts c p)) (2 ^ 64) (digit c)
      ∙ add_word 64 c p (starts c p)

  escape_bit : (i : ℕ) → (lead c p i && xor (xor (xor (sum_bit c p (starts c p) i) (p i)) (starts c p i)) (odd i)) ≡ esc_from c p i
  escape_bit i =
      ap (λ (x : Bool). lead c p i && xor x (odd i)) (cancel (p i) (starts c p i) (carried c p i))
      ∙ ap (λ (x : Bool). lead c p i && x) (xor_comm (carried c p i) (odd i))
      ∙ sym (mutual_inv c p i).0

  escapes_word : {sum : ℕ} → sum ≡ word 64 (sum_bit c p (starts c p)) → escapes_of (word 64 p) (digit c) sum ≡ word 64 (esc_from c p)
  escapes_word {sum} e =
      ap₂ (λ (x y : ℕ). bit_and x (bit_xor (bit_xor (bit_xor sum (word 64 p)) y) ODD)) follows_word starts_word
      ∙ ap₂ (λ (x y : ℕ). bit_and (word 64 (lead c p)) (bit_xor (bit_xor (bit_xor x (word 64 p)) (word 64 (starts c p))) y)) e odds
      ∙ simp (xor_word, and_word)
      (word_ext 64 (λ i. lead c p i && xor (xor (xor (sum_bit c p (starts c p) i) (p i)) (starts c p i)) (odd i)) (esc_from c p) (λ i h. escape_bit i))

  -- bit 63 of the backslashes that are not escaped: is the place after the word escaped
  carry_out : bit_and (word 64 p) (2 ^ 64 - 1 - word 64 (esc_from c p)) / 2 ^ 63 ≡ digit (esc_from c p 64)
  unfolding esc_from
  carry_out =
      ap (λ (x : ℕ). bit_and (word 64 p) x / 2 ^ 63) (not_word 64 (esc_from c p))
      ∙ ap (λ (x : ℕ). x / 2 ^ 63) (and_word 64 p (λ i. not (esc_from c p i)))
      ∙ word_top 63 (λ i. p i && not (esc_from c p i))

eqb_digit : (b : Bool) → eqb (digit b) 1 ≡ b
eqb_digit true = refl
eqb_digit false = refl

pub escapes_meets : (c : Bool) (p : ℕ → Bool) {bs cn s₁ s₂ : ℕ} → bs ≡ word 64 p → cn ≡ digit c → s₁ ≡ (bs + starts_of bs cn) % 2 ^ 64 → s₂ ≡ (s₁ + cn) % 2 ^ 64
    → (escapes_of bs cn s₂ ≡ word 64 (esc_from c p)) × (eqb (bit_and bs (2 ^ 64 - 1 - escapes_of bs cn s₂) / 2 ^ 63) 1 ≡ esc_from c p 64)
escapes_meets c p {bs} {cn} {s₁} {s₂} eb ec e₁ e₂ =
    let sum : s₂ ≡ word 64 (sum_bit c p (starts c p)) =
    e₂ ∙ ap₂ (λ (x y : ℕ). (x + y) % 2 ^ 64) e₁ ec ∙ ap₂ (λ (x y : ℕ). ((x + starts_of x y) % 2 ^ 64 + digit c) % 2 ^ 64) eb ec ∙ sums c p in
    let w : escapes_of bs cn s₂ ≡ word 64 (esc_from c p) = ap₂ (λ (x y : ℕ). escapes_of x y s₂) eb ec ∙ escapes_word c p sum in
    (w, ap₂ (λ (x y : ℕ). eqb (bit_and x (2 ^ 64 - 1 - y) / 2 ^ 63) 1) eb w ∙ ap (λ (x : ℕ). eqb x 1) (carry_out c p) ∙ eqb_digit (esc_from c p 64))

-- read from a place of a record on, the escaped places are the record's
pub esc_from_escaped : (r : List ℕ) (base : ℕ) {c : Bool} → c ≡ escaped r base → (i : ℕ) → esc_from c (λ b. has backslash r (base + b)) i ≡ escaped r (base + i)
unfolding esc_from
esc_from_escaped r base e zero = e ∙ ap (escaped r) (sym (add-zero base))
esc_from_escaped r base e (suc i) =
    ap (λ (x : Bool). has backslash r (base + i) && not x) (esc_from_escaped r base e i) ∙ sym (escaped_suc r (base + i)) ∙ ap (escaped r) (sym (add-suc base i))
