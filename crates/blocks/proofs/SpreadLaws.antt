-- Places of a word by their depth: between two brackets the depth stands, so a stretch of places goes to one slot.
use Rattle.std.proofs.Common.{◌≡◌, ℕ, zero, suc, ◌+◌, ◌-◌, ◌<◌, ◌≤◌, Bool, true, false, ◌&&◌, ◌||◌, eqb, ltb, leb, List, length, get_or, set, replicate, sym, refl, ap, ◌∙◌, ap₂, add-zero, add-suc, lt_of_not-le, arith, get_or-set_other, get_or-set_same, ltb-false, ltb-true, le-ltb, lt-ltb, eq-eqb, ne_eqb, le-leb}
use native.Mathlib.Decide.{ℕ_discrete, dec_lt}
use borrow.Author.Tests.{lt-leb}
use lib.ListN.{get_or-replicate}
use lib.Bits.{bit_or, bit_xor}
use Rattle.rules.specs.Word.{pick, digit, xor, count, word}
use Rattle.rules.proofs.WordLaws.{word_ext, word_none, or_word, xor_word}
use Rattle.blocks.specs.Spreading.{deep_at, slot_of}

-- ---- slots

pub slot_few : (up down : ℕ) → slot_of up down < 17
unfolding slot_of
slot_few up down = go (dec_lt 16 (up - down))
  where
    go : Dec (16 < up - down) → pick (leb (up - down) 16) (up - down) 0 < 17
    go (yes l) = rw (lt-leb (up - down) 16 l) (omega arith)
    go (no n) = rw (le-leb (up - down) 16 (omega (arith, lt_of_not-le n))) (omega (arith, lt_of_not-le n))

pub slot_is : (up down k : ℕ) → k ≤ 16 → up ≡ down + k → slot_of up down ≡ k
unfolding slot_of
slot_is up down k h e =
    let d : up - down ≡ k = omega arith in
    rw (le-leb (up - down) 16 (omega arith)) d

slot_hit : (up down k : ℕ) → 1 ≤ k → slot_of up down ≡ k → up ≡ down + k
unfolding slot_of
slot_hit up down k h e = go (dec_lt 16 (up - down))
  where
    go : Dec (16 < up - down) → up ≡ down + k
    go (yes l) = let z : 0 ≡ k = rw (lt-leb (up - down) 16 l) at e in omega arith
    go (no n) = let z : up - down ≡ k = rw (le-leb (up - down) 16 (omega (arith, lt_of_not-le n))) at e in omega arith

-- ---- a stretch without brackets

pub count_over : (p : ℕ → Bool) (i m : ℕ) → ((j : ℕ) → i ≤ j → j < i + m → p j ≡ false) → count p (i + m) ≡ count p i
unfolding count
count_over p i zero h = ap (count p) (add-zero i)
count_over p i (suc m) h =
    ap (count p) (add-suc i m) ∙ ap₂ (λ (x : ℕ) (b : Bool). x + digit b) (count_over p i m (λ j a b. h j a (omega arith))) (h (i + m) (omega arith) (omega arith)) ∙ omega arith

-- the slots hold the places before `at`
pub Slots : ℕ → (ℕ → Bool) → (ℕ → Bool) → ℕ → ℕ → List ℕ → Type 0
Slots s o c i at slots = (k : ℕ) → 1 ≤ k → k ≤ 16 → get_or slots k 0 ≡ word 64 (λ j. ltb j at && deep_at s o c k (i + j))

join : (b a x : Bool) → ((a ≡ true) → b ≡ true) → ((b ≡ true) → (a ≡ false) → x ≡ true) → ((a && x) || xor b a) ≡ (b && x)
join true true true f g = refl
join true true false f g = refl
join true false x f g = sym (g refl refl)
join false true x f g = let z : ◌≡◌ {A = ℕ} 0 1 = let q : false ≡ true = f refl in cc in absurd (omega arith)
join false false x f g = refl

skip : (b a x : Bool) → ((a ≡ true) → b ≡ true) → ((b ≡ true) → (a ≡ false) → x ≡ false) → (a && x) ≡ (b && x)
skip true true x f g = refl
skip true false x f g = sym (g refl refl)
skip false true x f g = let z : ◌≡◌ {A = ℕ} 0 1 = let q : false ≡ true = f refl in cc in absurd (omega arith)
skip false false x f g = refl

module _ (s : ℕ) (o c : ℕ → Bool) (i at till : ℕ) (up down : ℕ) (slots : List ℕ) (held : Slots s o c i at slots) (few : length slots ≡ 17) (l : at ≤ till)
    (flat : (j : ℕ) → at ≤ j → j < till → (s + count o (i + j) ≡ up) × (count c (i + j) ≡ down)) where
  -- a slot that the stretch does not belong to
  slot_other : (k : ℕ) → 1 ≤ k → k ≤ 16 → (k ≡ slot_of up down → ⊥) → get_or slots k 0 ≡ word 64 (λ j. ltb j till && deep_at s o c k (i + j))
  unfolding Slots deep_at
  slot_other k h m n =
      held k h m
      ∙ word_ext 64 _ _ (λ j b.
      skip (ltb j till) (ltb j at) (deep_at s o c k (i + j)) (λ p. lt-ltb j till (omega (arith, ltb-true j at p)))
      (λ p q.
      let f = flat j (ltb-false j at q) (ltb-true j till p) in
      ap₂ (λ (x y : ℕ). eqb x (y + k)) f.0 f.1 ∙ ne_eqb up (down + k) (λ e. n (sym (slot_is up down k m e)))))

  -- and the one it does
  slot_own : (k : ℕ) → 1 ≤ k → k ≤ 16 → k ≡ slot_of up down
      → bit_or (get_or slots k 0) (bit_xor (word 64 (λ j. ltb j till)) (word 64 (λ j. ltb j at))) ≡ word 64 (λ j. ltb j till && deep_at s o c k (i + j))
  unfolding Slots deep_at
  slot_own k h m e =
      ap₂ bit_or (held k h m) (xor_word 64 (λ j. ltb j till) (λ j. ltb j at)) ∙ or_word 64 _ _
      ∙ word_ext 64 _ _ (λ j b.
      join (ltb j till) (ltb j at) (deep_at s o c k (i + j)) (λ p. lt-ltb j till (omega (arith, ltb-true j at p)))
      (λ p q.
      let f = flat j (ltb-false j at q) (ltb-true j till p) in
      ap₂ (λ (x y : ℕ). eqb x (y + k)) f.0 f.1 ∙ eq-eqb up (down + k) (slot_hit up down k h (sym e))))

  pub slots_next : {k tillw donew : ℕ} → k ≡ slot_of up down → tillw ≡ word 64 (λ j. ltb j till) → donew ≡ word 64 (λ j. ltb j at)
      → Slots s o c i till (set slots k (bit_or (get_or slots k 0) (bit_xor tillw donew)))
  unfolding Slots
  slots_next {k} {tillw} {donew} ek et ed x h m = go (ℕ_discrete x k)
    where
      v : ℕ
      v = bit_or (get_or slots k 0) (bit_xor tillw donew)

      go : Dec (x ≡ k) → get_or (set slots k v) x 0 ≡ word 64 (λ j. ltb j till && deep_at s o c x (i + j))
      go (yes e) =
          ap (λ (y : ℕ). get_or (set slots k v) y 0) e ∙ get_or-set_same slots k v 0 (omega (arith, few, ek, slot_few up down))
          ∙ ap (bit_or (get_or slots k 0)) (ap₂ bit_xor et ed) ∙ ap (λ (y : ℕ). bit_or (get_or slots y 0) (bit_xor (word 64 (λ j. ltb j till)) (word 64 (λ j. ltb j at)))) (sym e)
          ∙ slot_own x h m (e ∙ ek)
      go (no n) = get_or-set_other slots k x v 0 n ∙ slot_other x h m (λ e. n (e ∙ sym ek))

-- all 64 places
pub slots_all : (s : ℕ) (o c : ℕ → Bool) (i : ℕ) (slots : List ℕ) → Slots s o c i 64 slots → (k : ℕ) → 1 ≤ k → k ≤ 16 → get_or slots k 0 ≡ word 64 (λ j. deep_at s o c k (i + j))
unfolding Slots
slots_all s o c i slots held k h m = held k h m ∙ word_ext 64 _ _ (λ j b. ap (λ (x : Bool). x && deep_at s o c k (i + j)) (lt-ltb j 64 b))

-- no place
pub slots_none : (s : ℕ) (o c : ℕ → Bool) (i : ℕ) → Slots s o c i 0 (replicate 17 0)
unfolding Slots
slots_none s o c i k h m =
    get_or-replicate 17 k 0 0 (omega arith) ∙ sym (word_none 64) ∙ word_ext 64 _ _ (λ j b. ap (λ (x : Bool). x && deep_at s o c k (i + j)) (sym (le-ltb j 0 (omega arith))))
