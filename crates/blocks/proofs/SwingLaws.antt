-- The swing of brackets, place by place: nothing changes where there is none, and one bracket more is `past`. What is farthest was met
-- before, so a count that does not grow cannot be farther.
use Rattle.std.proofs.Common.{◌≡◌, ℕ, zero, suc, ◌+◌, ◌-◌, ◌<◌, ◌≤◌, max, Bool, true, false, not, ◌||◌, sym, refl, ap, ◌∙◌, ap₂, add-zero, add-suc, arith}
use lib.Bits.{bit_or}
use Rattle.rules.specs.Word.{count, bit}
use Rattle.rules.proofs.Counting.{count_le, count_ext}
use Rattle.rules.proofs.WordLaws.{or_word, bit_of_word}
use Rattle.rules.proofs.Booleans.{impossible}
use Rattle.blocks.specs.Swinging.{dip, peak, swing, past, Brackets, Small}
use Rattle.blocks.specs.declared.swing.Swing.{Swing}

pub swing_eq : {u d p q u' d' p' q' : ℕ} → u ≡ u' → d ≡ d' → p ≡ p' → q ≡ q'
    → ◌≡◌ {A = Swing} (record { up = u; down = d; dip = p; peak = q }) (record { up = u'; down = d'; dip = p'; peak = q' })
swing_eq a b c e = λ i. record { up = a i; down = b i; dip = c i; peak = e i }

module _ (o c : ℕ → Bool) where
  pub dip_ge : (i : ℕ) → count c i - count o i ≤ dip o c i
  unfolding dip count
  dip_ge zero = omega arith
  dip_ge (suc i) = omega arith

  pub peak_ge : (i : ℕ) → count o i - count c i ≤ peak o c i
  unfolding peak count
  peak_ge zero = omega arith
  peak_ge (suc i) = omega arith

  dip_le : (i : ℕ) → dip o c i ≤ i
  unfolding dip
  dip_le zero = omega arith
  dip_le (suc i) = omega (arith, dip_le i, count_le c (suc i))

  peak_le : (i : ℕ) → peak o c i ≤ i
  unfolding peak
  peak_le zero = omega arith
  peak_le (suc i) = omega (arith, peak_le i, count_le o (suc i))

  pub swing_small : (i m : ℕ) → i ≤ m → Small m (swing o c i)
  unfolding swing
  swing_small i m h =
      record {
        ups = omega (arith, count_le o i);
        downs = omega (arith, count_le c i);
        dips = omega (arith, dip_le i);
        peaks = omega (arith, peak_le i);
      }

  -- a place more, by what stands there
  module _ (i : ℕ) where
    at_none : o i ≡ false → c i ≡ false → swing o c (suc i) ≡ swing o c i
    unfolding swing dip peak count
    at_none p q = rw (p, q) (swing_eq (omega arith) (omega arith) (omega (arith, dip_ge i)) (omega (arith, peak_ge i)))

    pub at_opener : o i ≡ true → c i ≡ false → swing o c (suc i) ≡ past (swing o c i) true
    unfolding swing dip peak count
    at_opener p q = rw (p, q) (swing_eq (omega arith) (omega arith) (omega (arith, dip_ge i)) (omega arith))

    pub at_closer : o i ≡ false → c i ≡ true → swing o c (suc i) ≡ past (swing o c i) false
    unfolding swing dip peak count
    at_closer p q = rw (p, q) (swing_eq (omega arith) (omega arith) (omega arith) (omega (arith, peak_ge i)))

  -- over a stretch without brackets
  pub swing_over : (i n : ℕ) → ((j : ℕ) → i ≤ j → j < i + n → (o j ≡ false) × (c j ≡ false)) → swing o c (i + n) ≡ swing o c i
  swing_over i zero h = ap (swing o c) (add-zero i)
  swing_over i (suc n) h =
      let here = h (i + n) (omega arith) (omega arith) in
      ap (swing o c) (add-suc i n) ∙ at_none (i + n) here.0 here.1 ∙ swing_over i n (λ j a b. h j a (omega arith))

pub small_past : {m k : ℕ} {s : Swing} (d : Bool) → m < k → Small m s → Small k (past s d)
small_past true h s = record { ups = omega (arith, s.ups); downs = omega (arith, s.downs); dips = omega (arith, s.dips); peaks = omega (arith, s.ups, s.peaks) }
small_past false h s = record { ups = omega (arith, s.ups); downs = omega (arith, s.downs); dips = omega (arith, s.downs, s.dips); peaks = omega (arith, s.peaks) }

-- ---- the brackets of a word

pub or_none : (a b : Bool) → (a || b) ≡ false → (a ≡ false) × (b ≡ false)
or_none true b e = impossible (cc)
or_none false b e = (refl, e)

pub or_other : (a b : Bool) → a ≡ false → (a || b) ≡ true → b ≡ true
or_other true b e f = impossible (cc)
or_other false b e f = f

module _ {o c : ℕ → Bool} {i opens closes : ℕ} (b : Brackets o c i opens closes) where
  pub opens_bit : (k : ℕ) → k < 64 → bit opens k ≡ o (i + k)
  opens_bit k h = ap (λ (w : ℕ). bit w k) b.opens_are ∙ bit_of_word 64 k (λ j. o (i + j)) h

  pub either_bit : (k : ℕ) → k < 64 → bit (bit_or opens closes) k ≡ (o (i + k) || c (i + k))
  either_bit k h =
      ap₂ (λ (x y : ℕ). bit (bit_or x y) k) b.opens_are b.closes_are
      ∙ ap (λ (w : ℕ). bit w k) (or_word 64 (λ j. o (i + j)) (λ j. c (i + j)))
      ∙ bit_of_word 64 k (λ j. o (i + j) || c (i + j)) h

  -- from a place on there are none
  pub none_from : (at n : ℕ) → at + n ≤ 64 → ((k : ℕ) → at ≤ k → k < at + n → bit (bit_or opens closes) k ≡ false)
      → (j : ℕ) → i + at ≤ j → j < i + at + n → (o j ≡ false) × (c j ≡ false)
  none_from at n l h j p q =
      let e : i + (j - i) ≡ j = omega arith in
      let z = or_none (o (i + (j - i))) (c (i + (j - i))) (sym (either_bit (j - i) (omega arith)) ∙ h (j - i) (omega arith) (omega arith)) in
      (ap o (sym e) ∙ z.0, ap c (sym e) ∙ z.1)

  -- what stands at a set bit
  pub which : (k : ℕ) → k < 64 → bit (bit_or opens closes) k ≡ true → (d : Bool) → bit opens k ≡ d → (o (i + k) ≡ d) × (c (i + k) ≡ not d)
  which k h set true e = let p = sym (opens_bit k h) ∙ e in (p, b.apart (i + k) p)
  which k h set false e = let p = sym (opens_bit k h) ∙ e in (p, or_other (o (i + k)) (c (i + k)) p (sym (either_bit k h) ∙ set))

  pub bracket_next : (at n : ℕ) {t : Swing} → t ≡ swing o c (i + at) → at + n < 64 → bit (bit_or opens closes) (at + n) ≡ true
      → ((k : ℕ) → at ≤ k → k < at + n → bit (bit_or opens closes) k ≡ false) → past t (bit opens (at + n)) ≡ swing o c (i + (at + n + 1))
  bracket_next at n {t} e l set before =
      ap (λ (s : Swing). past s (bit opens (at + n))) (e ∙ sym (swing_over o c (i + at) n (none_from at n (omega arith) before)) ∙ ap (swing o c) (omega arith))
      ∙ go (bit opens (at + n)) (which (at + n) l set (bit opens (at + n)) refl)
      ∙ ap (swing o c) (omega arith)
    where
      go : (d : Bool) → (o (i + (at + n)) ≡ d) × (c (i + (at + n)) ≡ not d) → past (swing o c (i + (at + n))) d ≡ swing o c (suc (i + (at + n)))
      go true w = sym (at_opener o c (i + (at + n)) w.0 w.1)
      go false w = sym (at_closer o c (i + (at + n)) w.0 w.1)

  pub brackets_end : (at : ℕ) {t : Swing} → t ≡ swing o c (i + at) → at ≤ 64 → ((k : ℕ) → at ≤ k → bit (bit_or opens closes) k ≡ false) → t ≡ swing o c (i + 64)
  brackets_end at e l h =
      e ∙ sym (swing_over o c (i + at) (64 - at) (none_from at (64 - at) (omega arith) (λ k p q. h k p))) ∙ ap (swing o c) (omega arith)

-- ---- the same brackets, the same swing

module _ (o c p d : ℕ → Bool) where
  dip_ext : (m : ℕ) → ((j : ℕ) → j < m → (o j ≡ p j) × (c j ≡ d j)) → dip o c m ≡ dip p d m
  unfolding dip
  dip_ext zero h = refl
  dip_ext (suc m) h =
      ap₂ max (dip_ext m (λ j l. h j (omega arith))) (ap₂ ◌-◌ (count_ext c d (suc m) (λ j l. (h j l).1)) (count_ext o p (suc m) (λ j l. (h j l).0)))

  peak_ext : (m : ℕ) → ((j : ℕ) → j < m → (o j ≡ p j) × (c j ≡ d j)) → peak o c m ≡ peak p d m
  unfolding peak
  peak_ext zero h = refl
  peak_ext (suc m) h =
      ap₂ max (peak_ext m (λ j l. h j (omega arith))) (ap₂ ◌-◌ (count_ext o p (suc m) (λ j l. (h j l).0)) (count_ext c d (suc m) (λ j l. (h j l).1)))

  pub swing_ext : (m : ℕ) → ((j : ℕ) → j < m → (o j ≡ p j) × (c j ≡ d j)) → swing o c m ≡ swing p d m
  unfolding swing
  swing_ext m h = swing_eq (count_ext o p m (λ j l. (h j l).0)) (count_ext c d m (λ j l. (h j l).1)) (dip_ext m h) (peak_ext m h)
