-- What each accepted step leaves in the words, cell by cell: its own in its chunk, and everything else as it was.
use mathlib.Core.Path.{◌≡◌, refl, sym, ap, ap₂, ◌∙◌}
use mathlib.Core.Bool.{Bool, true, false, not, ◌&&◌}
use mathlib.Core.Logic.{◌⊎◌, inl, inr}
use mathlib.Core.List.{List}
use Prim.Native.Nat.{ℕ, zero, suc, ◌+◌, ◌*◌, ◌-◌, ◌/◌, ◌%◌, ◌≤◌, ◌<◌}
use native.Mathlib.Omega.{arith}
use borrow.Author.Tests.{eq-eqb, ne_eqb}
use native.Mathlib.Decide.{ℕ_discrete}
use lib.ListN.{length}
use lib.Dec.{eqb, ltb}
use Rattle.rules.specs.Word.{xor, odd, count, word_at, bit}
use Rattle.rules.specs.Bytes.{Class, colon, comma, opens, closes, has}
use Rattle.rules.specs.Bits.{quote_bit, in_string, mask_bit, plain, opener, closer, at_depth, level_bit, colon_bit, comma_bit}
use Rattle.rules.specs.Layout.{Bitmap, quotes, mask, colons, commas, width_of, Has, cell, bit_in}
use Rattle.rules.proofs.Counting.{count_ext, count_cat}
use Rattle.rules.proofs.WordLaws.{word_at_ext, bit_at}
use Rattle.rules.proofs.LayoutLaws.{Cells, laid_cells}
use Rattle.rules.proofs.Booleans.{impossible}
use Rattle.index.specs.Types.{Span}
use Rattle.blocks.specs.Guessing.{guessed, guess_bit}
use Rattle.chunks.specs.Writing.{over, rewritten, marks_till, levels_till}
use Rattle.chunks.specs.Sweeping.{scan_word, scan_words}
use Rattle.chunks.specs.Flipping.{mask_in, turned, flip_word, flip_words}
use Rattle.blocks.specs.Spreading.{deep_at}
use Rattle.chunks.specs.Levels.{level_by, level_word, level_words}
use Rattle.blocks.proofs.MarkLaws.{guessed_true}
use Rattle.chunks.proofs.WriteLaws.{over_in, over_below, over_above}
use Rattle.runs.proofs.Walks.{Depth}
use Rattle.runs.proofs.Truth.{InSpan, Holds}

-- ---- any step

module _ (levels width : ℕ) (till : Bitmap → ℕ) (from : ℕ) (f : Bitmap → ℕ → ℕ) (words : List ℕ) where
  pub new_cells : Cells levels width (rewritten levels width till from f words) (over till from f (cell words levels width))
  unfolding rewritten
  new_cells = laid_cells levels width (over till from f (cell words levels width))

  pub cell_in : (b : Bitmap) → Has levels b → (w : ℕ) → w < width → from ≤ w → w < till b → cell (rewritten levels width till from f words) levels width b w ≡ f b w
  cell_in b h w l p q = new_cells.holds b h w l ∙ over_in till from f (cell words levels width) b w p q

  pub cell_out : (b : Bitmap) → Has levels b → (w : ℕ) → w < width → (w < from) ⊎ (till b ≤ w) → cell (rewritten levels width till from f words) levels width b w ≡ cell words levels width b w
  cell_out b h w l (inl p) = new_cells.holds b h w l ∙ over_below till from f (cell words levels width) b w p
  cell_out b h w l (inr p) = new_cells.holds b h w l ∙ over_above till from f (cell words levels width) b w p

pub marks_till_le : (q m t : ℕ) → q ≤ t → m ≤ t → (b : Bitmap) → marks_till q m b ≤ t
unfolding marks_till
marks_till_le q m t x y quotes = x
marks_till_le q m t x y mask = y
marks_till_le q m t x y (colons k) = omega arith
marks_till_le q m t x y (commas k) = omega arith

pub levels_till_le : (t : ℕ) (b : Bitmap) → levels_till t b ≤ t
unfolding levels_till
levels_till_le t quotes = omega arith
levels_till_le t mask = omega arith
levels_till_le t (colons k) = omega arith
levels_till_le t (commas k) = omega arith

-- ---- the mask, right and wrong

-- a right guess is the mask
pub guess_right : (text : List ℕ) (g : Bool) (a : ℕ) → g ≡ in_string text a → (i : ℕ) → a ≤ i → guess_bit g a text i ≡ mask_bit text i
unfolding guess_bit mask_bit
guess_right text g a e i l = ap (λ (b : Bool). ltb i (length text) && b) (ap (λ (x : Bool). guessed x a text i) e ∙ guessed_true a text i l)

turn_over : (o g s p : Bool) → xor g s ≡ true → xor (p && xor o g) p ≡ (p && xor o s)
turn_over o true true p e = impossible (cc)
turn_over o false false p e = impossible (cc)
turn_over true true false true e = refl
turn_over true true false false e = refl
turn_over false true false true e = refl
turn_over false true false false e = refl
turn_over true false true true e = refl
turn_over true false true false e = refl
turn_over false false true true e = refl
turn_over false false true false e = refl

-- a wrong one, turned over within the record, is the mask
pub guess_wrong_is : (text : List ℕ) (g : Bool) (a : ℕ) → xor g (in_string text a) ≡ true → (i : ℕ) → a ≤ i → xor (guess_bit g a text i) (ltb i (length text)) ≡ mask_bit text i
unfolding guess_bit guessed
guess_wrong_is text g a e i l = turn_over (odd (count (λ j. quote_bit text (a + j)) (i - a))) g (in_string text a) (ltb i (length text)) e ∙ guess_right text (in_string text a) a refl i l

-- a bit of words whose mask words of a chunk are known
pub mask_bit_is : (text words : List ℕ) (levels : ℕ) (s : Span) (p : ℕ → Bool) → s.to ≤ width_of (length text) → Holds (cell words levels (width_of (length text))) s mask p
    → (i : ℕ) → 64 * s.from ≤ i → i < 64 * s.to → mask_in words levels (length text) i ≡ p i
unfolding bit_in
mask_bit_is text words levels s p t h i a b = ap (λ (v : ℕ). bit v (i % 64)) (h (i / 64) (omega arith, omega arith)) ∙ bit_at p i

-- ---- the words of a scan, and of a settle

module _ (text : List ℕ) (levels : ℕ) (s : Span) (words : List ℕ) (t : s.to ≤ width_of (length text)) where
  abbrev W : ℕ
  W = width_of (length text)

  pub scan_quotes : (g : Bool) → Holds (cell (scan_words text levels s.from s.to g words) levels W) s quotes (quote_bit text)
  unfolding scan_words marks_till scan_word
  scan_quotes g w i = cell_in levels W (marks_till s.to s.to) s.from (scan_word text g s.from) words quotes tt w (omega (arith, i)) i.0 i.1

  pub scan_mask : (g : Bool) → Holds (cell (scan_words text levels s.from s.to g words) levels W) s mask (guess_bit g (64 * s.from) text)
  unfolding scan_words marks_till scan_word
  scan_mask g w i = cell_in levels W (marks_till s.to s.to) s.from (scan_word text g s.from) words mask tt w (omega (arith, i)) i.0 i.1

  pub flip_mask : (g : Bool) → xor g (in_string text (64 * s.from)) ≡ true → Holds (cell words levels W) s mask (guess_bit g (64 * s.from) text)
      → Holds (cell (flip_words (length text) levels s.from s.to words) levels W) s mask (mask_bit text)
  unfolding flip_words marks_till flip_word turned
  flip_mask g e h w i =
      cell_in levels W (marks_till 0 s.to) s.from (flip_word words levels (length text)) words mask tt w (omega (arith, i)) i.0 i.1
      ∙ word_at_ext _ _ w (λ b l.
      ap (λ (x : Bool). xor x (ltb (64 * w + b) (length text))) (mask_bit_is text words levels s (guess_bit g (64 * s.from) text) t h (64 * w + b) (omega (arith, i)) (omega (arith, i)))
      ∙ guess_wrong_is text g (64 * s.from) e (64 * w + b) (omega (arith, i)))

  -- quotes are not touched by a settle
  pub flip_quotes : (w : ℕ) → w < W → cell (flip_words (length text) levels s.from s.to words) levels W quotes w ≡ cell words levels W quotes w
  unfolding flip_words marks_till
  flip_quotes w l = cell_out levels W (marks_till 0 s.to) s.from (flip_word words levels (length text)) words quotes tt w l (inr (omega arith))

-- ---- the words of a level

eqb_same : (x y u v : ℕ) → (x ≡ y → u ≡ v) → (u ≡ v → x ≡ y) → eqb x y ≡ eqb u v
eqb_same x y u v f g = go (ℕ_discrete x y)
  where
    go : Dec (x ≡ y) → eqb x y ≡ eqb u v
    go (yes e) = eq-eqb x y e ∙ sym (eq-eqb u v (f e))
    go (no n) = ne_eqb x y n ∙ sym (ne_eqb u v (λ e. n (g e)))

-- from the truth at the border, the depth by the lent mask is the depth of the rules
module _ (text words : List ℕ) (levels : ℕ) (s : Span) (start : ℕ) (t : s.to ≤ width_of (length text))
    (masks : Holds (cell words levels (width_of (length text))) s mask (mask_bit text)) (depth : Depth text start (64 * s.from)) where
  abbrev by : ℕ → Bool
  by = mask_in words levels (length text)

  plain_same : (c : Class) (i : ℕ) → 64 * s.from ≤ i → i < 64 * s.to → plain by c text i ≡ plain (mask_bit text) c text i
  unfolding plain
  plain_same c i p q = ap (λ (b : Bool). has c text i && not b) (mask_bit_is text words levels s (mask_bit text) t masks i p q)

  count_same : (c : Class) (i : ℕ) → 64 * s.from ≤ i → i ≤ 64 * s.to
      → count (plain (mask_bit text) c text) (64 * s.from) + count (λ j. plain by c text (64 * s.from + j)) (i - 64 * s.from) ≡ count (plain (mask_bit text) c text) i
  count_same c i p q =
      let a = 64 * s.from in
      let e : a + (i - a) ≡ i = omega arith in
      ap (λ (x : ℕ). count (plain (mask_bit text) c text) a + x) (count_ext _ _ (i - a) (λ j l. plain_same c (a + j) (omega arith) (omega arith)))
      ∙ sym (count_cat (plain (mask_bit text) c text) a (i - a)) ∙ ap (count (plain (mask_bit text) c text)) e

  level_same : (c : Class) (k i : ℕ) → 64 * s.from ≤ i → i < 64 * s.to → level_by by start (64 * s.from) text c (suc k) i ≡ level_bit c text (suc k) i
  unfolding level_by level_bit deep_at at_depth opener closer Depth
  level_same c k i p q =
      ap₂ ◌&&◌ (plain_same c i p q)
      (eqb_same (start + count (λ j. plain by opens text (64 * s.from + j)) (i - 64 * s.from)) (count (λ j. plain by closes text (64 * s.from + j)) (i - 64 * s.from) + suc k) (count (plain (mask_bit text) opens text) i) (count (plain (mask_bit text) closes text) i + suc k)
      (λ e. omega (arith, depth, count_same opens i p (omega arith), count_same closes i p (omega arith)))
      (λ e. omega (arith, depth, count_same opens i p (omega arith), count_same closes i p (omega arith))))

  -- colons and commas alike
  level_word_is : (c : Class) (k w : ℕ) → 1 ≤ k → InSpan s w → word_at (level_by by start (64 * s.from) text c k) w ≡ word_at (level_bit c text k) w
  level_word_is c zero w h i = absurd (omega arith)
  level_word_is c (suc k) w h i = word_at_ext _ _ w (λ b l. level_same c k (64 * w + b) (omega (arith, i)) (omega (arith, i)))

  pub level_colons : (k : ℕ) → Has levels (colons k) → Holds (cell (level_words text levels s.from s.to start words) levels (width_of (length text))) s (colons k) (colon_bit text k)
  unfolding level_words levels_till level_word
  level_colons k h w i =
      cell_in levels (width_of (length text)) (levels_till s.to) s.from (level_word text words levels s.from start) words (colons k) h w (omega (arith, i)) i.0 i.1 ∙ level_word_is colon k w h.0 i

  pub level_commas : (k : ℕ) → Has levels (commas k) → Holds (cell (level_words text levels s.from s.to start words) levels (width_of (length text))) s (commas k) (comma_bit text k)
  unfolding level_words levels_till level_word
  level_commas k h w i =
      cell_in levels (width_of (length text)) (levels_till s.to) s.from (level_word text words levels s.from start) words (commas k) h w (omega (arith, i)) i.0 i.1 ∙ level_word_is comma k w h.0 i

  -- quotes and mask are not touched
  pub level_marks : (b : Bitmap) → Has levels b → (w : ℕ) → w < width_of (length text) → levels_till s.to b ≡ 0 → cell (level_words text levels s.from s.to start words) levels (width_of (length text)) b w ≡ cell words levels (width_of (length text)) b w
  unfolding level_words
  level_marks b h w l e = cell_out levels (width_of (length text)) (levels_till s.to) s.from (level_word text words levels s.from start) words b h w l (inr (omega (arith, e)))
