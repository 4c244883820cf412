-- A scan from word to word: what the leaves say of word w continues what was scanned from the border on.
use mathlib.Core.Path.{◌≡◌, refl, sym, ap, ◌∙◌}
use mathlib.Core.Bool.{Bool, ◌&&◌, not}
use mathlib.Core.Logic.{◌⊎◌, inl, inr}
use mathlib.Core.List.{List}
use Prim.Native.Nat.{ℕ, ◌+◌, ◌*◌, ◌-◌, ◌≤◌, ◌<◌}
use native.Mathlib.Omega.{arith}
use lib.ListN.{length}
use lib.Dec.{ltb}
use Rattle.rules.specs.Word.{word_at, count}
use Rattle.rules.specs.Bytes.{Class, opens, closes, has}
use Rattle.rules.specs.Bits.{plain}
use Rattle.rules.specs.Layout.{Bitmap, quotes, mask, colons, commas, width_of, size_of, Has}
use Rattle.rules.proofs.WordLaws.{word_ext, word_at_ext}
use Rattle.rules.proofs.RuleLaws.{plain_apart}
use Rattle.layout.specs.declared.Map.{Map}
use Rattle.layout.specs.Maps.{mapped, InMap}
use Rattle.blocks.specs.declared.swing.Swing.{Swing}
use Rattle.blocks.specs.declared.marking.Marked.{Marked}
use Rattle.blocks.specs.Guessing.{guessed, guess_bit}
use Rattle.blocks.specs.Swinging.{dip, peak, swing, Brackets}
use Rattle.chunks.specs.Writing.{marks_till, Lent}
use Rattle.blocks.specs.Marking.{MarkedWord}
use Rattle.chunks.specs.Sweeping.{swing_by}
use Rattle.blocks.proofs.MarkLaws.{guessed_on}
use Rattle.blocks.proofs.SwingLaws.{swing_eq, swing_ext}

-- ---- sizes

pub width_few : (n : ℕ) → n ≤ 16777216 → width_of n ≤ 262144
unfolding width_of
width_few n h = omega arith

pub in_record : (n w : ℕ) → w < width_of n → 64 * w < n
unfolding width_of
in_record n w h = omega arith

-- ---- brackets by any mask

-- word w of the brackets, counted from the first place of word `from`
pub brackets_of : (by : ℕ → Bool) (text : List ℕ) (from w : ℕ) {o c : ℕ} → from ≤ w → o ≡ word_at (plain by opens text) w → c ≡ word_at (plain by closes text) w
    → Brackets (λ j. plain by opens text (64 * from + j)) (λ j. plain by closes text (64 * from + j)) (64 * (w - from)) o c
unfolding word_at
brackets_of by text from w l eo ec =
    record {
      apart = λ j. plain_apart by text (64 * from + j);
      opens_are = eo ∙ word_ext 64 _ _ (λ b h. ap (plain by opens text) (omega arith));
      closes_are = ec ∙ word_ext 64 _ _ (λ b h. ap (plain by closes text) (omega arith));
    }

-- no place has swung nowhere, as the default has
pub swing_start : (by : ℕ → Bool) (text : List ℕ) (a m : ℕ) {t : Swing} → (t.up ≡ 0) × ((t.down ≡ 0) × ((t.dip ≡ 0) × (t.peak ≡ 0))) → m ≡ 0 → t ≡ swing_by by text a m
unfolding swing_by swing dip peak count
swing_start by text a m e z = rw z (swing_eq e.0 e.1.0 e.1.1.0 e.1.1.1)

-- ---- one word of a scan under the guess g about the first place of word `from`

module _ (text : List ℕ) (g : Bool) (from w : ℕ) {inside : Bool} (l : from ≤ w) (state : inside ≡ guessed g (64 * from) text (64 * w)) where
  mask_on : (b : ℕ) → guess_bit inside (64 * w) text (64 * w + b) ≡ guess_bit g (64 * from) text (64 * w + b)
  unfolding guess_bit
  mask_on b =
      ap (λ (d : Bool). ltb (64 * w + b) (length text) && d)
      (ap (λ (x : Bool). guessed x (64 * w) text (64 * w + b)) state ∙ guessed_on g (64 * from) (64 * w) text (64 * w + b) (omega arith) (omega arith))

  pub scan_mask : word_at (guess_bit inside (64 * w) text) w ≡ word_at (guess_bit g (64 * from) text) w
  scan_mask = word_at_ext _ _ w (λ b h. mask_on b)

  plain_on : (c : Class) → word_at (plain (guess_bit inside (64 * w) text) c text) w ≡ word_at (plain (guess_bit g (64 * from) text) c text) w
  unfolding plain
  plain_on c = word_at_ext _ _ w (λ b h. ap (λ (d : Bool). has c text (64 * w + b) && not d) (mask_on b))

  pub scan_brackets : (m : Marked) → MarkedWord text w inside m
      → Brackets (λ j. plain (guess_bit g (64 * from) text) opens text (64 * from + j)) (λ j. plain (guess_bit g (64 * from) text) closes text (64 * from + j)) (64 * (w - from)) m.opens m.closes
  scan_brackets m h = brackets_of (guess_bit g (64 * from) text) text from w l (h.opens_are ∙ plain_on opens) (h.closes_are ∙ plain_on closes)

  pub scan_inside : (m : Marked) → MarkedWord text w inside m → m.inside ≡ guessed g (64 * from) text (64 * (w + 1))
  scan_inside m h =
      h.inside_is ∙ ap (λ (x : Bool). guessed x (64 * w) text (64 * (w + 1))) state
      ∙ guessed_on g (64 * from) (64 * w) text (64 * (w + 1)) (omega arith) (omega arith)

-- the limits of a scan: only one bitmap's moves at a store
pub quotes_only : (q q' m : ℕ) (c : Bitmap) → (c ≡ quotes) ⊎ (marks_till q m c ≡ marks_till q' m c)
unfolding marks_till
quotes_only q q' m quotes = inl refl
quotes_only q q' m mask = inr refl
quotes_only q q' m (colons k) = inr refl
quotes_only q q' m (commas k) = inr refl

pub mask_only : (q m m' : ℕ) (c : Bitmap) → (c ≡ mask) ⊎ (marks_till q m c ≡ marks_till q m' c)
unfolding marks_till
mask_only q m m' quotes = inr refl
mask_only q m m' mask = inl refl
mask_only q m m' (colons k) = inr refl
mask_only q m m' (commas k) = inr refl

pub marks_from : (w : ℕ) (c : Bitmap) → marks_till w w c ≤ w
unfolding marks_till
marks_from w quotes = omega arith
marks_from w mask = omega arith
marks_from w (colons k) = omega arith
marks_from w (commas k) = omega arith

-- ---- the lent words

module _ {text words : List ℕ} {levels to width : ℕ} (lent : Lent text words levels to) (wide : width ≡ width_of (length text)) where
  pub lent_long : length words ≡ (2 + 2 * levels) * width
  unfolding size_of
  lent_long = lent.long ∙ ap (λ (x : ℕ). (2 + 2 * levels) * x) (sym wide)

  pub lent_map : (m : Map) (w : ℕ) → Has levels (mapped m) → w < to → InMap levels width m w
  lent_map m w h l = record { has = h; inside = omega (arith, lent.within, wide) }

  pub lent_place : (w : ℕ) → w < to → 64 * w < length text
  lent_place w l = in_record (length text) w (omega (arith, lent.within))

-- two masks that agree on the places swing alike
pub swing_by_ext : (by also : ℕ → Bool) (text : List ℕ) (a m : ℕ) → ((j : ℕ) → j < m → by (a + j) ≡ also (a + j)) → swing_by by text a m ≡ swing_by also text a m
unfolding swing_by plain
swing_by_ext by also text a m h =
    swing_ext _ _ _ _ m (λ j l. (ap (λ (x : Bool). has opens text (a + j) && not x) (h j l), ap (λ (x : Bool). has closes text (a + j) && not x) (h j l)))
