-- The words of a line, made by one scan and one level of all of them, are its index: its only chunk begins outside a string and at depth 0, as the
-- scan guesses. And where the scan found all in balance the line is sound: a walk over its brackets meets no fault.
use Prim.Native.Nat.{ℕ, ◌+◌, ◌*◌, ◌-◌, ◌≤◌, ◌<◌, min}
use mathlib.Core.Path.{◌≡◌, refl, sym, ap, ap₂, ◌∙◌}
use mathlib.Core.Bool.{Bool, true, false, not, ◌&&◌}
use mathlib.Core.List.{List}
use native.Mathlib.Omega.{arith}
use borrow.Author.Tests.{eq-eqb, eqb-true, leb-true, not-true}
use lib.ListN.{length}
use lib.Dec.{eqb, leb}
use Rattle.rules.specs.Word.{odd, count, word_at}
use Rattle.rules.specs.Bits.{in_string, mask_bit, opener, closer, at_depth}
use Rattle.rules.specs.Faults.{sound, at_end, fault_from, fault_of}
use Rattle.rules.specs.Layout.{Bitmap, quotes, mask, colons, commas, width_of, size_of, Has, cell, bit_of, index}
use Rattle.rules.proofs.Booleans.{impossible}
use Rattle.rules.proofs.Counting.{count_cat}
use Rattle.rules.proofs.LayoutLaws.{index_only}
use Rattle.rules.proofs.RuleLaws.{plain_apart}
use Rattle.rules.proofs.WordLaws.{word_at_ext}
use Rattle.blocks.specs.declared.swing.Swing.{Swing}
use Rattle.blocks.specs.Guessing.{guessed, guess_bit}
use Rattle.blocks.specs.Swinging.{swing, Apart}
use Rattle.blocks.proofs.MarkLaws.{guessed_true}
use Rattle.chunks.specs.Writing.{levels_till}
use Rattle.chunks.specs.Sweeping.{swing_by, scan_words, swept_of}
use Rattle.chunks.specs.Levels.{level_word, level_words}
use Rattle.chunks.proofs.ScanLaws.{swing_by_ext}
use Rattle.index.specs.Types.{Span}
use Rattle.runs.proofs.Border.{Meets, clear, found, meets_of}
use Rattle.runs.proofs.Steps.{both}
use Rattle.runs.proofs.Past.{in_string_past, openers_past, closers_past}
use Rattle.runs.proofs.Truth.{Holds}
use Rattle.runs.proofs.Walks.{Walked, stays, meets, walked, Depth}
use Rattle.runs.proofs.Words.{new_cells, guess_right, scan_quotes, scan_mask, level_colons, level_commas, level_marks}
use Rattle.lines.specs.Jobs.{balanced}

module _ (bytes : List ℕ) where
  abbrev W : ℕ
  W = width_of (length bytes)

  -- the only chunk
  abbrev all : Span
  all = record { from = 0; to = W }

  outside : false ≡ in_string bytes 0
  unfolding in_string count odd
  outside = refl

  level_0 : Depth bytes 0 0
  unfolding Depth count
  level_0 = refl

  -- ---- the words

  module _ (levels : ℕ) (words : List ℕ) where
    abbrev scanned : List ℕ
    scanned = scan_words bytes levels 0 W false words

    masks : Holds (cell scanned levels W) all mask (mask_bit bytes)
    masks w i = scan_mask bytes levels all words (omega arith) false w i ∙ word_at_ext _ _ w (λ b l. guess_right bytes false 0 outside (64 * w + b) (omega arith))

    holds : (b : Bitmap) → Has levels b → (w : ℕ) → w < W → cell (level_words bytes levels 0 W 0 scanned) levels W b w ≡ word_at (bit_of bytes b) w
    unfolding bit_of levels_till
    holds quotes h w l = level_marks bytes scanned levels all 0 (omega arith) masks level_0 quotes h w l refl ∙ scan_quotes bytes levels all words (omega arith) false w (omega arith, l)
    holds mask h w l = level_marks bytes scanned levels all 0 (omega arith) masks level_0 mask h w l refl ∙ masks w (omega arith, l)
    holds (colons k) h w l = level_colons bytes scanned levels all 0 (omega arith) masks level_0 k h w (omega arith, l)
    holds (commas k) h w l = level_commas bytes scanned levels all 0 (omega arith) masks level_0 k h w (omega arith, l)

    pub made_index : level_words bytes levels 0 W 0 scanned ≡ index bytes levels
    unfolding level_words size_of
    made_index =
        index_only bytes levels _
        (record { long = (new_cells levels W (levels_till W) 0 (level_word bytes scanned levels 0 0) scanned).long; holds = holds })

  -- ---- the balance

  abbrev o : ℕ → Bool
  o = opener bytes

  abbrev k : ℕ → Bool
  k = closer bytes

  -- the places of all the words
  abbrev m : ℕ
  m = 64 * (W - 0)

  covered : length bytes ≤ m
  unfolding width_of
  covered = omega arith

  apart : Apart o k
  unfolding opener closer
  apart = plain_apart (mask_bit bytes) bytes

  swing_is : (swept_of bytes 0 W false).swing ≡ swing (λ j. o (0 + j)) (λ j. k (0 + j)) m
  unfolding swept_of swing_by opener closer
  swing_is = swing_by_ext (guess_bit false 0 bytes) (mask_bit bytes) bytes 0 m (λ j l. guess_right bytes false 0 outside (0 + j) (omega arith))

  inside_is : (swept_of bytes 0 W false).inside ≡ in_string bytes (length bytes)
  unfolding swept_of
  inside_is =
      ap (λ (g : Bool). guessed g 0 bytes (0 + m)) outside ∙ guessed_true 0 bytes (0 + m) (omega arith)
      ∙ in_string_past bytes (0 + m) (omega (arith, covered))

  pub balanced_sound : balanced (swept_of bytes 0 W false).inside (swept_of bytes 0 W false).swing ≡ true → fault_of bytes ≡ sound
  unfolding balanced swing count fault_of fault_from at_end at_depth
  balanced_sound e = go (walked o k apart 0 0 m (omega arith)) (meets_of bytes 0 0 m (omega arith) level_0)
    where
      s : Swing
      s = swing (λ j. o (0 + j)) (λ j. k (0 + j)) m

      facts : balanced (in_string bytes (length bytes)) s ≡ true
      facts = ap₂ balanced (sym inside_is) (sym swing_is) ∙ e

      first : (not (in_string bytes (length bytes)) ≡ true) × ((eqb s.dip 0 && (leb s.peak 64 && eqb s.up s.down)) ≡ true)
      first = both _ _ facts

      second : (eqb s.dip 0 ≡ true) × ((leb s.peak 64 && eqb s.up s.down) ≡ true)
      second = both _ _ first.1

      third : (leb s.peak 64 ≡ true) × (eqb s.up s.down ≡ true)
      third = both _ _ second.1

      closed_end : in_string bytes (length bytes) ≡ false
      closed_end = not-true (in_string bytes (length bytes)) first.0

      even : count (λ j. o (0 + j)) m ≡ count (λ j. k (0 + j)) m
      even = eqb-true _ _ third.1

      level_end : at_depth bytes 0 (length bytes) ≡ true
      level_end =
          eq-eqb (count o (length bytes)) (count k (length bytes) + 0)
          (omega (arith, even, openers_past bytes (0 + m) (omega (arith, covered)), closers_past bytes (0 + m) (omega (arith, covered)), count_cat o 0 m, count_cat k 0 m))

      at_the_end : (i r : ℕ) → i ≡ length bytes → r ≡ 0 → fault_from bytes i r ≡ sound
      at_the_end i r p q = rw (p, q, closed_end, level_end)

      go : Walked o k 0 0 m → Meets bytes 0 0 m → fault_of bytes ≡ sound
      go (meets f p out) met = absurd (out (omega (arith, eqb-true s.dip 0 second.0)) (omega (arith, leb-true s.peak 64 third.0)))
      go (stays e p low high end) (found f q z) = impossible (cc)
      go (stays e p low high end) (clear g q z) =
          let whole : length bytes - 0 ≡ length bytes = omega arith in
          let all : min (0 + m) (length bytes) ≡ length bytes = omega (arith, covered) in
          let none : length bytes - min (0 + m) (length bytes) ≡ 0 = omega (arith, all) in
          ap (fault_from bytes 0) (sym whole) ∙ z ∙ at_the_end (min (0 + m) (length bytes)) (length bytes - min (0 + m) (length bytes)) all none
