-- `flip_words` meets its contract: the mask words below w are turned over, and the swing is that of the places before it by the mask turned over.
use native.Mathlib.Omega.{arith}
use mathlib.Core.Path.{◌≡◌, refl, sym, ap, ◌∙◌, subst}
use mathlib.Core.Bool.{Bool}
use mathlib.Core.List.{List}
use Prim.Native.Nat.{ℕ, suc, ◌+◌, ◌*◌, ◌-◌, ◌/◌, ◌^◌, ◌≤◌, ◌<◌}
use native.Mathlib.Numerals.{add-one}
use lib.ListN.{length, set}
use lib.Dec.{ltb}
use lib.Bits.{bit_and, bit_xor}
use Rattle.rules.specs.Word.{word, word_at}
use Rattle.rules.specs.Bytes.{opens, closes, has}
use Rattle.rules.specs.Layout.{Bitmap, quotes, mask, colons, commas, address, cell, bit_in}
use Rattle.rules.proofs.LayoutLaws.{Cells}
use Rattle.layout.specs.declared.Map.TheVariants.{Mask}
use Rattle.layout.specs.Maps.{InMap}
use Rattle.blocks.specs.declared.block.Classes.{Classes}
use Rattle.blocks.specs.declared.swing.Swing.{Swing}
use Rattle.blocks.specs.Block.{BlockOf}
use Rattle.blocks.specs.Swinging.{swing as swing-of, Brackets, Small}
use Rattle.chunks.specs.Writing.{over, rewritten, marks_till, Lent}
use Rattle.chunks.specs.Sweeping.{swing_by}
use Rattle.chunks.specs.Flipping.{mask_in, turned, flip_word, flip_words, swing_in}
use Rattle.blocks.proofs.MarkLaws.{plain_of}
use Rattle.chunks.proofs.LentLaws.{turned_word, held_bit}
use Rattle.blocks.proofs.SwingLaws.{swing_small}
use Rattle.chunks.proofs.ScanLaws.{brackets_of, swing_start, swing_by_ext, mask_only, lent_long, lent_map, lent_place}
use Rattle.chunks.proofs.WriteLaws.{over_in, over_above, write_none, write_next, write_end, limit_end}
use Rattle.chunks.proofs.flipping.flip_words.Invariants.{Inv}
use Rattle.chunks.proofs.flipping.flip_words.Goals as goal

module _ {text words₀ : List ℕ} {levels from to width : ℕ} {words : List ℕ} {swing : Swing} {w : ℕ}
    (lent : Lent text words₀ levels to) (inv : Inv text words₀ levels from to width words swing w) (l : w < to) where
  one : InMap levels width Mask w
  one = lent_map lent inv.wide Mask w tt l

  here : 64 * w < length text
  here = lent_place lent inv.wide w l

  small : Small 16777216 swing
  unfolding swing_by
  small = subst (Small 16777216) (sym inv.swung) (swing_small _ _ (64 * (w - from)) 16777216 (omega (arith, lent.small, here, inv.low)))

  -- the word is still as lent
  as_lent : {v : ℕ} → v ≡ cell words levels width mask w → v ≡ cell words₀ levels width mask w
  unfolding marks_till
  as_lent e = e ∙ inv.written.holds mask tt w one.inside ∙ over_above (marks_till 0 w) from (flip_word words₀ levels (length text)) (cell words₀ levels width) mask w (omega arith)

  module _ {v alive : ℕ} (ev : v ≡ cell words levels width mask w) (fits : v < 2 ^ 64) (ea : alive ≡ word 64 (λ b. ltb b (length text - 64 * w))) where
    word_is : bit_xor v alive ≡ word_at (turned words₀ levels (length text)) w
    word_is = turned_word words₀ levels (length text) w inv.wide (as_lent ev) fits (omega (arith, here)) ea

    turn : {one : List ℕ} {swing' : Swing} {classes : Classes} → one ≡ set words (address levels width mask w) (bit_xor v alive)
        → BlockOf (λ c j. has c text (64 * w + j)) classes
        → ((o c : ℕ → Bool) (i : ℕ) → Brackets o c i (bit_and classes.opens (2 ^ 64 - 1 - bit_xor v alive)) (bit_and classes.closes (2 ^ 64 - 1 - bit_xor v alive)) → swing ≡ swing-of o c i → swing' ≡ swing-of o c (i + 64))
        → Inv text words₀ levels from to width one swing' (w + 1)
    unfolding swing_by marks_till flip_word word_at
    turn {one} {swing'} {classes} e₁ block brackets =
        let by = turned words₀ levels (length text) in
        record {
          low = omega (arith, inv.low);
          high = omega arith;
          wide = inv.wide;
          swung =
              brackets _ _ (64 * (w - from)) (brackets_of by text from w inv.low (plain_of text w by opens block.opens_are word_is) (plain_of text w by closes block.closes_are word_is)) inv.swung
              ∙ ap (swing-of _ _) (omega (arith, inv.low));
          written =
              subst (λ (v : ℕ). Cells levels width one (over (marks_till 0 v) from (flip_word words₀ levels (length text)) (cell words₀ levels width))) (sym (add-one w))
              (subst (λ (x : List ℕ). Cells levels width x (over (marks_till 0 (suc w)) from (flip_word words₀ levels (length text)) (cell words₀ levels width))) (sym e₁)
              (write_next levels width from (flip_word words₀ levels (length text)) (cell words₀ levels width) (marks_till 0 w) (marks_till 0 (suc w)) mask w _ words inv.written tt inv.low (one_inside) refl refl (mask_only 0 w (suc w)) word_is));
        }
      where
        one_inside : w < width
        one_inside = (lent_map lent inv.wide Mask w tt l).inside

-- at the end
module _ {text words₀ : List ℕ} {levels from to width : ℕ} {words : List ℕ} {swing : Swing} {w : ℕ}
    (lent : Lent text words₀ levels to) (inv : Inv text words₀ levels from to width words swing w) (l : to ≤ w) where
  limits : (b : Bitmap) (x : ℕ) → from ≤ x → ltb x (marks_till 0 w b) ≡ ltb x (marks_till 0 to b)
  unfolding marks_till
  limits quotes x h = refl
  limits mask x h = limit_end from to w x l inv.high h
  limits (colons k) x h = refl
  limits (commas k) x h = refl

  bits : (j : ℕ) → j < 64 * (to - from) → turned words₀ levels (length text) (64 * from + j) ≡ mask_in words levels (length text) (64 * from + j)
  unfolding marks_till flip_word
  bits j h =
      let i = 64 * from + j in
      sym (
      ap (λ (x : ℕ). bit_in words levels x mask i) (sym inv.wide)
      ∙ held_bit levels width mask (turned words₀ levels (length text)) i inv.written tt (omega (arith, lent.within, inv.wide))
      (over_in (marks_till 0 w) from (flip_word words₀ levels (length text)) (cell words₀ levels width) mask (i / 64) (omega arith) (omega arith))
      )

  finish : (swing ≡ swing_in text words levels from to) × (words ≡ flip_words (length text) levels from to words₀)
  unfolding swing_in flip_words
  finish =
      let same : w - from ≡ to - from = omega (arith, inv.high, inv.low) in (
        inv.swung ∙ ap (λ (m : ℕ). swing_by (turned words₀ levels (length text)) text (64 * from) (64 * m)) same
            ∙ swing_by_ext (turned words₀ levels (length text)) (mask_in words levels (length text)) text (64 * from) (64 * (to - from)) bits,
        write_end levels width from (marks_till 0 w) (marks_till 0 to) (flip_word words₀ levels (length text)) words₀ words inv.written limits
            ∙ ap (λ (x : ℕ). rewritten levels x (marks_till 0 to) from (flip_word words₀ levels (length text)) words₀) inv.wide,
      )

flip_from : (w : ℕ) (c : Bitmap) → marks_till 0 w c ≤ w
unfolding marks_till
flip_from w quotes = omega arith
flip_from w mask = omega arith
flip_from w (colons k) = omega arith
flip_from w (commas k) = omega arith

pub loop-w-init : goal.loop-w-init
loop-w-init c = record {
  low = omega arith;
  high = omega arith;
  wide = c.new-shape.ensures.wide;
  swung = swing_start _ _ _ _ c.default-swing.ensures (omega arith);
  written = write_none _ _ _ _ _ _ (lent_long c.requires c.new-shape.ensures.wide) (flip_from c.args.span.from);
}

pub block-b-requires : goal.block-b-requires
block-b-requires c = omega (arith, here c.requires c.loop-w.invariant c.loop-w-test.true)

pub overflow_sub-text : goal.overflow_sub-text
overflow_sub-text c = omega (arith, here c.requires c.loop-w.invariant c.loop-w-test.true)

pub brackets-swing-requires : goal.brackets-swing-requires
brackets-swing-requires c = small c.requires c.loop-w.invariant c.loop-w-test.true

pub loop-w-preserved : goal.loop-w-preserved
loop-w-preserved c = turn c.requires c.loop-w.invariant c.loop-w-test.true (rw c.new-shape.ensures.levels_kept at c.word.ensures) c.word.type_inv c.live.ensures (rw c.new-shape.ensures.levels_kept at c.put.ensures)
    (c.block-b.ensures c.table-t.ensures) c.brackets-swing.ensures

pub returns : goal.returns
returns c = let done = finish c.requires c.loop-w.invariant c.loop-w-test.false in record { value = done.0; words_after = done.1 }
