-- `level_words` meets its contract: the levels of the words below w are written, and the brackets before it are counted.
use native.Mathlib.Omega.{arith}
use mathlib.Core.Path.{◌≡◌, refl, sym, ap, ap₂, ◌∙◌, subst}
use mathlib.Core.Bool.{Bool, ◌&&◌}
use mathlib.Core.List.{List}
use Prim.Native.Nat.{ℕ, suc, ◌+◌, ◌*◌, ◌-◌, ◌^◌, ◌≤◌, ◌<◌, max}
use native.Mathlib.Numerals.{add-one}
use lib.ListN.{length, get_or}
use lib.Dec.{ltb}
use lib.Bits.{bit_and}
use Rattle.rules.specs.Word.{count, word, word_at}
use Rattle.rules.specs.Bytes.{Class, opens, closes, colon, comma, has}
use Rattle.rules.specs.Bits.{plain}
use Rattle.rules.specs.Layout.{Bitmap, quotes, mask, colons, commas, cell}
use Rattle.rules.proofs.Counting.{count_le}
use Rattle.rules.proofs.WordLaws.{and_word, word_ext}
use Rattle.rules.proofs.LayoutLaws.{Cells}
use Rattle.layout.specs.declared.Map.TheVariants.{Mask}
use Rattle.layout.specs.Maps.{InMap}
use Rattle.blocks.specs.declared.block.Classes.{Classes}
use Rattle.blocks.specs.declared.spread.Spread.{Spread}
use Rattle.blocks.specs.Block.{BlockOf}
use Rattle.blocks.specs.Swinging.{Brackets}
use Rattle.chunks.specs.Writing.{over, rewritten, levels_till, Lent}
use Rattle.chunks.specs.Flipping.{mask_in}
use Rattle.blocks.specs.Spreading.{deep_at, SpreadOf}
use Rattle.chunks.specs.Storing.{StoredAt}
use Rattle.chunks.specs.Levels.{level_by, level_word, level_words}
use Rattle.blocks.proofs.MarkLaws.{plain_of}
use Rattle.chunks.proofs.LentLaws.{mask_word_of}
use Rattle.chunks.proofs.ScanLaws.{brackets_of, lent_long, lent_map, lent_place}
use Rattle.chunks.proofs.WriteLaws.{over_above, write_none, write_end, limit_end}
use Rattle.chunks.proofs.levelling.level_words.Invariants.{Inv, closes_from, opens_from}
use Rattle.chunks.proofs.levelling.level_words.Goals as goal

module _ {text words₀ : List ℕ} {levels from to width start : ℕ} {words : List ℕ} {up down w : ℕ}
    (lent : Lent text words₀ levels to) (inv : Inv text words₀ levels from to width start words up down w) (l : w < to) where
  one : InMap levels width Mask w
  one = lent_map lent inv.wide Mask w tt l

  here : 64 * w < length text
  here = lent_place lent inv.wide w l

  shallow : start < 2 ^ 32 → (up ≤ 1099511627776) × (down ≤ 1099511627776)
  shallow h =
      let o = count_le (opens_from text words₀ levels from) (64 * (w - from)) in
      let d = count_le (closes_from text words₀ levels from) (64 * (w - from)) in
      (omega (arith, inv.ups, here, lent.small), omega (arith, inv.downs, here, lent.small))

  -- the mask is still as lent
  as_lent : {v : ℕ} → v ≡ cell words levels width mask w → v < 2 ^ 64 → v ≡ word_at (mask_in words₀ levels (length text)) w
  unfolding levels_till
  as_lent e fits =
      mask_word_of words₀ levels (length text) w inv.wide
      (e ∙ inv.written.holds mask tt w one.inside ∙ over_above (levels_till w) from (level_word text words₀ levels from start) (cell words₀ levels width) mask w (omega arith)) fits

  module _ {v : ℕ} {classes : Classes} {s : Spread} (ev : v ≡ cell words levels width mask w) (fits : v < 2 ^ 64)
      (block : BlockOf (λ c j. has c text (64 * w + j)) classes)
      (spread : (o c : ℕ → Bool) (i s₀ : ℕ) → Brackets o c i (bit_and classes.opens (2 ^ 64 - 1 - v)) (bit_and classes.closes (2 ^ 64 - 1 - v)) → up ≡ s₀ + count o i → down ≡ count c i → SpreadOf s₀ o c i s) where
    abbrev by : ℕ → Bool
    by = mask_in words₀ levels (length text)

    spread_is : SpreadOf start (opens_from text words₀ levels from) (closes_from text words₀ levels from) (64 * (w - from)) s
    unfolding word_at opens_from closes_from
    spread_is =
        let m = as_lent ev fits in
        spread _ _ (64 * (w - from)) start (brackets_of by text from w inv.low (plain_of text w by opens block.opens_are m) (plain_of text w by closes block.closes_are m)) inv.ups inv.downs

    level_is : (c : Class) (k : ℕ) {x : ℕ} → k < levels → x ≡ word 64 (λ j. has c text (64 * w + j))
        → bit_and (bit_and x (2 ^ 64 - 1 - v)) (get_or s.slots (k + 1) 0) ≡ word_at (level_by by start (64 * from) text c (suc k)) w
    unfolding word_at level_by opens_from closes_from
    level_is c k h e =
        let slot = spread_is.slots_are (k + 1) (omega arith) (omega (arith, lent.few)) in
        ap₂ bit_and (plain_of text w by c e (as_lent ev fits)) slot ∙ and_word 64 _ _
        ∙ word_ext 64 _ _ (λ j b.
        ap₂ (λ (x y : ℕ). plain by c text (64 * w + j) && deep_at start (opens_from text words₀ levels from) (closes_from text words₀ levels from) x y) (add-one k) (omega (arith, inv.low)))

    turn : {two : List ℕ} → StoredAt levels width w s.slots (bit_and classes.colons (2 ^ 64 - 1 - v)) (bit_and classes.commas (2 ^ 64 - 1 - v)) words two
        → Inv text words₀ levels from to width start two s.up s.down (w + 1)
    unfolding level_word
    turn {two} stored =
        let same : 64 * (w - from) + 64 ≡ 64 * (w + 1 - from) = omega (arith, inv.low) in
        record {
          low = omega (arith, inv.low);
          high = omega arith;
          wide = inv.wide;
          ups = spread_is.up_is ∙ ap (λ (x : ℕ). start + count (opens_from text words₀ levels from) x) same;
          downs = spread_is.down_is ∙ ap (count (closes_from text words₀ levels from)) same;
          written =
              subst (λ (x : ℕ). Cells levels width two (over (levels_till x) from (level_word text words₀ levels from start) (cell words₀ levels width))) (sym (add-one w))
              (stored.stores from (level_word text words₀ levels from start) (cell words₀ levels width) inv.low (record { colons_are = λ k h. level_is colon k h block.colons_are; commas_are = λ k h. level_is comma k h block.commas_are }) inv.written);
        }

-- at the end
limits : (from to w : ℕ) → to ≤ w → w ≤ max from to → (b : Bitmap) (x : ℕ) → from ≤ x → ltb x (levels_till w b) ≡ ltb x (levels_till to b)
unfolding levels_till
limits from to w l m quotes x h = refl
limits from to w l m mask x h = refl
limits from to w l m (colons k) x h = limit_end from to w x l m h
limits from to w l m (commas k) x h = limit_end from to w x l m h

levels_from : (w : ℕ) (b : Bitmap) → levels_till w b ≤ w
unfolding levels_till
levels_from w quotes = omega arith
levels_from w mask = omega arith
levels_from w (colons k) = omega arith
levels_from w (commas k) = omega arith

pub loop-w-init : goal.loop-w-init
unfolding count opens_from closes_from
loop-w-init c = let none : 64 * (c.args.span.from - c.args.span.from) ≡ 0 = omega arith in
    record {
      low = omega arith;
      high = omega arith;
      wide = c.new-shape.ensures.wide;
      ups = rw none (omega arith);
      downs = rw none;
      written = write_none _ _ _ _ _ _ (lent_long c.requires c.new-shape.ensures.wide) (levels_from c.args.span.from);
    }

pub block-b-requires : goal.block-b-requires
block-b-requires c = omega (arith, here c.requires c.loop-w.invariant c.loop-w-test.true)

pub spread_word-s-requires : goal.spread_word-s-requires
spread_word-s-requires c = shallow c.requires c.loop-w.invariant c.loop-w-test.true c.ranges.start.fits

pub loop-w-preserved : goal.loop-w-preserved
loop-w-preserved c = turn c.requires c.loop-w.invariant c.loop-w-test.true (rw c.new-shape.ensures.levels_kept at c.word-mask.ensures) c.word-mask.type_inv (c.block-b.ensures c.table-t.ensures) c.spread_word-s.ensures (rw c.new-shape.ensures.levels_kept at c.store.ensures)

pub returns : goal.returns
unfolding level_words
returns c = let a = c.args in
    let i = c.loop-w.invariant in
    write_end _ _ _ (levels_till c.loop-w.w) (levels_till a.span.to) _ _ _ i.written (limits a.span.from a.span.to c.loop-w.w c.loop-w-test.false i.high)
    ∙ ap (λ (x : ℕ). rewritten a.levels x (levels_till a.span.to) a.span.from (level_word a.text.now a.words.now a.levels a.span.from a.start) a.words.now) i.wide
