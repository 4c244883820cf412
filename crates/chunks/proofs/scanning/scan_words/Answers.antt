-- `scan_words` meets its contract: the words below w are written, and the state and the swing are those of the places before it.
use native.Mathlib.Omega.{arith}
use mathlib.Core.Path.{◌≡◌, refl, sym, ap, ap₂, ◌∙◌, subst}
use mathlib.Core.Bool.{Bool}
use mathlib.Core.List.{List}
use Prim.Native.Nat.{ℕ, suc, ◌+◌, ◌*◌, ◌-◌, ◌≤◌, ◌<◌}
use native.Mathlib.Numerals.{add-one}
use native.Mathlib.Nat.{le_trans}
use lib.ListN.{length, set}
use Rattle.rules.specs.Layout.{quotes, mask, width_of, Has, address, cell}
use Rattle.rules.proofs.LayoutLaws.{Cells}
use Rattle.layout.specs.declared.Map.{Map}
use Rattle.layout.specs.declared.Map.TheVariants.{Quotes}
use Rattle.layout.specs.Maps.{mapped, InMap}
use Rattle.blocks.specs.declared.swing.Swing.{Swing}
use Rattle.blocks.specs.Guessing.{guessed, guess_bit}
use Rattle.blocks.specs.Swinging.{swing as swing-of, Brackets, Small}
use Rattle.chunks.specs.Writing.{over, rewritten, marks_till, Lent}
use Rattle.blocks.specs.declared.marking.Marked.{Marked}
use Rattle.chunks.specs.declared.scanning.Swept.{Swept}
use Rattle.blocks.specs.Marking.{MarkedWord}
use Rattle.chunks.specs.Sweeping.{swing_by, scan_word, scan_words, swept_of}
use Rattle.blocks.proofs.MarkLaws.{guessed_self}
use Rattle.blocks.proofs.SwingLaws.{swing_small}
use Rattle.chunks.proofs.ScanLaws.{swing_start, scan_mask, scan_brackets, scan_inside, quotes_only, mask_only, marks_from, lent_long, lent_map, lent_place}
use Rattle.chunks.proofs.WriteLaws.{write_none, write_next, write_all}
use Rattle.chunks.proofs.scanning.scan_words.Invariants.{Inv}
use Rattle.chunks.proofs.scanning.scan_words.Goals as goal

module _ {text words₀ : List ℕ} {levels from to width : ℕ} {guess : Bool} {words : List ℕ} {inside : Bool} {swing : Swing} {carry : Bool} {w : ℕ}
    (lent : Lent text words₀ levels to) (inv : Inv text words₀ levels from to width guess words inside swing carry w) (l : w < to) where
  here : (m : Map) → Has levels (mapped m) → InMap levels width m w
  here m h = lent_map lent inv.wide m w h l

  small : Small 16777216 swing
  unfolding swing_by
  small = subst (Small 16777216) (sym inv.swung) (swing_small _ _ (64 * (w - from)) 16777216 (omega (arith, lent.small, lent_place lent inv.wide w l, inv.low)))

  module _ {m : Marked} (marked : MarkedWord text w inside m) where
    stored : Cells levels width (set (set words (address levels width quotes w) m.quotes) (address levels width mask w) m.mask)
        (over (marks_till (suc w) (suc w)) from (scan_word text guess from) (cell words₀ levels width))
    unfolding marks_till scan_word
    stored =
        let f = scan_word text guess from in
        let old = cell words₀ levels width in
        let k : w < width = (here Quotes tt).inside in
        write_next levels width from f old (marks_till (suc w) w) (marks_till (suc w) (suc w)) mask w _ _
        (write_next levels width from f old (marks_till w w) (marks_till (suc w) w) quotes w _ words inv.written tt inv.low k refl refl (quotes_only w (suc w) w) marked.quotes_are)
        tt inv.low k refl refl (mask_only (suc w) w (suc w)) (marked.mask_is ∙ scan_mask text guess from w inv.low inv.state)

    turn : {one two : List ℕ} {swing' : Swing} → one ≡ set words (address levels width quotes w) m.quotes → two ≡ set one (address levels width mask w) m.mask
        → ((o c : ℕ → Bool) (i : ℕ) → Brackets o c i m.opens m.closes → swing ≡ swing-of o c i → swing' ≡ swing-of o c (i + 64))
        → Inv text words₀ levels from to width guess two m.inside swing' m.carry (w + 1)
    unfolding swing_by
    turn {one} {two} {swing'} e₁ e₂ brackets =
        record {
          low = omega (arith, inv.low);
          high = omega arith;
          wide = inv.wide;
          carried = marked.carry_is;
          state = scan_inside text guess from w inv.low inv.state m marked;
          swung =
              brackets _ _ (64 * (w - from)) (scan_brackets text guess from w inv.low inv.state m marked) inv.swung
              ∙ ap (swing-of _ _) (omega (arith, inv.low));
          written =
              subst (λ (v : ℕ). Cells levels width two (over (marks_till v v) from (scan_word text guess from) (cell words₀ levels width))) (sym (add-one w))
              (subst (λ (x : List ℕ). Cells levels width x (over (marks_till (suc w) (suc w)) from (scan_word text guess from) (cell words₀ levels width)))
              (sym (e₂ ∙ ap (λ (x : List ℕ). set x (address levels width mask w) m.mask) e₁)) stored);
        }

-- nothing to scan
none : (text words : List ℕ) (levels from to : ℕ) (guess : Bool) {swing : Swing} → (swing.up ≡ 0) × ((swing.down ≡ 0) × ((swing.dip ≡ 0) × (swing.peak ≡ 0))) → Lent text words levels to → to ≤ from
    → (◌≡◌ {A = Swept} (record { inside = guess; swing = swing }) (swept_of text from to guess)) × (words ≡ scan_words text levels from to guess words)
unfolding swept_of scan_words
none text words levels from to guess e lent h =
    let zero≡ : 64 * (to - from) ≡ 0 = omega arith in
    let same : 64 * from ≡ 64 * from + 64 * (to - from) = omega arith in (
      λ i. record {
        inside = (sym (guessed_self guess (64 * from) text) ∙ ap (guessed guess (64 * from) text) same) i;
        swing = swing_start (guess_bit guess (64 * from) text) text (64 * from) (64 * (to - from)) e zero≡ i;
      },
      write_all levels (width_of (length text)) from (marks_till to to) (scan_word text guess from) words words
          (write_none levels (width_of (length text)) from (marks_till to to) (scan_word text guess from) words (lent_long lent refl) (λ b. le_trans (marks_from to b) h)),
    )

pub returns-then-span : goal.returns-then-span
returns-then-span c = let none_done = none _ _ c.args.levels _ _ c.args.guess c.default-swing.ensures c.requires c.if-span.true in record { value = none_done.0; words_after = none_done.1 }

pub run_odd-carry-requires : goal.run_odd-carry-requires
run_odd-carry-requires c = omega (arith, lent_place c.requires c.new-shape.ensures.wide c.args.span.from c.if-span.false)

pub loop-w-init : goal.loop-w-init
loop-w-init c = let wide = c.new-shape.ensures.wide in
    record {
      low = omega arith;
      high = omega (arith, c.if-span.false);
      wide = wide;
      carried = c.run_odd-carry.ensures;
      state = sym (guessed_self _ _ _);
      swung = swing_start _ _ _ _ c.default-swing.ensures (omega arith);
      written = write_none _ _ _ _ _ _ (lent_long c.requires wide) (marks_from c.args.span.from);
    }

pub mark_word-m-requires : goal.mark_word-m-requires
mark_word-m-requires c = record { table_of = c.table-t.ensures; w_in_bounds = (omega (arith, lent_place c.requires c.loop-w.invariant.wide c.loop-w.w c.loop-w-test.true), c.loop-w.invariant.carried) }

pub brackets-swing-requires : goal.brackets-swing-requires
brackets-swing-requires c = small c.requires c.loop-w.invariant c.loop-w-test.true

pub loop-w-preserved : goal.loop-w-preserved
loop-w-preserved c = turn c.requires c.loop-w.invariant c.loop-w-test.true c.mark_word-m.ensures (rw c.new-shape.ensures.levels_kept at c.put.ensures) (rw c.new-shape.ensures.levels_kept at c.put-in-loop-w.ensures) c.brackets-swing.ensures

pub returns : goal.returns
unfolding swept_of scan_words
returns c = let a = c.args in
    let i = c.loop-w.invariant in
    let end : c.loop-w.w ≡ a.span.to = omega (arith, i.high) in
    let place : 64 * c.loop-w.w ≡ 64 * a.span.from + 64 * (a.span.to - a.span.from) = omega (arith, i.low) in
    record {
      value = λ j. record {
        inside = (i.state ∙ ap (guessed a.guess (64 * a.span.from) a.text.now) place) j;
        swing = (i.swung ∙ ap (λ (w : ℕ). swing_by (guess_bit a.guess (64 * a.span.from) a.text.now) a.text.now (64 * a.span.from) (64 * (w - a.span.from))) end) j;
      };
      words_after = write_all _ _ _ _ _ _ _ i.written ∙ ap₂ (λ (v w : ℕ). rewritten a.levels v (marks_till w w) a.span.from (scan_word a.text.now a.guess a.span.from) a.words.now) i.wide end;
    }
