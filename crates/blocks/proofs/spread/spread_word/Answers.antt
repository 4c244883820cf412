-- `spread_word` meets its contract: the places before `at` are in their slots, and the counts are those at `at`.
use Rattle.std.proofs.Common.{◌≡◌, ℕ, suc, ◌+◌, ◌-◌, ◌/◌, ◌%◌, ◌^◌, ◌<◌, ◌≤◌, Bool, false, ltb, sym, refl, ap, ◌∙◌, ap₂, add-zero, arith, length-set}
use lib.Bits.{bit_or, or_lt}
use lib.Count.{count_trailing_zeros}
use Rattle.rules.specs.Word.{count, word, bit}
use Rattle.rules.proofs.WordLaws.{word_below, word_full, bit_word}
use Rattle.rules.proofs.BitWalk.{standing_start, standing_low, standing_next, standing_none}
use Rattle.blocks.specs.Swinging.{Brackets}
use Rattle.blocks.proofs.SwingLaws.{none_from}
use Rattle.blocks.proofs.SpreadLaws.{count_over, slots_next, slots_all, slots_none}
use Rattle.blocks.proofs.spread.spread_word.Goals as goal

-- the counts stand up to the next bracket, and it adds to one of them
module _ {o c : ℕ → Bool} {i opens closes : ℕ} (b : Brackets o c i opens closes) (at n : ℕ) (l : at + n ≤ 64) (before : (k : ℕ) → at ≤ k → k < at + n → bit (bit_or opens closes) k ≡ false) where
  flat : (j : ℕ) → at ≤ j → j ≤ at + n → (count o (i + j) ≡ count o (i + at)) × (count c (i + j) ≡ count c (i + at))
  flat j p q =
      let e : i + at + (j - at) ≡ i + j = omega arith in
      let none = none_from b at n l before in (
        ap (count o) (sym e) ∙ count_over o (i + at) (j - at) (λ x y z. (none x y (omega arith)).0),
        ap (count c) (sym e) ∙ count_over c (i + at) (j - at) (λ x y z. (none x y (omega arith)).1),
      )

next_count : (p : ℕ → Bool) (i at n : ℕ) {w : ℕ} → at + n < 64 → w ≡ word 64 (λ j. p (i + j)) → count p (i + (at + n)) ≡ count p (i + at) → count p (i + (at + n + 1)) ≡ count p (i + at) + w / 2 ^ (at + n) % 2
unfolding count
next_count p i at n {w} l e f =
    let same : i + (at + n + 1) ≡ suc (i + (at + n)) = omega arith in
    ap (count p) same ∙ ap₂ ◌+◌ f (sym (ap (λ (x : ℕ). x / 2 ^ (at + n) % 2) e ∙ bit_word 64 (at + n) (λ j. p (i + j)) l))

low_bit : (x : ℕ) → x % 2 ≤ 1
low_bit x = omega arith

pub loop-place-init : goal.loop-place-init
loop-place-init c = let a = c.args in
    let begun = c.new-place-items.ensures in
    rw c.into_iter-place-iterator.ensures.into_iter_gives
    (rw (begun.starts, begun.whole)
    (record {
      standing = standing_start (bit_or a.opens a.closes) (or_lt 64 _ _ c.ranges.opens.fits c.ranges.closes.fits);
      few = refl;
      done_is = sym (word_below 64 0 (omega arith));
      ups = omega arith;
      downs = omega arith;
      so_far = λ o d i s b eu ed. (eu ∙ ap (λ (x : ℕ). s + count o x) (sym (add-zero i)), ed ∙ ap (count d) (sym (add-zero i)), slots_none s o d i);
    }))

pub loop-place-preserved : goal.loop-place-preserved
loop-place-preserved c =
    let step = c.in-Some.ensures.steps in
    let inv = c.loop-place.invariant in
    let l = standing_low inv.standing step.0 in
    let n = count_trailing_zeros 64 c.loop-place.place-iterator.left in
    let at = c.loop-place.place-iterator.at in
    let a = c.args in
    let till = c.live-till.ensures ∙ ap (λ (p : ℕ). word 64 (λ j. ltb j (p + 1))) step.1 in
    rw (step.2, step.3)
    (rw step.1
    (record {
      standing = standing_next inv.standing n l.0;
      few = length-set c.loop-place.slots _ _ ∙ inv.few;
      done_is = till;
      ups = omega (arith, low_bit (a.opens / 2 ^ (at + n)), inv.ups);
      downs = omega (arith, low_bit (a.closes / 2 ^ (at + n)), inv.downs);
      so_far = λ o d i s b eu ed.
          let f = inv.so_far o d i s b eu ed in
          let flats = flat b at n (omega (arith, l.0)) l.2 in
          let here = flats (at + n) (omega arith) (omega arith) in (
            ap (λ (x : ℕ). x + a.opens / 2 ^ (at + n) % 2) f.0 ∙ omega (arith, next_count o i at n l.0 b.opens_are here.0),
            ap (λ (x : ℕ). x + a.closes / 2 ^ (at + n) % 2) f.1 ∙ sym (next_count d i at n l.0 b.closes_are here.1),
            slots_next s o d i at (at + n + 1) c.loop-place.up c.loop-place.down c.loop-place.slots f.2 inv.few (omega arith)
                (λ j p q. let z = flats j p (omega arith) in (ap (λ (x : ℕ). s + x) z.0 ∙ sym f.0, z.1 ∙ sym f.1)) c.slot.ensures.value till inv.done_is,
          );
    }))

pub returns : goal.returns
returns c = λ o d i s b eu ed.
    let at = c.loop-place.place-iterator.at in
    let none = c.in-None.ensures.steps.0 in
    let f = c.loop-place.invariant.so_far o d i s b eu ed in
    let w = c.loop-place.invariant.standing.within in
    let flats = flat b at (64 - at) (omega arith) (λ k p q. standing_none c.loop-place.invariant.standing none k p) in
    let end = flats 64 w (omega arith) in
    record {
      slots_are = slots_all s o d i _
          (slots_next s o d i at 64 c.loop-place.up c.loop-place.down c.loop-place.slots f.2 c.loop-place.invariant.few w
          (λ j p q. let z = flats j p (omega arith) in (ap (λ (x : ℕ). s + x) z.0 ∙ sym f.0, z.1 ∙ sym f.1)) c.slot-2.ensures.value (sym (word_full 64 64 (omega arith))) c.loop-place.invariant.done_is);
      up_is = f.0 ∙ ap (λ (x : ℕ). s + x) (sym end.0);
      down_is = f.1 ∙ sym end.1;
    }
