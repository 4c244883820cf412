-- `seek_words` meets its contract: what is left of the walk is the whole walk, as long as no fault was met.
use Rattle.std.specs.Prelude.{Result, Ok, Err}
use native.Mathlib.Omega.{arith}
use borrow.Author.Rules.{rules}
use mathlib.Core.Path.{◌≡◌, refl, sym, ap, ◌∙◌}
use mathlib.Core.Bool.{Bool}
use mathlib.Core.List.{List}
use Prim.Native.Nat.{ℕ, ◌+◌, ◌*◌, ◌-◌, ◌^◌, ◌≤◌, ◌<◌}
use lib.ListN.{length}
use lib.Bits.{bit_and}
use Rattle.rules.specs.Word.{word_at}
use Rattle.rules.specs.Bytes.{opens, closes, has}
use Rattle.rules.specs.Bits.{plain}
use Rattle.rules.specs.Layout.{mask, cell}
use Rattle.rules.proofs.RuleLaws.{plain_apart}
use Rattle.layout.specs.declared.Map.TheVariants.{Mask}
use Rattle.index.specs.declared.Fault.{Fault}
use Rattle.blocks.specs.declared.block.Classes.{Classes}
use Rattle.blocks.specs.Block.{BlockOf}
use Rattle.blocks.specs.Swinging.{Brackets}
use Rattle.chunks.specs.Writing.{Lent}
use Rattle.chunks.specs.Flipping.{mask_in}
use Rattle.index.specs.Settling.{seek, seek_in}
use Rattle.blocks.proofs.MarkLaws.{plain_of}
use Rattle.chunks.proofs.LentLaws.{mask_word_of}
use Rattle.index.proofs.SeekLaws.{seek_on, seek_at, seek_le}
use Rattle.chunks.proofs.ScanLaws.{lent_long, lent_map, lent_place}
use Rattle.index.proofs.settling.seek_words.Invariants.{Inv}
use Rattle.index.proofs.settling.seek_words.Goals as goal

module _ {text words : List ℕ} {levels from to width start depth w : ℕ} (lent : Lent text words levels to) (inv : Inv text words levels from to width start depth w) (l : w < to) where
  here : 64 * w < length text
  here = lent_place lent inv.wide w l

  shallow : start < 2 ^ 32 → depth ≤ 549755813888
  shallow h = omega (arith, inv.small, here, lent.small)

  abbrev o : ℕ → Bool
  o = plain (mask_in words levels (length text)) opens text

  abbrev c : ℕ → Bool
  c = plain (mask_in words levels (length text)) closes text

  parts : 64 * (to - w) ≡ 64 + 64 * (to - (w + 1))
  parts = omega arith

  module _ {v : ℕ} {classes : Classes} {found : Result ℕ Fault} (ev : v ≡ cell words levels width mask w) (fits : v < 2 ^ 64)
      (block : BlockOf (λ c j. has c text (64 * w + j)) classes)
      (sought : (o c : ℕ → Bool) → Brackets o c (64 * w) (bit_and classes.opens (2 ^ 64 - 1 - v)) (bit_and classes.closes (2 ^ 64 - 1 - v)) → found ≡ seek o c depth (64 * w) 64) where
    found_is : found ≡ seek o c depth (64 * w) 64
    unfolding word_at
    found_is =
        let by = mask_in words levels (length text) in
        let m = mask_word_of words levels (length text) w inv.wide ev fits in
        sought o c (record { apart = plain_apart by text; opens_are = plain_of text w by opens block.opens_are m; closes_are = plain_of text w by closes block.closes_are m })

    stop : {f : Fault} → found ≡ Err f → seek_in text words levels from to start ≡ Err f
    stop e = inv.so_far ∙ ap (seek o c depth (64 * w)) parts ∙ seek_at o c depth (64 * w) 64 (64 * (to - (w + 1))) (sym found_is ∙ e)

    turn : {d : ℕ} → found ≡ Ok d → Inv text words levels from to width start d (w + 1)
    turn {d} e =
        record {
          low = omega (arith, inv.low);
          wide = inv.wide;
          small = omega (arith, seek_le o c depth (64 * w) 64 (sym found_is ∙ e), inv.small, inv.low);
          so_far =
              inv.so_far ∙ ap (seek o c depth (64 * w)) parts ∙ seek_on o c depth (64 * w) 64 (64 * (to - (w + 1))) (sym found_is ∙ e)
              ∙ ap (λ (x : ℕ). seek o c d x (64 * (to - (w + 1)))) (omega arith);
        }

pub loop-w-init : goal.loop-w-init
unfolding seek_in
loop-w-init c = record { low = omega arith; wide = c.new-shape.ensures.wide; small = omega arith; so_far = refl }

pub block-b-requires : goal.block-b-requires
block-b-requires c = omega (arith, here c.requires c.loop-w.invariant c.loop-w-test.true)

pub word-mask-requires : goal.word-mask-requires
word-mask-requires c = rw c.new-shape.ensures.levels_kept (record { in_map = lent_map c.requires c.loop-w.invariant.wide Mask c.loop-w.w tt c.loop-w-test.true; words_len = lent_long c.requires c.loop-w.invariant.wide })

pub returns-in_err-depth : goal.returns-in_err-depth
returns-in_err-depth c =
    let e : c.from_residual.result ≡ Err c.in_err-depth.field-0.0 = search rules in
    e ∙ sym (stop c.requires c.loop-w.invariant c.loop-w-test.true (rw c.new-shape.ensures.levels_kept at c.word-mask.ensures) c.word-mask.type_inv (c.block-b.ensures c.table-t.ensures) c.seek_word.ensures c.in_err-depth.was)

pub loop-w-preserved : goal.loop-w-preserved
loop-w-preserved c = turn c.requires c.loop-w.invariant c.loop-w-test.true (rw c.new-shape.ensures.levels_kept at c.word-mask.ensures) c.word-mask.type_inv (c.block-b.ensures c.table-t.ensures) c.seek_word.ensures c.in_ok-depth.was

pub returns : goal.returns
unfolding seek
returns c = let none : 64 * (c.args.to - c.loop-w.w) ≡ 0 = omega arith in
    sym (c.loop-w.invariant.so_far ∙ ap (λ (n : ℕ). seek (plain (mask_in c.args.words.now c.args.levels (length c.args.text.now)) opens c.args.text.now) (plain (mask_in c.args.words.now c.args.levels (length c.args.text.now)) closes c.args.text.now) c.loop-w.depth (64 * c.loop-w.w) n) none)
