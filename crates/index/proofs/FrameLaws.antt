-- Which words each step may write, whatever the job, the record and the words. (Close: `close_words` of NumberLaws.)
-- A refused step leaves the words; an accepted one rewrites a stretch of each of its bitmaps, and what lies outside is as it was.
use mathlib.Core.Path.{◌≡◌, refl, sym, ◌∙◌}
use mathlib.Core.Bool.{Bool, true, false}
use mathlib.Core.List.{List}
use Prim.Native.Nat.{ℕ, ◌<◌}
use native.Mathlib.Omega.{arith}
use lib.ListN.{length}
use Rattle.rules.specs.Word.{pick}
use Rattle.rules.specs.Layout.{Bitmap, quotes, mask, colons, commas, width_of, size_of, cell}
use Rattle.rules.proofs.LayoutLaws.{laid_cells}
use Rattle.index.specs.declared.Answer.{Answer}
use Rattle.index.specs.declared.Answer.TheVariants.{Done, Refused, Faulty}
use Rattle.index.specs.declared.Step.{Step}
use Rattle.index.specs.declared.Step.TheVariants.{Scan, Settle, Level}
use Rattle.index.specs.declared.Job.{Job}
use Rattle.index.specs.Answers.{on_done}
use Rattle.index.specs.Checks.{span_of, refusal}
use Rattle.chunks.specs.Writing.{over, rewritten, marks_till, levels_till}
use Rattle.chunks.specs.Sweeping.{scan_words}
use Rattle.index.specs.Scanning.{scanned_words}
use Rattle.chunks.specs.Flipping.{flip_words}
use Rattle.index.specs.Settling.{guess_wrong, settle_words, settled_words}
use Rattle.chunks.specs.Levels.{level_words}
use Rattle.index.specs.Levelling.{levelled_words}
use Rattle.index.specs.Frames.{writes, Frame}
use Rattle.chunks.proofs.WriteLaws.{over_out}
use Rattle.index.proofs.StepLaws.{fitted}

module _ (s : Step) (j : Job) (n k : ℕ) (words : List ℕ) where
  pub frame_none : Frame s j n k words words
  frame_none = record { long = refl; others = λ b h w l m. refl }

  -- words rewritten up to limits that say what the step may write
  frame_rewritten : (till : Bitmap → ℕ) (f : Bitmap → ℕ → ℕ) → length words ≡ size_of j.levels n → ((b : Bitmap) (w : ℕ) → w < till b → (writes s b ≡ true) × (w < (span_of j n k).to))
      → Frame s j n k words (rewritten j.levels (width_of n) till (span_of j n k).from f words)
  unfolding rewritten size_of
  frame_rewritten till f e own =
      let c = laid_cells j.levels (width_of n) (over till (span_of j n k).from f (cell words j.levels (width_of n))) in
      record {
        long = c.long ∙ sym e;
        others = λ b h w l m. c.holds b h w l ∙ over_out till _ f _ b w (λ p q. let o = own b w q in m (record { bitmap = o.0; begun = p; before_end = o.1 }));
      }

  -- by its answer
  frame_of : (after : List ℕ) → (refusal s j n (length words) k ≡ Done → Frame s j n k words after) → Frame s j n k words (on_done (refusal s j n (length words) k) after words)
  frame_of after done = go (refusal s j n (length words) k) refl
    where
      go : (a : Answer) → refusal s j n (length words) k ≡ a → Frame s j n k words (on_done a after words)
      go Done e = done e
      go (Refused r) e = frame_none
      go (Faulty f) e = frame_none

-- ---- the limits of each step

scan_own : (to : ℕ) (b : Bitmap) (w : ℕ) → w < marks_till to to b → (writes Scan b ≡ true) × (w < to)
unfolding marks_till
scan_own to quotes w l = (refl, l)
scan_own to mask w l = (refl, l)
scan_own to (colons k) w l = absurd (omega arith)
scan_own to (commas k) w l = absurd (omega arith)

settle_own : (to : ℕ) (b : Bitmap) (w : ℕ) → w < marks_till 0 to b → (writes Settle b ≡ true) × (w < to)
unfolding marks_till
settle_own to quotes w l = absurd (omega arith)
settle_own to mask w l = (refl, l)
settle_own to (colons k) w l = absurd (omega arith)
settle_own to (commas k) w l = absurd (omega arith)

level_own : (to : ℕ) (b : Bitmap) (w : ℕ) → w < levels_till to b → (writes Level b ≡ true) × (w < to)
unfolding levels_till
level_own to quotes w l = absurd (omega arith)
level_own to mask w l = absurd (omega arith)
level_own to (colons k) w l = (refl, l)
level_own to (commas k) w l = (refl, l)

-- ---- the steps

module _ (j : Job) (text words : List ℕ) (k : ℕ) where
  pub scan_frame : (g : Bool) → Frame Scan j (length text) k words (scanned_words j text words k g)
  unfolding scanned_words scan_words
  scan_frame g =
      frame_of Scan j (length text) k words _
      (λ e. frame_rewritten Scan j (length text) k words _ _ (fitted Scan j _ _ k e).total (scan_own _))

  pub settle_frame : Frame Settle j (length text) k words (settled_words j text words k)
  unfolding settled_words settle_words flip_words
  settle_frame = frame_of Settle j (length text) k words _ (λ e. go (guess_wrong j k) (fitted Settle j _ _ k e).total)
    where
      go : (b : Bool) → length words ≡ size_of j.levels (length text)
          → Frame Settle j (length text) k words (pick b (flip_words (length text) j.levels (span_of j (length text) k).from (span_of j (length text) k).to words) words)
      go true e = frame_rewritten Settle j (length text) k words _ _ e (settle_own _)
      go false e = frame_none Settle j (length text) k words

  pub level_frame : Frame Level j (length text) k words (levelled_words j text words k)
  unfolding levelled_words level_words
  level_frame =
      frame_of Level j (length text) k words _
      (λ e. frame_rewritten Level j (length text) k words _ _ (fitted Level j _ _ k e).total (level_own _))
