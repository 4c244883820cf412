-- No theorem about nothing: every accepted opening leads to a closed run, over a sound record to one that closes Done; and over a small record
-- of two chunks, with a string over their border, an opening is accepted.
use mathlib.Core.Path.{◌≡◌, refl, sym, ◌∙◌}
use mathlib.Core.List.{List, [], ◌∷◌, ◌++◌}
use Prim.Native.Nat.{ℕ}
use lib.ListN.{length, replicate}
use Rattle.rules.specs.Word.{odd, count}
use Rattle.rules.specs.Bytes.{is, has}
use Rattle.rules.specs.Bits.{run_before, escaped, quote_bit, in_string, mask_bit, plain, opener, closer, at_depth}
use Rattle.rules.specs.Faults.{sound, closes_none, opens_over, at_end, fault_from, fault_of}
use Rattle.rules.specs.Layout.{width_of, size_of}
use Rattle.index.specs.declared.Answer.{Answer}
use Rattle.index.specs.declared.Answer.TheVariants.{Done}
use Rattle.index.specs.Types.{Closed}
use Rattle.index.specs.Opening.{not_above, bad_cut, first, first_bad, open_checks, opening}
use Rattle.runs.specs.Runs.{Call, close, answer, act, run, start, Reached, Ends, ClosedRun}
use Rattle.runs.proofs.Opening.{opened_good}
use Rattle.runs.proofs.Theorems.{sound_faulty, fault_named}
use Rattle.runs.proofs.Progress.{can_close}

module _ (text : List ℕ) (levels : ℕ) (cuts words : List ℕ) (e : opening (length text) (length words) levels cuts ≡ Done) where
  ran : (cs : List Call) → Reached text levels (run text cs (start text levels cuts words))
  ran cs = record { cuts = cuts; words = words; calls = cs; accepted = e; leads = refl }

  live : (start text levels cuts words).job.state ≡ Closed → ⊥
  unfolding start
  live = (opened_good text levels cuts words e).live

  pub some_run : (a : Answer) × ((after : List ℕ) × ClosedRun text levels a after)
  unfolding run
  some_run =
      let c = can_close (ran []) live in
      let h = run text c.0 (start text levels cuts words) in
      (answer text close h, ((act text close h).words, record { before = h; reached = ran c.0; answers = refl; ends = c.1; leaves = refl }))

  pub sound_run : fault_of text ≡ sound → (after : List ℕ) × ClosedRun text levels Done after
  sound_run s = go some_run.0 some_run.1.1.ends some_run.1
    where
      go : (a : Answer) → Ends a → (after : List ℕ) × ClosedRun text levels a after → (after : List ℕ) × ClosedRun text levels Done after
      go a Ends.done c = c
      go a (Ends.fault f) c = sound_faulty f (sym s ∙ fault_named c.1)

-- 63 blanks and an empty string, whose quotes stand on both sides of the border
pub over_border : List ℕ
over_border = replicate 63 32 ++ (34 ∷ 34 ∷ [])

lawful : opening (length over_border) 8 1 (64 ∷ []) ≡ Done
unfolding over_border opening open_checks first_bad first bad_cut not_above size_of width_of
lawful = refl

is_sound : fault_of over_border ≡ sound
unfolding over_border odd count is has run_before escaped quote_bit in_string mask_bit plain opener closer at_depth closes_none opens_over at_end fault_from fault_of
is_sound = refl

pub example : (after : List ℕ) × ClosedRun over_border 1 Done after
example = sound_run over_border 1 (64 ∷ []) (replicate 8 0) lawful is_sound
