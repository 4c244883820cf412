-- Close, test by test.
use mathlib.Core.Path.{◌≡◌}
use mathlib.Core.Bool.{true, false}
use mathlib.Core.List.{List}
use Prim.Native.Nat.{ℕ}
use lib.ListN.{length, replicate}
use Rattle.index.specs.declared.Fault.{Fault}
use Rattle.index.specs.declared.Refusal.TheVariants.{IsClosed, OtherLength, Early}
use Rattle.index.specs.declared.Answer.{Answer}
use Rattle.index.specs.declared.Answer.TheVariants.{Done, Refused, Faulty}
use Rattle.index.specs.declared.State.{State}
use Rattle.index.specs.declared.State.TheVariants.{Open, Stopped, Closed}
use Rattle.index.specs.declared.Job.{Job}
use Rattle.index.specs.Checks.{same_lengths, with_state}
use Rattle.index.specs.Closing.{all_levelled, close_checks, fault_again, closing, unless_refused, on_fault, closed, closed_words}
use Rattle.index.proofs.AnswerLaws.{handed}
use Rattle.index.proofs.CheckLaws.{state_closed, state_stopped, state_open}

-- ---- the answer

again : (s t : State) → s ≡ t → fault_again s ≡ fault_again t
again s t e = rw e

module _ (j : Job) (n w : ℕ) where
  pub closing_closed : j.state ≡ Closed → closing j n w ≡ Refused IsClosed
  unfolding closing close_checks
  closing_closed e = simp (state_closed _ e)

  module _ (f : Fault) (e : j.state ≡ Stopped f) where
    pub stopped_other : same_lengths j n w ≡ false → closing j n w ≡ Refused OtherLength
    unfolding closing close_checks
    stopped_other a = let t = state_stopped _ f e in simp (t.0, a)

    pub stopped_fault : same_lengths j n w ≡ true → closing j n w ≡ Faulty f
    unfolding closing close_checks
    stopped_fault a = let t = state_stopped _ f e in simp (t.0, a, t.1) (again _ _ e)

  module _ (e : j.state ≡ Open) where
    pub closing_other : same_lengths j n w ≡ false → closing j n w ≡ Refused OtherLength
    unfolding closing close_checks
    closing_other a = let t = state_open _ e in simp (t.0, a)

    module _ (a : same_lengths j n w ≡ true) where
      pub closing_early : all_levelled j ≡ false → closing j n w ≡ Refused Early
      unfolding closing close_checks
      closing_early b = let t = state_open _ e in simp (t.0, a, t.1, b)

      pub closing_done : all_levelled j ≡ true → closing j n w ≡ Done
      unfolding closing close_checks
      closing_done b = let t = state_open _ e in simp (t.0, a, t.1, b) (again _ _ e)

-- ---- what it hands back and leaves, by its answer

module _ (j : Job) (n : ℕ) (words : List ℕ) (a : Answer) (e : closing j n (length words) ≡ a) where
  pub close_is : (handed a (unless_refused a (with_state j Closed) j) ≡ closed j n (length words)) × (on_fault a (replicate (length words) 0) words ≡ closed_words j n words)
  unfolding closed closed_words
  close_is = (rw e, rw e)
