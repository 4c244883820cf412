-- Close: 7, 9 and 12 in this order, or the end of the job.
use Rattle.std.specs.Prelude.{ℕ, zero, suc, Bool, true, not, ◌&&◌, ◌||◌, List, [], ◌∷◌, length, replicate}
use Rattle.index.specs.declared.Refusal.TheVariants.{IsClosed, OtherLength, Early}
use Rattle.index.specs.declared.Answer.{Answer}
use Rattle.index.specs.declared.Answer.TheVariants.{Done, Refused, Faulty}
use Rattle.index.specs.declared.State.{State}
use Rattle.index.specs.declared.State.TheVariants.{Open, Stopped, Closed}
use Rattle.index.specs.declared.Job.{Job}
use Rattle.index.specs.declared.Handed.{Handed}
use Rattle.index.specs.Answers.{Check, checked}
use Rattle.index.specs.Checks.{chunks_of, chunk_at, is_closed, is_stopped, same_lengths, with_state}

-- the test holds of each number below m
unfoldable pub every : (ℕ → Bool) → ℕ → Bool
every p zero = true
every p (suc m) = every p m && p m

unfoldable pub all_levelled : Job → Bool
all_levelled j = every (λ k. (chunk_at j k).levelled) (chunks_of j)

-- "close checks 7, 9, 12"; it "is accepted when all chunks are levelled, or when the job is stopped"
unfoldable pub close_checks : Job → ℕ → ℕ → List Check
close_checks j n w =
    (is_closed j.state, IsClosed) ∷ (not (same_lengths j n w), OtherLength) ∷ (not (is_stopped j.state || all_levelled j), Early) ∷ []

-- "A stopped job's close answers its fault again"
abbrev pub fault_again : State → Answer
fault_again Open = Done
fault_again (Stopped f) = Faulty f
fault_again Closed = Done

unfoldable pub closing : Job → ℕ → ℕ → Answer
closing j n w = checked (close_checks j n w) (fault_again j.state)

abbrev pub unless_refused : {A : Type 0} → Answer → A → A → A
unless_refused Done taken left = taken
unless_refused (Refused r) taken left = left
unless_refused (Faulty f) taken left = taken

abbrev pub on_fault : {A : Type 0} → Answer → A → A → A
on_fault Done found none = none
on_fault (Refused r) found none = none
on_fault (Faulty f) found none = found

-- "Either way the job is then closed"
unfoldable pub closed : Job → ℕ → ℕ → Handed
closed j n w = record { answer = closing j n w; job = unless_refused (closing j n w) (with_state j Closed) j }

-- "sets all lent words to 0. Close of a job that is not stopped writes no word"
unfoldable pub closed_words : Job → ℕ → List ℕ → List ℕ
closed_words j n words = on_fault (closing j n (length words)) (replicate (length words) 0) words
