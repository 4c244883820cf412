-- A whole run: an opening, calls one after the other, and the close. The plain order of calls, and calls that leave no step out.
use Rattle.std.specs.Prelude.{ℕ, zero, suc, ◌<◌, ◌≡◌, Bool, true, false, ◌&&◌, ◌||◌, List, [], ◌∷◌, ◌++◌, length, eqb}
use Rattle.index.specs.declared.Answer.{Answer}
use Rattle.index.specs.declared.Job.{Job}
use Rattle.index.specs.Answers.{on_done}
use Rattle.index.specs.Opening.{opening}
use Rattle.runs.specs.Runs.{Call, scan, settle, level, close, Held, answer, act, run, start, ClosedRun}

abbrev pub held : Job → List ℕ → Held
held job words = record { job = job; words = words }

-- what it answers: the refusal of its opening, or the answer of its close
unfoldable pub whole_answer : List ℕ → List ℕ → ℕ → List ℕ → List Call → Answer
whole_answer text words levels cuts calls =
    let a = opening (length text) (length words) levels cuts in
    on_done a (answer text close (run text calls (start text levels cuts words))) a

-- and the words that it leaves
unfoldable pub whole_words : List ℕ → List ℕ → ℕ → List ℕ → List Call → List ℕ
whole_words text words levels cuts calls =
    on_done (opening (length text) (length words) levels cuts) (act text close (run text calls (start text levels cuts words))).words words

-- it was closed
abbrev pub WholeRun : List ℕ → List ℕ → ℕ → List ℕ → List Call → Type 0
WholeRun text words levels cuts calls = ClosedRun text levels (whole_answer text words levels cuts calls) (whole_words text words levels cuts calls)

-- ---- the plain order

-- "scans from the last chunk to the first with the guess 'outside'"
unfoldable pub scans : ℕ → List Call
scans zero = []
scans (suc k) = scan k false ∷ scans k

-- settle and level of so many chunks from k on
unfoldable pub finishes : ℕ → ℕ → List Call
finishes k zero = []
finishes k (suc left) = settle k ∷ level k ∷ finishes (suc k) left

-- every chunk scanned, then each settled and levelled
abbrev pub plainly : ℕ → List Call
plainly chunks = scans chunks ++ finishes 0 chunks

-- ---- calls that leave no step out

-- the steps that the chunks have had
pub record Tally : Type 0 where
  pub scanned : ℕ → Bool
  pub settled : ℕ → Bool
  pub levelled : ℕ → Bool

abbrev pub no_steps : Tally
no_steps = record { scanned = λ i. false; settled = λ i. false; levelled = λ i. false }

-- settle "once the chunk is scanned and the chunk before it, if any, is settled"
abbrev pub settle_in_time : Tally → ℕ → Bool
settle_in_time t zero = t.scanned zero
settle_in_time t (suc k) = t.scanned (suc k) && t.settled k

-- chunk k has it now, too, if it was called in its time
abbrev pub and_now : (ℕ → Bool) → ℕ → Bool → ℕ → Bool
and_now had k inTime i = had i || (eqb i k && inTime)

-- a call too early is refused and changes nothing, and so is one of a step that was taken
abbrev pub counted : Call → Tally → Tally
counted (scan k g) t = record { scanned = and_now t.scanned k true; settled = t.settled; levelled = t.levelled }
counted (settle k) t = record { scanned = t.scanned; settled = and_now t.settled k (settle_in_time t k); levelled = t.levelled }
counted (level k) t = record { scanned = t.scanned; settled = t.settled; levelled = and_now t.levelled k (t.settled k) }
counted close t = t

unfoldable pub tally : List Call → Tally → Tally
tally [] t = t
tally (c ∷ cs) t = tally cs (counted c t)

abbrev pub is_step : Call → Bool
is_step (scan k g) = true
is_step (settle k) = true
is_step (level k) = true
is_step close = false

-- no close among them
unfoldable pub steps_alone : List Call → Bool
steps_alone [] = true
steps_alone (c ∷ cs) = is_step c && steps_alone cs

-- no step of so many chunks is left out: each is levelled, which comes last
abbrev pub LeavesNoneOut : ℕ → List Call → Type 0
LeavesNoneOut chunks calls = (k : ℕ) → k < chunks → (tally calls no_steps).levelled k ≡ true
