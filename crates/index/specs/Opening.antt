-- Opening: 1 to 6 in this order, or the open job.
use Rattle.std.specs.Prelude.{ℕ, zero, suc, ◌+◌, ◌%◌, Bool, false, not, ◌||◌, List, [], ◌∷◌, length, get_or, set, replicate, eqb, ltb, leb}
use Rattle.rules.specs.Word.{pick}
use Rattle.rules.specs.Layout.{size_of}
use Rattle.index.specs.declared.Refusal.TheVariants.{Empty, TooLong, BadLevels, BadBuffer, ManyCuts, BadCut}
use Rattle.index.specs.declared.Answer.{Answer}
use Rattle.index.specs.declared.Answer.TheVariants.{Done}
use Rattle.index.specs.declared.State.TheVariants.{Open, Closed}
use Rattle.index.specs.declared.Chunk.{Chunk}
use Rattle.index.specs.declared.Job.{Job}
use Rattle.index.specs.declared.Handed.{Handed}
use Rattle.index.specs.Answers.{Check, checked, on_done}
use Rattle.index.specs.Checks.{fresh}

-- "not above the one before": the first has none before it
unfoldable pub not_above : List ℕ → ℕ → Bool
not_above cuts zero = false
not_above cuts (suc i) = leb (get_or cuts (suc i) 0) (get_or cuts i 0)

-- "a cut is no multiple of 64, or 0, or n or more, or not above the one before"
unfoldable pub bad_cut : ℕ → List ℕ → ℕ → Bool
bad_cut n cuts i = not (eqb (get_or cuts i 0 % 64) 0) || eqb (get_or cuts i 0) 0 || leb n (get_or cuts i 0) || not_above cuts i

-- the first number from i on, of so many, of which the test holds; else the one behind them
unfoldable pub first : (ℕ → Bool) → ℕ → ℕ → ℕ
first p i zero = i
first p i (suc left) = pick (p i) i (first p (suc i) left)

-- "number of the first such cut, from 0"; the number of cuts where there is none
unfoldable pub first_bad : ℕ → List ℕ → ℕ
first_bad n cuts = first (bad_cut n cuts) 0 (length cuts)

-- "Opening checks 1 to 6 in that order": n bytes, w words, and 1 to 16 levels
unfoldable pub open_checks : ℕ → ℕ → ℕ → List ℕ → List Check
open_checks n w levels cuts =
    (eqb n 0, Empty)
    ∷ (ltb 16777216 n, TooLong)
    ∷ (eqb levels 0 || ltb 16 levels, BadLevels)
    ∷ (not (eqb w (size_of levels n)), BadBuffer)
    ∷ (ltb 63 (length cuts), ManyCuts)
    ∷ (ltb (first_bad n cuts) (length cuts), BadCut (first_bad n cuts))
    ∷ []

unfoldable pub opening : ℕ → ℕ → ℕ → List ℕ → Answer
opening n w levels cuts = checked (open_checks n w levels cuts) Done

-- 64 chunks at 0
unfoldable pub blank : List Chunk
blank = replicate 64 (fresh 0)

-- of which the first so many behind chunk 0 begin at the cuts
unfoldable pub cut_up_to : List ℕ → ℕ → List Chunk
cut_up_to cuts zero = blank
cut_up_to cuts (suc i) = set (cut_up_to cuts i) (suc i) (fresh (get_or cuts i 0))

-- "a closed job without chunks"
abbrev pub no_job : Job
no_job = record { n = 0; levels = 0; count = 0; state = Closed; chunks = blank }

-- "c cuts make c + 1 chunks, numbered from 0"
abbrev pub open_job : ℕ → ℕ → List ℕ → Job
open_job n levels cuts = record { n = n; levels = levels; count = length cuts + 1; state = Open; chunks = cut_up_to cuts (length cuts) }

unfoldable pub opened : ℕ → ℕ → ℕ → List ℕ → Handed
opened n w levels cuts =
    record { answer = opening n w levels cuts; job = on_done (opening n w levels cuts) (open_job n levels cuts) no_job }
