-- A turn of a loop is a call of the run: what is left to run from here gives what all gave from the start.
use Prim.Native.Nat.{ℕ, suc, ◌+◌, ◌-◌, ◌≤◌, ◌<◌}
use mathlib.Core.Path.{◌≡◌, ap, ◌∙◌}
use mathlib.Core.Bool.{Bool, false}
use mathlib.Core.List.{List}
use native.Mathlib.Omega.{arith}
use native.Mathlib.Numerals.{add-one}
use lib.ListN.{length, get_or, drop, drop_of_length-le}
use lib.Seq.{drop-cons}
use Rattle.index.specs.declared.Job.{Job}
use Rattle.index.specs.declared.Handed.{Handed}
use Rattle.index.specs.Outcomes.{ScanGives, SettleGives, LevelGives}
use Rattle.runs.specs.Runs.{scan, settle, level, act, run}
use Rattle.runs.specs.Whole.{held, scans, finishes}
use Rattle.whole.specs.Calls.{call_of, calls_of}

module _ (text words after : List ℕ) (j : Job) (h : Handed) (k : ℕ) where
  pub scan_acts : (g : Bool) → ScanGives j text words k g h after → held h.job after ≡ act text (scan k g) (held j words)
  unfolding act
  scan_acts g e = rw (e.hands, e.leaves)

  pub settle_acts : SettleGives j text words k h after → held h.job after ≡ act text (settle k) (held j words)
  unfolding act
  settle_acts e = rw (e.hands, e.leaves)

  pub level_acts : LevelGives j text words k h after → held h.job after ≡ act text (level k) (held j words)
  unfolding act
  level_acts e = rw (e.hands, e.leaves)

-- ---- a turn of each loop

pub call_turn : (text words after calls : List ℕ) (j next : Job) (i : ℕ) → i < length calls
    → held next after ≡ act text (call_of (get_or calls i 0)) (held j words)
    → run text (calls_of (drop (i + 1) calls)) (held next after) ≡ run text (calls_of (drop i calls)) (held j words)
unfolding run calls_of
call_turn text words after calls j next i l e = rw (add-one, drop-cons calls i 0 l) (ap (run text (calls_of (drop (suc i) calls))) e)

pub scan_turn : (text words after : List ℕ) (j : Job) (h : Handed) (k : ℕ) → 0 < k
    → ScanGives j text words (k - 1) false h after
    → run text (scans (k - 1)) (held h.job after) ≡ run text (scans k) (held j words)
unfolding scans run
scan_turn text words after j h k l e =
    let count : suc (k - 1) ≡ k = omega arith in
    ap (run text (scans (k - 1))) (scan_acts text words after j h (k - 1) false e) ∙ ap (λ (n : ℕ). run text (scans n) (held j words)) count

pub finish_turn : (text words between after : List ℕ) (j : Job) (s h : Handed) (k chunks : ℕ) → k < chunks
    → SettleGives j text words k s between → LevelGives s.job text between k h after
    → run text (finishes (k + 1) (chunks - (k + 1))) (held h.job after) ≡ run text (finishes k (chunks - k)) (held j words)
unfolding finishes run
finish_turn text words between after j s h k chunks l es eh =
    let count : suc (chunks - suc k) ≡ chunks - k = omega arith in
    rw add-one
    (ap (run text (finishes (suc k) (chunks - suc k))) (level_acts text between after s.job h k eh ∙ ap (act text (level k)) (settle_acts text words between j s k es))
    ∙ ap (λ (n : ℕ). run text (finishes k n) (held j words)) count)

-- no call is left
pub calls_done : (text words calls : List ℕ) (j : Job) (i : ℕ) → length calls ≤ i → run text (calls_of (drop i calls)) (held j words) ≡ held j words
unfolding calls_of run
calls_done text words calls j i l = rw (drop_of_length-le calls {i = i} l)

pub scans_done : (text words : List ℕ) (j : Job) (k : ℕ) → k ≡ 0 → run text (scans k) (held j words) ≡ held j words
unfolding scans run
scans_done text words j k e = rw e

pub finishes_done : (text words : List ℕ) (j : Job) (k left : ℕ) → left ≡ 0 → run text (finishes k left) (held j words) ≡ held j words
unfolding finishes run
finishes_done text words j k left e = rw e
