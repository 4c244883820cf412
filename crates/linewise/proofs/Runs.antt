-- A line's call and a run over the line's bytes have one outcome: both are the verdict's.
use Prim.Native.Nat.{ℕ, ◌<◌}
use mathlib.Core.Path.{◌≡◌, refl, sym, ap, ◌∙◌, subst}
use mathlib.Core.List.{List}
use mathlib.Core.Logic.{inl, inr, ◌↔◌}
use native.Mathlib.Omega.{arith}
use native.Mathlib.Nat.{lt_of_not-le}
use native.Mathlib.Decide.{dec_lt}
use lib.ListN.{length}
use lib.Seq.{take_at}
use borrow.Author.Tests.{lt-ltb, le-ltb}
use Rattle.rules.specs.Faults.{fault_of}
use Rattle.rules.specs.Layout.{size_of}
use Rattle.index.specs.declared.Answer.{Answer}
use Rattle.index.specs.declared.Answer.TheVariants.{Done, Refused, Faulty}
use Rattle.runs.specs.Runs.{ClosedRun}
use Rattle.runs.proofs.Theorems.{was_good}
use Rattle.lines.specs.Jobs.{line_of, verdict_words, front_checks, front_answer, numbered, line_answer, line_words}
use Rattle.lines.proofs.VerdictLaws.{run_judged, front_made}
use Rattle.linewise.specs.Answers.{Room, front_of, NotRefused, SameAnswer}
use Rattle.linewise.proofs.Answers.{length_verdict, line_front}

-- any closed run over a line's bytes, with any cuts, guesses and order, has that call's answer and front words
pub line_run : (text table words : List ℕ) (i levels : ℕ) {a : Answer} {after : List ℕ} → Room (line_of text table i) levels words → ClosedRun (line_of text table i) levels a after
    → (line_answer text table i levels (length words) ≡ numbered i a) × (front_of (line_of text table i) levels (line_words text table i levels words) ≡ after)
unfolding line_answer line_words
line_run text table words i levels {a} {after} room c =
    let bytes = line_of text table i in
    let g = (was_good c).shape in
    let j = run_judged bytes levels c in
    let f = front_made bytes levels words g.filled g.small g.some g.few room j in
    (ap (numbered i) (sym f.0), ap (front_of bytes levels) (sym f.1) ∙ take_at after _ _ (ap length j.1 ∙ length_verdict (fault_of bytes) bytes levels))

-- how long two buffers are does not matter, if both hold the words or neither does
room_alike : (bytes words more : List ℕ) (levels : ℕ) → (Room bytes levels words ↔ Room bytes levels more) → front_answer bytes levels (length words) ≡ front_answer bytes levels (length more)
unfolding front_answer front_checks
room_alike bytes words more levels r = go (dec_lt (length words) size)
  where
    size : ℕ
    size = size_of levels (length bytes)

    go : Dec (length words < size) → front_answer bytes levels (length words) ≡ front_answer bytes levels (length more)
    go (yes l) = rw (lt-ltb (length words) size l, lt-ltb (length more) size (lt_of_not-le (λ h. omega (arith, l, r.1 h))))
    go (no l) = rw (le-ltb (length words) size (omega (arith, l)), le-ltb (length more) size (r.0 (omega (arith, l))))

-- nor does the line's number
number_alike : (a : Answer) (i j : ℕ) → SameAnswer (numbered i a) (numbered j a)
number_alike Done i j = (refl, refl)
number_alike (Refused x) i j = (refl, refl)
number_alike (Faulty f) i j = (refl, refl)

alike : (text table words : List ℕ) (i : ℕ) (other also more : List ℕ) (j levels : ℕ) → line_of text table i ≡ line_of other also j
    → (Room (line_of text table i) levels words ↔ Room (line_of other also j) levels more)
    → SameAnswer (line_answer text table i levels (length words)) (line_answer other also j levels (length more))
unfolding line_answer
alike text table words i other also more j levels same room =
    let e : front_answer (line_of text table i) levels (length words) ≡ front_answer (line_of other also j) levels (length more) =
    rw same (room_alike (line_of other also j) words more levels (subst (λ (b : List ℕ). Room b levels words ↔ Room (line_of other also j) levels more) same room)) in
    rw e (number_alike (front_answer (line_of other also j) levels (length more)) i j)

-- the same bytes of a line in any two texts, tables and buffers give the same answer, where both buffers hold its words or neither does; and the same
-- front
pub line_alone : (text table words : List ℕ) (i : ℕ) (other also more : List ℕ) (j levels : ℕ) → line_of text table i ≡ line_of other also j
    → (Room (line_of text table i) levels words ↔ Room (line_of other also j) levels more)
    → SameAnswer (line_answer text table i levels (length words)) (line_answer other also j levels (length more))
    × (NotRefused (line_answer text table i levels (length words)) → front_of (line_of text table i) levels (line_words text table i levels words) ≡ front_of (line_of other also j) levels (line_words other also j levels more))
line_alone text table words i other also more j levels same room =
    (answers, λ t. line_front text table words i levels t ∙ ap (λ (b : List ℕ). verdict_words (fault_of b) b levels) same ∙ sym (line_front other also more j levels (taken t)))
  where
    answers : SameAnswer (line_answer text table i levels (length words)) (line_answer other also j levels (length more))
    answers = alike text table words i other also more j levels same room

    taken : NotRefused (line_answer text table i levels (length words)) → NotRefused (line_answer other also j levels (length more))
    taken (inl q) = inl (sym answers.0 ∙ q)
    taken (inr q) = inr (rw (← answers.0) q)
