-- What a closed run over some bytes answers and leaves is what their first fault says, or that they have none; and what is answered in the front of
-- the words, check by check.
use Prim.Native.Nat.{ℕ, ◌≤◌}
use mathlib.Core.Path.{◌≡◌, refl, sym, ap, ap₂, ◌∙◌}
use mathlib.Core.Bool.{true, false}
use mathlib.Core.List.{List, [], ◌++◌}
use native.Mathlib.Omega.{arith}
use lib.ListN.{length, drop}
use borrow.Author.Tests.{eq-eqb, ne_eqb, le-ltb}
use Rattle.rules.specs.Faults.{Verdict, sound, faulty, fault_of}
use Rattle.rules.specs.Layout.{width_of, size_of}
use Rattle.chunks.specs.declared.scanning.Swept.{Swept}
use Rattle.chunks.specs.Sweeping.{scan_words, swept_of}
use Rattle.chunks.specs.Levels.{level_words}
use Rattle.index.specs.declared.Answer.{Answer}
use Rattle.index.specs.declared.Answer.TheVariants.{Done, Refused, Faulty}
use Rattle.index.specs.declared.Refusal.{Refusal}
use Rattle.index.specs.declared.Refusal.TheVariants.{Empty}
use Rattle.index.specs.declared.Fault.{Fault}
use Rattle.index.specs.declared.Fault.TheVariants.{Closer, Opener, InString, InBracket}
use Rattle.index.specs.Answers.{fault_number, fault_place}
use Rattle.index.specs.Opening.{first_bad, open_checks, opening}
use Rattle.index.specs.Closing.{unless_refused}
use Rattle.runs.specs.Runs.{ClosedRun}
use Rattle.runs.specs.Whole.{whole_answer, whole_words, plainly}
use Rattle.runs.proofs.Theorems.{sound_closes, faulty_closes}
use Rattle.runs.proofs.Whole.{whole_run}
use Rattle.runs.proofs.Plain.{plain_steps, plain_complete}
use Rattle.lines.specs.Jobs.{line_at, line_of, named_fault, of_verdict, verdict_words, front_checks, front_answer, front_words, numbered, line_answer, line_words, balanced, Indexable}
use Rattle.lines.specs.Lines.{End}
use Rattle.lines.specs.declared.LineAnswer.TheVariants as line
use Rattle.lines.proofs.FrontLaws.{made_index, balanced_sound}

-- a fault has one name for its number and its place
pub named : (f : Fault) → f ≡ named_fault (fault_number f) (fault_place f)
named (Closer p) = refl
named (Opener p) = refl
named (InString p) = refl
named (InBracket p) = refl

pub fault_range : (f : Fault) → (13 ≤ fault_number f) × (fault_number f ≤ 16)
fault_range (Closer p) = (omega arith, omega arith)
fault_range (Opener p) = (omega arith, omega arith)
fault_range (InString p) = (omega arith, omega arith)
fault_range (InBracket p) = (omega arith, omega arith)

module _ (bytes : List ℕ) (levels : ℕ) where
  -- an answer and words are those of the bytes' verdict
  abbrev pub Judged : Answer → List ℕ → Type 0
  Judged a after = (a ≡ of_verdict (fault_of bytes)) × (after ≡ verdict_words (fault_of bytes) bytes levels)

  -- all words scanned, found in balance, and levelled
  pub made_judged : (words scanned after : List ℕ) (width : ℕ) (swept : Swept) → width ≡ width_of (length bytes)
      → swept ≡ swept_of bytes 0 width false → scanned ≡ scan_words bytes levels 0 width false words → balanced swept.inside swept.swing ≡ true
      → after ≡ level_words bytes levels 0 width 0 scanned → Judged Done after
  made_judged words scanned after width swept w e f b g =
      let s : fault_of bytes ≡ sound = balanced_sound bytes (rw (← w, ← e) b) in
      rw s (refl, g ∙ rw (f, w) (made_index bytes levels words))

  pub run_judged : {a : Answer} {after : List ℕ} → ClosedRun bytes levels a after → Judged a after
  run_judged {a} {after} c = go (fault_of bytes) refl
    where
      go : (v : Verdict) → fault_of bytes ≡ v → Judged a after
      go sound s = let d = sound_closes s c in rw (s, d.0) (refl, d.1)
      go (faulty n p) s =
          let d = faulty_closes s c in
          rw s (d.1 ∙ ap Faulty (named d.0 ∙ ap₂ named_fault d.2 d.3), d.4)

  -- a whole run in the plain order, of one chunk
  module _ (words : List ℕ) (fits : Indexable bytes words levels) where
    opens : opening (length bytes) (length words) levels [] ≡ Done
    unfolding opening open_checks
    opens =
        rw (
          ne_eqb (length bytes) 0 (omega (arith, fits.some)),
          le-ltb 16777216 (length bytes) fits.small,
          ne_eqb levels 0 (omega (arith, fits.low)),
          le-ltb 16 levels fits.high,
          eq-eqb (length words) (size_of levels (length bytes)) fits.long,
          le-ltb (first_bad (length bytes) []) 0 (omega arith),
        )

    pub plain_judged : (a : Answer) (after : List ℕ) → a ≡ whole_answer bytes words levels [] (plainly 1) → after ≡ whole_words bytes words levels [] (plainly 1) → Judged a after
    plain_judged a after e f = rw (e, f) (run_judged (whole_run bytes levels [] words (plainly 1) opens (plain_steps 1) (plain_complete 1)))

  -- ---- in the front of the words

  module _ (words : List ℕ) where
    abbrev Left : Refusal → Type 0
    Left r = (Refused r ≡ front_answer bytes levels (length words)) × (words ≡ front_words bytes levels words)

    left : {r : Refusal} → front_answer bytes levels (length words) ≡ Refused r → Left r
    unfolding front_words
    left e = rw e (refl, refl)

    pub front_empty : length bytes ≡ 0 → Left Empty
    unfolding front_answer front_checks
    front_empty e = left (rw (eq-eqb (length bytes) 0 e))

    module _ (some : 1 ≤ length bytes) (small : length bytes ≤ 16777216) where
      module _ (low : 1 ≤ levels) (high : levels ≤ 16) where
        taken : size_of levels (length bytes) ≤ length words → front_answer bytes levels (length words) ≡ of_verdict (fault_of bytes)
        unfolding front_answer front_checks
        taken l = rw (ne_eqb (length bytes) 0 (omega arith), le-ltb 16777216 (length bytes) small, ne_eqb levels 0 (omega arith), le-ltb 16 levels high, le-ltb (length words) _ l)

        -- the front is the verdict's, and what lies behind it stays
        pub front_made : size_of levels (length bytes) ≤ length words → {a : Answer} {front : List ℕ} → Judged a front
            → (a ≡ front_answer bytes levels (length words)) × (front ++ drop (size_of levels (length bytes)) words ≡ front_words bytes levels words)
        unfolding front_words
        front_made l j = rw (taken l) (j.0, ap (λ (f : List ℕ). f ++ drop (size_of levels (length bytes)) words) j.1 ∙ sym (kept (fault_of bytes) _ _))
          where
            kept : (v : Verdict) (x y : List ℕ) → unless_refused (of_verdict v) x y ≡ x
            kept sound x y = refl
            kept (faulty n p) x y = refl

-- ---- of the line with number i

module _ (text table words : List ℕ) (i levels : ℕ) where
  pub line_nowhere : line_at (length text) table i ≡ End
      → (line.Refused Empty ≡ line_answer text table i levels (length words)) × (words ≡ line_words text table i levels words)
  unfolding line_of line_answer line_words
  line_nowhere e = let f = front_empty [] levels words refl in rw e (ap (numbered i) f.0, f.1)
