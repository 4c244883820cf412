-- What a foreign caller hears of a record, by the record and the rules: a call is a whole run, and the theorems about those speak of it.
use Prim.Native.Nat.{ℕ, ◌+◌, ◌≤◌, ◌%◌, ◌/◌}
use mathlib.Core.Path.{◌≡◌, refl, sym, ap, ◌∙◌, subst}
use mathlib.Core.Bool.{Bool, true, false, ◌&&◌}
use mathlib.Core.Logic.{◌⊎◌, inl, inr, ◌↔◌}
use mathlib.Core.List.{List, [], ◌∷◌}
use native.Mathlib.Omega.{arith}
use lib.ListN.{length, replicate}
use lib.Dec.{eqb, leb}
use borrow.Author.Tests.{leb-true}
use Rattle.rules.specs.Word.{pick}
use Rattle.rules.specs.Faults.{sound, faulty, fault_of}
use Rattle.rules.specs.Layout.{size_of, index}
use Rattle.rules.proofs.Booleans.{impossible}
use Rattle.index.specs.declared.Answer.{Answer}
use Rattle.index.specs.declared.Answer.TheVariants.{Done, Refused, Faulty}
use Rattle.index.specs.declared.Refusal.TheVariants.{Early}
use Rattle.index.specs.Answers.{refusal_number, number_of, place_of, Check, checked, on_done}
use Rattle.index.specs.Opening.{open_checks, opening}
use Rattle.index.proofs.AnswerLaws.{done_other}
use Rattle.runs.specs.Runs.{Call, scan, settle, level, Ends}
use Rattle.runs.specs.Whole.{whole_answer, whole_words, WholeRun, plainly, steps_alone, LeavesNoneOut}
use Rattle.runs.proofs.Steps.{both}
use Rattle.runs.proofs.Theorems.{one_outcome, sound_closes}
use Rattle.runs.proofs.Whole.{closed_or_early, done_exactly, whole_run, whole_sound, whole_faulty}
use Rattle.runs.proofs.Plain.{plain_steps, plain_complete}
use Rattle.whole.specs.Calls.{call_of, calls_of}
use Rattle.lines.proofs.VerdictLaws.{fault_range}
use Rattle.face.specs.Outcomes.{RunTells, TableTells, LineTells, NextTells}

-- a byte is a step, never a close
pub bytes_steps : (calls : List ℕ) → steps_alone (calls_of calls) ≡ true
unfolding steps_alone calls_of call_of
bytes_steps [] = refl
bytes_steps (c ∷ cs) = go (eqb (c % 4) 0) (eqb (c % 4) 1) (eqb (c % 4) 2) (bytes_steps cs)
  where
    go : (x y z : Bool) → steps_alone (calls_of cs) ≡ true → steps_alone (pick x (scan (c / 4) false) (pick y (scan (c / 4) true) (pick z (settle (c / 4)) (level (c / 4)))) ∷ calls_of cs) ≡ true
    go true y z e = e
    go false true z e = e
    go false false true e = e
    go false false false e = e

-- the contract allows one outcome
pub run_one : {text words cuts after then : List ℕ} {levels n m p q : ℕ} {calls : List Call} → RunTells text words levels cuts calls n p after → RunTells text words levels cuts calls m q then
    → (n ≡ m) × (p ≡ q) × (after ≡ then)
run_one t u = (t.number_is ∙ sym u.number_is, t.place_is ∙ sym u.place_is, t.words_are ∙ sym u.words_are)

pub table_told : {text table after then : List ℕ} {n m p q : ℕ} → TableTells text table n p after → TableTells text table m q then → (n ≡ m) × (p ≡ q) × (after ≡ then)
table_told t u = (t.number_is ∙ sym u.number_is, t.count_is ∙ sym u.count_is, t.table_is ∙ sym u.table_is)

pub line_told : {text table words after then : List ℕ} {line levels n m p q : ℕ} → LineTells text table line levels words n p after → LineTells text table line levels words m q then
    → (n ≡ m) × (p ≡ q) × (after ≡ then)
line_told t u = (t.number_is ∙ sym u.number_is, t.place_is ∙ sym u.place_is, t.words_are ∙ sym u.words_are)

pub next_told : {text : List ℕ} {from n m p q a b : ℕ} → NextTells text from n p a → NextTells text from m q b → (n ≡ m) × (p ≡ q) × (a ≡ b)
next_told t u = (t.some_is ∙ sym u.some_is, t.start_is ∙ sym u.start_is, t.end_is ∙ sym u.end_is)

module _ (text words : List ℕ) (levels : ℕ) (cuts : List ℕ) where
  module _ (calls : List Call) {number place : ℕ} {after : List ℕ} (tells : RunTells text words levels cuts calls number place after) where
    -- a refused opening: its number and value, and the words unchanged
    pub run_refused : (opening (length text) (length words) levels cuts ≡ Done → ⊥)
        → (number ≡ number_of (opening (length text) (length words) levels cuts)) × (place ≡ place_of (opening (length text) (length words) levels cuts)) × (after ≡ words)
    unfolding whole_answer whole_words
    run_refused n = (tells.number_is ∙ ap number_of (kept _ _ _ n), tells.place_is ∙ ap place_of (kept _ _ _ n), tells.words_are ∙ kept _ _ _ n)
      where
        kept : {A : Type 0} (a : Answer) (done other : A) → (a ≡ Done → ⊥) → on_done a done other ≡ other
        kept Done d o n = absurd (n refl)
        kept (Refused r) d o n = refl
        kept (Faulty f) d o n = refl

    module _ (accepted : opening (length text) (length words) levels cuts ≡ Done) (alone : steps_alone calls ≡ true) (none : LeavesNoneOut (length cuts + 1) calls) where
      none_sound : fault_of text ≡ sound → (number ≡ 0) × (place ≡ 0) × (after ≡ index text levels)
      none_sound s =
          let w = whole_sound text levels cuts words calls accepted alone none s in
          (tells.number_is ∙ ap number_of w.0, tells.place_is ∙ ap place_of w.0, tells.words_are ∙ w.1)

      none_faulty : {n p : ℕ} → fault_of text ≡ faulty n p → (number ≡ n) × (place ≡ p) × (after ≡ replicate (size_of levels (length text)) 0)
      none_faulty s =
          let w = whole_faulty text levels cuts words calls accepted alone none s in
          (tells.number_is ∙ w.0, tells.place_is ∙ w.1, tells.words_are ∙ w.2)

  module _ (accepted : opening (length text) (length words) levels cuts ≡ Done) {number place : ℕ} {after : List ℕ} where
    -- wararish_run, by calls that leave no step out
    module _ (calls : List ℕ) (none : LeavesNoneOut (length cuts + 1) (calls_of calls)) (tells : RunTells text words levels cuts (calls_of calls) number place after) where
      -- over a sound record: 0 and the index
      pub run_sound : fault_of text ≡ sound → (number ≡ 0) × (place ≡ 0) × (after ≡ index text levels)
      run_sound = none_sound (calls_of calls) tells accepted (bytes_steps calls) none

      -- over a faulty one: its first fault and zeros
      pub run_faulty : {n p : ℕ} → fault_of text ≡ faulty n p → (number ≡ n) × (place ≡ p) × (after ≡ replicate (size_of levels (length text)) 0)
      run_faulty = none_faulty (calls_of calls) tells accepted (bytes_steps calls) none

    -- wararish_index, which leaves none out
    module _ (tells : RunTells text words levels cuts (plainly (length cuts + 1)) number place after) where
      pub index_sound : fault_of text ≡ sound → (number ≡ 0) × (place ≡ 0) × (after ≡ index text levels)
      index_sound = none_sound (plainly (length cuts + 1)) tells accepted (plain_steps (length cuts + 1)) (plain_complete (length cuts + 1))

      pub index_faulty : {n p : ℕ} → fault_of text ≡ faulty n p → (number ≡ n) × (place ≡ p) × (after ≡ replicate (size_of levels (length text)) 0)
      index_faulty = none_faulty (plainly (length cuts + 1)) tells accepted (plain_steps (length cuts + 1)) (plain_complete (length cuts + 1))

-- ---- which numbers there are

lows : List Check → Bool
lows [] = true
lows (c ∷ later) = leb (refusal_number c.1) 6 && lows later

checked_low : (cs : List Check) → lows cs ≡ true → number_of (checked cs Done) ≤ 6
unfolding lows
checked_low [] t = omega arith
checked_low (c ∷ later) t =
    let two = both (leb (refusal_number c.1) 6) (lows later) t in
    go c.0 (leb-true _ _ two.0) (checked_low later two.1)
  where
    go : (b : Bool) → refusal_number c.1 ≤ 6 → number_of (checked later Done) ≤ 6 → number_of (pick b (Refused c.1) (checked later Done)) ≤ 6
    go true p q = p
    go false p q = q

opening_low : (n w levels : ℕ) (cuts : List ℕ) → number_of (opening n w levels cuts) ≤ 6
unfolding lows opening open_checks
opening_low n w levels cuts = checked_low (open_checks n w levels cuts) refl

ends_numbers : {a : Answer} → Ends a → (number_of a ≤ 6) ⊎ ((13 ≤ number_of a) × (number_of a ≤ 16))
ends_numbers Ends.done = inl (omega arith)
ends_numbers (Ends.fault f) = inr (fault_range f)

module _ (text words : List ℕ) (levels : ℕ) (cuts : List ℕ) (calls : List Call) {number place : ℕ} {after : List ℕ} (tells : RunTells text words levels cuts calls number place after) where
  -- by the opening's answer
  by_opening : {High : Type 0} → (opening (length text) (length words) levels cuts ≡ Done → (number ≤ 6) ⊎ High) → (number ≤ 6) ⊎ High
  by_opening {High} accepted = go (opening (length text) (length words) levels cuts) refl
    where
      refused : (opening (length text) (length words) levels cuts ≡ Done → ⊥) → (number ≤ 6) ⊎ High
      refused n = inl (omega (arith, (run_refused text words levels cuts calls tells n).0, opening_low (length text) (length words) levels cuts))

      go : (a : Answer) → opening (length text) (length words) levels cuts ≡ a → (number ≤ 6) ⊎ High
      go Done e = accepted e
      go (Refused r) e = refused (λ d. impossible (cc))
      go (Faulty f) e = refused (λ d. impossible (cc))

  -- of a run that was closed
  by_end : WholeRun text words levels cuts calls → (number ≤ 6) ⊎ ((13 ≤ number) × (number ≤ 16))
  by_end c = subst (λ (n : ℕ). (n ≤ 6) ⊎ ((13 ≤ n) × (n ≤ 16))) (sym tells.number_is) (ends_numbers c.ends)

module _ (text words : List ℕ) (levels : ℕ) (cuts : List ℕ) {number place : ℕ} {after : List ℕ} where
  -- wararish_run tells 0 to 6 or 12 to 16
  pub run_numbers : (calls : List ℕ) → RunTells text words levels cuts (calls_of calls) number place after → (number ≤ 6) ⊎ ((12 ≤ number) × (number ≤ 16))
  run_numbers calls tells = by_opening text words levels cuts (calls_of calls) tells (λ e. go (closed_or_early text levels cuts words (calls_of calls) e (bytes_steps calls)))
    where
      wider : (number ≤ 6) ⊎ ((13 ≤ number) × (number ≤ 16)) → (number ≤ 6) ⊎ ((12 ≤ number) × (number ≤ 16))
      wider (inl l) = inl l
      wider (inr l) = inr (omega arith, l.1)

      go : WholeRun text words levels cuts (calls_of calls) ⊎ (whole_answer text words levels cuts (calls_of calls) ≡ Refused Early)
          → (number ≤ 6) ⊎ ((12 ≤ number) × (number ≤ 16))
      go (inl c) = wider (by_end text words levels cuts (calls_of calls) tells c)
      go (inr e) = let twelve = tells.number_is ∙ ap number_of e in inr (omega (arith, twelve), omega (arith, twelve))

  -- wararish_index never 12
  pub index_numbers : RunTells text words levels cuts (plainly (length cuts + 1)) number place after → (number ≤ 6) ⊎ ((13 ≤ number) × (number ≤ 16))
  index_numbers tells =
      let m = length cuts + 1 in
      by_opening text words levels cuts (plainly m) tells (λ e. by_end text words levels cuts (plainly m) tells (whole_run text levels cuts words (plainly m) e (plain_steps m) (plain_complete m)))

-- ---- which calls leave a step out

number_done : (a : Answer) → number_of a ≡ 0 → a ≡ Done
number_done Done e = refl
number_done (Refused r) e = absurd (done_other r (sym e))
number_done (Faulty f) e = absurd (omega (arith, e, fault_range f))

module _ (text words : List ℕ) (levels : ℕ) (cuts calls : List ℕ) {number place : ℕ} {after : List ℕ} (accepted : opening (length text) (length words) levels cuts ≡ Done)
    (tells : RunTells text words levels cuts (calls_of calls) number place after) (s : fault_of text ≡ sound) where
  -- over a sound record wararish_run tells 0 exactly where none was left out
  pub run_exactly : (number ≡ 0) ↔ LeavesNoneOut (length cuts + 1) (calls_of calls)
  run_exactly =
      let d = done_exactly text levels cuts words (calls_of calls) accepted (bytes_steps calls) s in
      (λ e. d.0 (number_done (whole_answer text words levels cuts (calls_of calls)) (sym tells.number_is ∙ e)), λ e. tells.number_is ∙ ap number_of (d.1 e))

  -- and else 12
  pub run_early : (number ≡ 0 → ⊥) → number ≡ 12
  run_early n = go (closed_or_early text levels cuts words (calls_of calls) accepted (bytes_steps calls))
    where
      go : WholeRun text words levels cuts (calls_of calls) ⊎ (whole_answer text words levels cuts (calls_of calls) ≡ Refused Early) → number ≡ 12
      go (inl c) = absurd (n (tells.number_is ∙ ap number_of (sound_closes s c).0))
      go (inr e) = tells.number_is ∙ ap number_of e

-- any two calls of wararish_run or wararish_index over one record with as many levels: whatever the words were, the cuts, the steps that are called
-- and their order, unless one is told 12 (its close was too early), both are told the same and leave the same words
pub one_told : (text words also : List ℕ) (levels : ℕ) (cuts borders : List ℕ) (calls steps : List Call) {n m p q : ℕ} {after then : List ℕ}
    → opening (length text) (length words) levels cuts ≡ Done → opening (length text) (length also) levels borders ≡ Done
    → steps_alone calls ≡ true → steps_alone steps ≡ true
    → RunTells text words levels cuts calls n p after → RunTells text also levels borders steps m q then
    → (n ≡ 12 → ⊥) → (m ≡ 12 → ⊥) → (n ≡ m) × (p ≡ q) × (after ≡ then)
one_told text words also levels cuts borders calls steps {n} {m} {p} {q} {after} {then} a b c d t u i j =
    go (closed_or_early text levels cuts words calls a c) (closed_or_early text levels borders also steps b d)
  where
    go : WholeRun text words levels cuts calls ⊎ (whole_answer text words levels cuts calls ≡ Refused Early)
        → WholeRun text also levels borders steps ⊎ (whole_answer text also levels borders steps ≡ Refused Early)
        → (n ≡ m) × (p ≡ q) × (after ≡ then)
    go (inl x) (inl y) =
        let e = one_outcome x y in
        (t.number_is ∙ ap number_of e.0 ∙ sym u.number_is, t.place_is ∙ ap place_of e.0 ∙ sym u.place_is, t.words_are ∙ e.1 ∙ sym u.words_are)
    go (inl x) (inr e) = absurd (j (u.number_is ∙ ap number_of e))
    go (inr e) y = absurd (i (t.number_is ∙ ap number_of e))
