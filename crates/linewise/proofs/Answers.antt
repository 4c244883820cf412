-- The numbers of a line's call: each exactly under its condition, in order; and what it leaves of the words.
use Prim.Native.Nat.{ℕ, zero, suc, ◌+◌, ◌-◌, ◌≤◌, ◌<◌}
use mathlib.Core.Path.{◌≡◌, refl, sym, ap, ◌∙◌}
use mathlib.Core.Bool.{false}
use mathlib.Core.List.{List, [], ◌∷◌, ◌++◌}
use mathlib.Core.Logic.{◌⊎◌, inl, inr, ⊎_elim, ◌↔◌}
use native.Mathlib.Omega.{arith}
use native.Mathlib.Decide.{dec_lt}
use lib.ListN.{length, get_or, take, drop, length-drop, length-replicate}
use lib.Seq.{length-take-le, take_at, drop_at}
use lib.Dec.{T}
use Rattle.rules.specs.Bits.{in_string, at_depth}
use Rattle.rules.specs.Faults.{Verdict, sound, faulty, closes_none, opens_over, at_end, fault_from, fault_of}
use Rattle.rules.specs.Layout.{size_of}
use Rattle.rules.proofs.Booleans.{impossible}
use Rattle.rules.proofs.LayoutLaws.{index_holds}
use Rattle.index.specs.declared.Answer.{Answer}
use Rattle.index.specs.declared.Answer.TheVariants.{Done, Refused, Faulty}
use Rattle.index.specs.declared.Refusal.{Refusal}
use Rattle.index.specs.declared.Refusal.TheVariants.{Empty}
use Rattle.index.specs.declared.Fault.{Fault}
use Rattle.index.specs.declared.Fault.TheVariants.{Closer, Opener, InString, InBracket}
use Rattle.index.specs.Answers.{refusal_number, fault_number, fault_place, number_of, Check}
use Rattle.index.specs.Numbers.{number, numbers, First, NoneHolds, Exactly}
use Rattle.index.proofs.AnswerLaws.{refusal_range, done_other, fault_other, no_hit, rising, exactly}
use Rattle.index.specs.Closing.{unless_refused}
use Rattle.runs.specs.Runs.{verdict_of}
use Rattle.lines.specs.Jobs.{start_in, end_in, line_at, bytes_at, line_of, named_fault, of_verdict, verdict_words, front_checks, front_answer, front_words, numbered, line_answer, line_words, line_number}
use Rattle.lines.specs.declared.LineAnswer.{LineAnswer}
use Rattle.lines.specs.declared.LineAnswer.TheVariants as line
use Rattle.lines.specs.Tables.{entries_of}
use Rattle.lines.specs.Lines.{Line, End}
use Rattle.lines.proofs.WhereLaws.{at_behind, at_turned, at_past, at_part}
use Rattle.lines.proofs.VerdictLaws.{named, fault_range}
use Rattle.paths.proofs.PlaceLaws.{pick_ind}
use Rattle.linewise.specs.Answers.{front_of, NotRefused}

-- ---- the faults that there are

data Kind : Verdict → Type 0 where
  none : Kind sound
  one : (f : Fault) → Kind (verdict_of f)

kind : (text : List ℕ) (left i : ℕ) → Kind (fault_from text i left)
unfolding fault_from at_end verdict_of
kind text zero i = pick_ind Kind (in_string text i) _ _ (λ _. one (InString i)) (λ _. pick_ind Kind (at_depth text 0 i) _ _ (λ _. none) (λ _. one (InBracket i)))
kind text (suc left) i = pick_ind Kind (closes_none text i) _ _ (λ _. one (Closer i)) (λ _. pick_ind Kind (opens_over text i) _ _ (λ _. one (Opener i)) (λ _. kind text left (suc i)))

-- a fault's verdict is answered as that fault, and no other is
fault_told : (v : Verdict) (f : Fault) → Kind v → (of_verdict v ≡ Faulty f) ↔ (v ≡ verdict_of f)
unfolding verdict_of
fault_told v f none = (λ e. impossible (cc), λ e. impossible (cc))
fault_told v f (one g) = (λ e. let same : named_fault (fault_number g) (fault_place g) ≡ f = cc in rw (named g ∙ same), λ e. ap of_verdict e ∙ ap Faulty (sym (named f)))

-- ---- the numbers of some bytes in the front of w words

module _ (bytes : List ℕ) (levels w : ℕ) where
  abbrev checks : List Check
  checks = front_checks (length bytes) w levels

  pub line_order : numbers checks ≡ 1 ∷ 2 ∷ 3 ∷ 4 ∷ []
  unfolding front_checks
  line_order = refl

  other : (v : Verdict) (r : Refusal) → number_of (of_verdict v) ≡ refusal_number r → ⊥
  other sound r e = done_other r e
  other (faulty n p) r e = fault_other (named_fault n p) r e

  rise : T (rising 0 checks)
  unfolding front_checks
  rise = tt

  front_numbers : Exactly checks (of_verdict (fault_of bytes)) (front_answer bytes levels w)
  unfolding front_answer
  front_numbers = exactly checks (of_verdict (fault_of bytes)) rise (other (fault_of bytes))

  -- an answer that is no refusal: no condition held, and it is the verdict's
  accepted : (a : Answer) → front_answer bytes levels w ≡ a → ((r : Refusal) → number_of a ≡ refusal_number r → ⊥) → NoneHolds checks × (of_verdict (fault_of bytes) ≡ a)
  unfolding front_answer
  accepted a e never = go front_numbers.no_other
    where
      go : (number_of (front_answer bytes levels w) ≡ number_of (of_verdict (fault_of bytes))) ⊎ ((k : ℕ) × ((k < length checks) × (number_of (front_answer bytes levels w) ≡ number checks k)))
          → NoneHolds checks × (of_verdict (fault_of bytes) ≡ a)
      go (inl q) = let n = front_numbers.accepted.0 q in (n, sym (no_hit checks (of_verdict (fault_of bytes)) n) ∙ e)
      go (inr q) = absurd (never (get_or checks q.0 (false, Empty)).1 (sym (ap number_of e) ∙ q.1.1))

-- check k is the one of number k + 1
ordered : (n w levels k : ℕ) → k < 4 → number (front_checks n w levels) k ≡ k + 1
unfolding front_checks
ordered n w levels zero l = refl
ordered n w levels (suc zero) l = refl
ordered n w levels (suc (suc zero)) l = refl
ordered n w levels (suc (suc (suc zero))) l = refl
ordered n w levels (suc (suc (suc (suc k)))) l = absurd (omega arith)

-- ---- the line with number i of a table

module _ (text table : List ℕ) (i levels w : ℕ) where
  abbrev bytes : List ℕ
  bytes = line_of text table i

  abbrev r : LineAnswer
  r = line_answer text table i levels w

  -- the number that is told
  pub line_number_is : line_number r ≡ number_of (front_answer bytes levels w)
  unfolding line_answer
  line_number_is = go (front_answer bytes levels w)
    where
      go : (a : Answer) → line_number (numbered i a) ≡ number_of a
      go Done = refl
      go (Refused x) = refl
      go (Faulty f) = refl

  -- the line is empty, so that 1 comes: its number is behind the table, or its entry is no part of the text with a byte
  pub line_empty : (length bytes ≡ 0) ↔ ((entries_of table ≤ i) ⊎ ((end_in table i ≤ start_in table i) ⊎ (length text < end_in table i)))
  unfolding line_of
  line_empty = (λ z. there z (dec_lt i (entries_of table)) (dec_lt (start_in table i) (end_in table i)) (dec_lt (length text) (end_in table i)), back)
    where
      n : ℕ
      n = length text

      there : length bytes ≡ 0 → Dec (i < entries_of table) → Dec (start_in table i < end_in table i) → Dec (n < end_in table i)
          → (entries_of table ≤ i) ⊎ ((end_in table i ≤ start_in table i) ⊎ (n < end_in table i))
      there z (no l) o p = inl (omega (arith, l))
      there z (yes l) (no o) p = inr (inl (omega (arith, o)))
      there z (yes l) (yes o) (yes p) = inr (inr p)
      there z (yes l) (yes o) (no p) =
          let long = length-take-le (end_in table i - start_in table i) (drop (start_in table i) text) (omega (arith, p, length-drop (start_in table i) text)) in
          absurd (omega (arith, o, sym (ap (λ (x : Line). length (bytes_at text x)) (at_part n table i l (omega (arith, o)) (omega (arith, p)))) ∙ z, long))

      none : line_at n table i ≡ End → length bytes ≡ 0
      none e = ap (λ (x : Line). length (bytes_at text x)) e

      nothing : i < entries_of table → end_in table i ≤ start_in table i → Dec (end_in table i < start_in table i) → Dec (n < end_in table i) → length bytes ≡ 0
      nothing l o (yes t) p = none (at_turned n table i l t)
      nothing l o (no t) (yes p) = none (at_past n table i l (omega (arith, t)) p)
      nothing l o (no t) (no p) =
          let zero : end_in table i - start_in table i ≡ 0 = omega (arith, o) in
          ap (λ (x : Line). length (bytes_at text x)) (at_part n table i l (omega (arith, t)) (omega (arith, p))) ∙ ap (λ (k : ℕ). length (take k (drop (start_in table i) text))) zero

      behind : i < entries_of table → n < end_in table i → Dec (end_in table i < start_in table i) → length bytes ≡ 0
      behind l p (yes t) = none (at_turned n table i l t)
      behind l p (no t) = none (at_past n table i l (omega (arith, t)) p)

      in_table : Dec (i < entries_of table) → (i < entries_of table → length bytes ≡ 0) → length bytes ≡ 0
      in_table (yes l) f = f l
      in_table (no l) f = none (at_behind n table i (omega (arith, l)))

      back : (entries_of table ≤ i) ⊎ ((end_in table i ≤ start_in table i) ⊎ (n < end_in table i)) → length bytes ≡ 0
      back (inl l) = none (at_behind n table i l)
      back (inr (inl o)) = in_table (dec_lt i (entries_of table)) (λ l. nothing l o (dec_lt (end_in table i) (start_in table i)) (dec_lt n (end_in table i)))
      back (inr (inr p)) = in_table (dec_lt i (entries_of table)) (λ l. behind l p (dec_lt (end_in table i) (start_in table i)))

  -- 1 to 4 each exactly when its condition holds and no earlier one does, and no other refusal
  pub line_numbers : (k : ℕ) → k < 4 → (line_number r ≡ k + 1) ↔ First (front_checks (length bytes) w levels) k
  unfolding front_checks
  line_numbers k l =
      (λ e. ((front_numbers bytes levels w).refused k l).0 (sym line_number_is ∙ e ∙ sym (ordered (length bytes) w levels k l)), λ f. line_number_is ∙ ((front_numbers bytes levels w).refused k l).1 f ∙ ordered (length bytes) w levels k l)

  -- 0 exactly for a sound line, without a condition that holds
  pub line_done : (r ≡ line.Done) ↔ (NoneHolds (front_checks (length bytes) w levels) × (fault_of bytes ≡ sound))
  unfolding line_answer front_answer
  line_done = (λ e. there (front_answer bytes levels w) refl e, λ h. ap (numbered i) (no_hit (front_checks (length bytes) w levels) (of_verdict (fault_of bytes)) h.0 ∙ ap of_verdict h.1))
    where
      is_sound : (v : Verdict) → of_verdict v ≡ Done → v ≡ sound
      is_sound sound e = refl
      is_sound (faulty n p) e = impossible (cc)

      there : (a : Answer) → front_answer bytes levels w ≡ a → numbered i a ≡ line.Done → NoneHolds (front_checks (length bytes) w levels) × (fault_of bytes ≡ sound)
      there Done q e = let h = accepted bytes levels w Done q done_other in (h.0, is_sound (fault_of bytes) h.1)
      there (Refused x) q e = impossible (cc)
      there (Faulty f) q e = impossible (cc)

  -- 13 to 16 exactly for a line whose first fault it is, at its place in the line; and the line's number is told
  pub line_fault : (f : Fault) (j : ℕ) → (r ≡ line.Faulty f j) ↔ (NoneHolds (front_checks (length bytes) w levels) × ((fault_of bytes ≡ verdict_of f) × (j ≡ i)))
  unfolding line_answer front_answer fault_of
  line_fault f j = (
    λ e. there (front_answer bytes levels w) refl e,
    λ h. ap (numbered i) (no_hit (front_checks (length bytes) w levels) (of_verdict (fault_of bytes)) h.0 ∙ told.1 h.1.0) ∙ ap (line.Faulty f) (sym h.1.1),
  )
    where
      told : (of_verdict (fault_of bytes) ≡ Faulty f) ↔ (fault_of bytes ≡ verdict_of f)
      told = fault_told (fault_of bytes) f (kind bytes (length bytes) 0)

      there : (a : Answer) → front_answer bytes levels w ≡ a → numbered i a ≡ line.Faulty f j → NoneHolds (front_checks (length bytes) w levels) × ((fault_of bytes ≡ verdict_of f) × (j ≡ i))
      there Done q e = impossible (cc)
      there (Refused x) q e = impossible (cc)
      there (Faulty g) q e =
          let h = accepted bytes levels w (Faulty g) q (fault_other g) in
          let same : g ≡ f = cc in
          let own : j ≡ i = cc in
          (h.0, (told.0 (h.1 ∙ ap Faulty same), own))

  -- "0 to 4 and 13 on; never 5 to 12"
  pub line_only : (line_number r ≤ 4) ⊎ ((13 ≤ line_number r) × (line_number r ≤ 16))
  unfolding front_checks
  line_only = rw line_number_is (go (front_numbers bytes levels w).no_other)
    where
      of : (v : Verdict) → (number_of (of_verdict v) ≤ 4) ⊎ ((13 ≤ number_of (of_verdict v)) × (number_of (of_verdict v) ≤ 16))
      of sound = inl (omega arith)
      of (faulty n p) = inr (fault_range (named_fault n p))

      go : (number_of (front_answer bytes levels w) ≡ number_of (of_verdict (fault_of bytes))) ⊎ ((k : ℕ) × ((k < 4) × (number_of (front_answer bytes levels w) ≡ number (front_checks (length bytes) w levels) k)))
          → (number_of (front_answer bytes levels w) ≤ 4) ⊎ ((13 ≤ number_of (front_answer bytes levels w)) × (number_of (front_answer bytes levels w) ≤ 16))
      go (inl q) = rw q (of (fault_of bytes))
      go (inr q) = inl (omega (arith, q.1.0, q.1.1, ordered (length bytes) w levels q.0 q.1.0))

  -- any two outcomes coincide
  pub line_one : (words : List ℕ) {a b : List ℕ} {x y : LineAnswer} → (x ≡ r) × (a ≡ line_words text table i levels words) → (y ≡ r) × (b ≡ line_words text table i levels words) → (x ≡ y) × (a ≡ b)
  line_one words p q = (p.0 ∙ sym q.0, p.1 ∙ sym q.1)

-- ---- the words

-- a refused call leaves them
pub line_refused : (text table words : List ℕ) (i levels : ℕ) → 1 ≤ line_number (line_answer text table i levels (length words)) → line_number (line_answer text table i levels (length words)) ≤ 4
    → line_words text table i levels words ≡ words
unfolding line_answer line_words front_words
line_refused text table words i levels low high = go (front_answer (line_of text table i) levels (length words)) low high _
  where
    go : (a : Answer) → 1 ≤ line_number (numbered i a) → line_number (numbered i a) ≤ 4 → (made : List ℕ) → unless_refused a made words ≡ words
    go Done l h made = absurd (omega arith)
    go (Refused x) l h made = refl
    go (Faulty f) l h made = absurd (omega (arith, fault_range f))

pub length_verdict : (v : Verdict) (bytes : List ℕ) (levels : ℕ) → length (verdict_words v bytes levels) ≡ size_of levels (length bytes)
length_verdict sound bytes levels = (index_holds bytes levels).long
length_verdict (faulty n p) bytes levels = length-replicate (size_of levels (length bytes)) 0

module _ (text table words : List ℕ) (i levels : ℕ) where
  abbrev own : List ℕ
  own = line_of text table i

  -- a taken one makes the front: the index of a sound line, zeros of a faulty one
  pub line_front : NotRefused (line_answer text table i levels (length words)) → front_of own levels (line_words text table i levels words) ≡ verdict_words (fault_of own) own levels
  unfolding line_answer line_words front_words
  line_front t = go (front_answer own levels (length words)) t
    where
      go : (a : Answer) → NotRefused (numbered i a) → front_of own levels (unless_refused a (verdict_words (fault_of own) own levels ++ drop (size_of levels (length own)) words) words) ≡ verdict_words (fault_of own) own levels
      go Done t = take_at (verdict_words (fault_of own) own levels) _ _ (length_verdict (fault_of own) own levels)
      go (Refused x) t = absurd (⊎_elim (λ q. omega (arith, q, refusal_range x)) (λ q. omega (arith, q, refusal_range x)) t)
      go (Faulty f) t = take_at (verdict_words (fault_of own) own levels) _ _ (length_verdict (fault_of own) own levels)

  -- and whatever the answer, the words behind the line's own stay
  pub line_behind : drop (size_of levels (length own)) (line_words text table i levels words) ≡ drop (size_of levels (length own)) words
  unfolding line_words front_words
  line_behind = go (front_answer own levels (length words))
    where
      go : (a : Answer) → drop (size_of levels (length own)) (unless_refused a (verdict_words (fault_of own) own levels ++ drop (size_of levels (length own)) words) words) ≡ drop (size_of levels (length own)) words
      go Done = drop_at (verdict_words (fault_of own) own levels) _ _ (length_verdict (fault_of own) own levels)
      go (Refused x) = refl
      go (Faulty f) = drop_at (verdict_words (fault_of own) own levels) _ _ (length_verdict (fault_of own) own levels)
