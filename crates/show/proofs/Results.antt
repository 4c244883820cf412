-- What the showing program prints, by the record: a fault's number and place whatever the path, and over a sound record what the query answers
-- over the index; and which places it prints of a refusal.
use Prim.Native.Nat.{ℕ, zero, suc, ◌+◌, ◌*◌, ◌-◌, ◌/◌, ◌≤◌, ◌<◌}
use mathlib.Core.Path.{◌≡◌, refl, sym, ap, ◌∙◌}
use mathlib.Core.Bool.{Bool, false}
use mathlib.Core.List.{List}
use native.Mathlib.Omega.{arith}
use lib.ListN.{length, get_or}
use Rattle.rules.specs.Faults.{sound, faulty, fault_of}
use Rattle.rules.specs.Layout.{size_of, index}
use Rattle.rules.proofs.LayoutLaws.{get_or_listed}
use Rattle.index.specs.declared.Answer.TheVariants.{Done}
use Rattle.index.specs.Opening.{bad_cut, first, first_bad, opening}
use Rattle.index.proofs.OpenLaws.{cut_before, good_cut, if_opened}
use Rattle.query.specs.declared.types.Miss.{Miss}
use Rattle.query.specs.declared.types.Miss.TheVariants.{NotObject, NotArray, NoName, NoNumber}
use Rattle.query.specs.declared.types.Cause.{Cause}
use Rattle.query.specs.declared.types.Cause.TheVariants.{NoColon, BadName, EmptyValue, BadEscape}
use Rattle.query.specs.declared.types.Refusal.TheVariants.{BadPath, Missed, Broken}
use Rattle.query.specs.Answer.{Refused}
use Rattle.query.specs.Answers.{miss_number, cause_number, answer_of}
use Rattle.runs.specs.Whole.{WholeRun, plainly}
use Rattle.runs.proofs.Theorems.{sound_closes, faulty_closes}
use Rattle.runs.proofs.Whole.{whole_run}
use Rattle.runs.proofs.Plain.{plain_steps, plain_complete}
use Rattle.show.specs.Running.{multiples, cuts_of}
use Rattle.show.specs.Printing.{path_end, path_of, record_of, placed, query_printed, printed_in, zeros, printed_of, shown}
use Rattle.show.proofs.Inputs.{multiples_long, zeros_long, both}

-- ---- the line of a refusal

-- 20 prints its place in the path twice
pub path_printed : (p : ℕ) → query_printed (Refused (BadPath p)) ≡ placed 20 p
path_printed p = refl

-- "The program goes on printing 0 0" for 23 to 26
pub miss_printed : (why : Miss) (k p : ℕ) → query_printed (Refused (Missed why k p)) ≡ placed (miss_number why) 0
miss_printed NotObject k p = refl
miss_printed NotArray k p = refl
miss_printed NoName k p = refl
miss_printed NoNumber k p = refl

-- and for 27 to 30
pub broken_printed : (why : Cause) (k p : ℕ) → query_printed (Refused (Broken why k p)) ≡ placed (cause_number why) 0
broken_printed NoColon k p = refl
broken_printed BadName k p = refl
broken_printed EmptyValue k p = refl
broken_printed BadEscape k p = refl

-- ---- the cuts and words that are lent open a job

first_none : (p : ℕ → Bool) (m i : ℕ) → ((e : ℕ) → i ≤ e → e < i + m → p e ≡ false) → first p i m ≡ i + m
unfolding first
first_none p zero i h = omega arith
first_none p (suc m) i h = rw (h i (omega arith) (omega arith)) (first_none p m (suc i) (λ e a b. h e (omega arith) (omega arith)) ∙ omega arith)

multiple_at : (m i : ℕ) → i < m → get_or (multiples m) i 0 ≡ 1024 * (1 + i)
unfolding multiples
multiple_at m i l = get_or_listed (λ x. 1024 * x) 1 m i l

before_at : (m i : ℕ) → i < m → cut_before (multiples m) i ≡ 1024 * i
before_at m zero l = refl
before_at m (suc i) l = multiple_at m i (omega arith) ∙ ap (λ (x : ℕ). 1024 * x) (omega arith)

lawful_cut : (n i : ℕ) → i < (n - 1) / 1024 → bad_cut n (multiples ((n - 1) / 1024)) i ≡ false
lawful_cut n i l =
    let m = (n - 1) / 1024 in
    let at = multiple_at m i l in
    good_cut n (multiples m) i (omega (arith, at)) (omega (arith, at)) (omega (arith, at, before_at m i l))

pub opens : (n : ℕ) → 1 ≤ n → n ≤ 16384 → opening n (length (zeros (size_of 4 n))) 4 (cuts_of n) ≡ Done
unfolding cuts_of first_bad
opens n some few =
    let m = (n - 1) / 1024 in
    let long = multiples_long m in
    if_opened n (length (zeros (size_of 4 n))) 4 (multiples m) (λ e. omega (arith, some, e)) (omega (arith, few)) (λ e. omega (arith, e)) (omega arith) (zeros_long (size_of 4 n)) (omega (arith, long, few))
    (omega (arith, first_none (bad_cut n (multiples m)) (length (multiples m)) 0 (λ e a b. lawful_cut n e (omega (arith, b, long)))))

-- ---- the line of a record, and of an input

module _ (text path : List ℕ) (some : 1 ≤ length text) (few : length text ≤ 16384) where
  abbrev cuts : List ℕ
  cuts = cuts_of (length text)

  abbrev words : List ℕ
  words = zeros (size_of 4 (length text))

  whole : WholeRun text words 4 cuts (plainly (length cuts + 1))
  whole = whole_run text 4 cuts words (plainly (length cuts + 1)) (opens (length text) some few) (plain_steps (length cuts + 1)) (plain_complete (length cuts + 1))

  -- "a fault of the record is printed and not the path's refusal": its number, and its place twice
  pub line_faulty : {n p : ℕ} → fault_of text ≡ faulty n p → printed_of text path ≡ placed n p
  unfolding printed_of printed_in
  line_faulty e =
      let c = faulty_closes e whole in
      rw (c.1, c.2, c.3)

  -- over a sound record the line is the query's, over the index
  pub line_sound : fault_of text ≡ sound → printed_of text path ≡ query_printed (answer_of text (index text 4) 4 path)
  unfolding printed_of printed_in
  line_sound e =
      let c = sound_closes e whole in
      rw (c.0, c.1)

module _ (input : List ℕ) (short : path_end input ≤ 1024) (some : 1 ≤ length (record_of input)) (few : length (record_of input) ≤ 16384) where
  -- the same of what is shown
  pub shown_faulty : {n p : ℕ} → fault_of (record_of input) ≡ faulty n p → shown input ≡ placed n p
  shown_faulty e = sym (both input (path_end input) refl short few) ∙ line_faulty (record_of input) (path_of input) some few e

  pub shown_sound : fault_of (record_of input) ≡ sound → shown input ≡ query_printed (answer_of (record_of input) (index (record_of input) 4) 4 (path_of input))
  shown_sound e = sym (both input (path_end input) refl short few) ∙ line_sound (record_of input) (path_of input) some few e
