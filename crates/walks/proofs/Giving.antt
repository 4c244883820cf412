-- A walk gives an answer exactly where its steps do, one after another, as the definitions say it of places. By cases on the tests of a step, each of which
-- says what it should.
use Prim.Native.Nat.{ℕ, ◌+◌, ◌-◌, ◌≤◌}
use mathlib.Core.Path.{◌≡◌, refl, subst}
use mathlib.Core.Bool.{true, false, not-eq-not}
use mathlib.Core.List.{List, [], ◌∷◌}
use mathlib.Core.Logic.{◌↔◌}
use native.Mathlib.Omega.{arith}
use lib.ListN.{length}
use Rattle.std.specs.Prelude.{Ok, Err, Some}
use Rattle.paths.specs.Places.{byte_in}
use Rattle.paths.specs.Grammar.{Selector, name, number}
use Rattle.names.specs.Spelling.{matched}
use Rattle.query.specs.Items.{Bits, item_at, first_item}
use Rattle.query.specs.Walk.{on_found, of_item, framed, filled, name_step, number_step, step_by, walk_from, walk}
use Rattle.walks.specs.Members.{OnlyBlanks, Framed}
use Rattle.query.specs.Answers.{miss_number, cause_number, refusal_number}
use Rattle.walks.specs.Conditions.{StepGives, not_object, no_member, no_name, broken_member, member, not_array, no_element, no_number, broken_element, element, StepsGive, done, here, later, WalkGives, blank, within}
use Rattle.query.specs.Item.{Item}
use Rattle.query.specs.Item as Items
use Rattle.query.specs.declared.types.Cause.{Cause}
use Rattle.query.specs.declared.types.Cause.TheVariants.{NoColon, BadName, EmptyValue, BadEscape}
use Rattle.query.specs.declared.types.Miss.{Miss}
use Rattle.query.specs.declared.types.Miss.TheVariants.{NotObject, NotArray, NoName, NoNumber}
use Rattle.query.specs.declared.types.Refusal.{Refusal}
use Rattle.query.specs.declared.types.Refusal.TheVariants.{Missed, Broken}
use Rattle.query.specs.Answer.{Answer, Refused}
use Rattle.paths.proofs.PlaceLaws.{pick_ind}
use Rattle.walks.proofs.Members as Values
use Rattle.walks.proofs.Members.{Value, value_is, value_at_is, framed_exactly, filled_exactly}
use Rattle.walks.proofs.Borders.{found_stops, broken_stops, no_such_name, first_stops}
use Rattle.walks.proofs.ItemCount.{ByNumber, few, one, number_exactly}

-- the numbers of a walk that stops
pub miss_number_range : (why : Miss) → (23 ≤ miss_number why) × (miss_number why ≤ 26)
miss_number_range NotObject = (omega arith, omega arith)
miss_number_range NotArray = (omega arith, omega arith)
miss_number_range NoName = (omega arith, omega arith)
miss_number_range NoNumber = (omega arith, omega arith)

pub cause_number_range : (why : Cause) → (27 ≤ cause_number why) × (cause_number why ≤ 30)
cause_number_range NoColon = (omega arith, omega arith)
cause_number_range BadName = (omega arith, omega arith)
cause_number_range EmptyValue = (omega arith, omega arith)
cause_number_range BadEscape = (omega arith, omega arith)

module _ (byte : ℕ → ℕ) (bits : Bits) where
  -- ---- a step

  module _ (head tail a e : ℕ) where
    unframed : framed byte head tail a e ≡ false → Framed byte head tail a e → ⊥
    unframed f w = not-eq-not.1 f ((framed_exactly byte head tail a e).1 w)

    not_framed : (Framed byte head tail a e → ⊥) → framed byte head tail a e ≡ false
    not_framed g = not-eq-not.0 (λ q. g ((framed_exactly byte head tail a e).0 q))

    module _ (w : Framed byte head tail a e) where
      filled_not : filled byte a e ≡ true → OnlyBlanks byte (a + 1) (e - 1) → ⊥
      filled_not f o = not-eq-not.1 f ((filled_exactly byte a e w.long).1 o)

      filled_so : (OnlyBlanks byte (a + 1) (e - 1) → ⊥) → filled byte a e ≡ true
      filled_so g = not-eq-not.0 (λ q. g ((filled_exactly byte a e w.long).0 q))

  name_is : (k : ℕ) (n : List ℕ) (a e : ℕ) → StepGives byte bits k (name n) a e (name_step byte bits k n a e)
  unfolding name_step
  name_is k n a e =
      let P = StepGives byte bits k (name n) a e in
      pick_ind P (framed byte 123 125 a e) _ _
      (λ f. let w = (framed_exactly byte 123 125 a e).0 f in
      pick_ind P (filled byte a e) _ _ (λ g. go w (filled_not 123 125 a e w g) (first_item (item_at byte bits k (matched n)) (bits.comma k) (a + 1) (e - 1)) refl)
      (λ g. no_member w ((filled_exactly byte a e w.long).0 g)))
      (λ f. not_object (unframed 123 125 a e f))
    where
      go : Framed byte 123 125 a e → (OnlyBlanks byte (a + 1) (e - 1) → ⊥) → (it : Item) → first_item (item_at byte bits k (matched n)) (bits.comma k) (a + 1) (e - 1) ≡ it
          → StepGives byte bits k (name n) a e (of_item (Missed NoName k a) k it)
      go w u (Ok (Some part)) h = member w u ((first_stops byte bits k n (a + 1) (e - 1) (omega arith) (Items.Found part.start part.end) found_stops).0 h)
      go w u Items.Other h = no_name w u ((no_such_name byte bits k n (a + 1) (e - 1) (omega arith)).0 h)
      go w u (Err b) h = broken_member w u ((first_stops byte bits k n (a + 1) (e - 1) (omega arith) (Items.Broken b.why b.place) broken_stops).0 h)

  number_is : (k m a e : ℕ) → StepGives byte bits k (number m) a e (number_step byte bits k m a e)
  unfolding number_step
  number_is k m a e =
      let P = StepGives byte bits k (number m) a e in
      pick_ind P (framed byte 91 93 a e) _ _
      (λ f. let w = (framed_exactly byte 91 93 a e).0 f in
      pick_ind P (filled byte a e) _ _ (λ g. go w (filled_not 91 93 a e w g) ((number_exactly byte (bits.comma k) m (a + 1) (e - 1) (omega arith) _).0 refl))
      (λ g. no_element w ((filled_exactly byte a e w.long).0 g)))
      (λ f. not_array (unframed 91 93 a e f))
    where
      go : {it : Item} → Framed byte 91 93 a e → (OnlyBlanks byte (a + 1) (e - 1) → ⊥) → ByNumber byte (bits.comma k) m (a + 1) (e - 1) it
          → StepGives byte bits k (number m) a e (of_item (Missed NoNumber k a) k it)
      go w u (few c) = no_number w u c
      go w u (one n (Values.part v)) = element w u n v
      go w u (one n (Values.blank o)) = broken_element w u n o

  -- past the tests of a value's ends
  module _ (k a e : ℕ) (u : OnlyBlanks byte (a + 1) (e - 1) → ⊥) where
    name_past : (n : List ℕ) {it : Item} → Framed byte 123 125 a e → (a + 1 ≤ e - 1 → first_item (item_at byte bits k (matched n)) (bits.comma k) (a + 1) (e - 1) ≡ it)
        → name_step byte bits k n a e ≡ of_item (Missed NoName k a) k it
    unfolding name_step
    name_past n w h = let l = w.long in rw ((framed_exactly byte 123 125 a e).1 w, filled_so 123 125 a e w u, h (omega arith))

    number_past : (m : ℕ) {it : Item} → Framed byte 91 93 a e → ByNumber byte (bits.comma k) m (a + 1) (e - 1) it → number_step byte bits k m a e ≡ of_item (Missed NoNumber k a) k it
    unfolding number_step
    number_past m {it} w x =
        let l = w.long in
        rw ((framed_exactly byte 91 93 a e).1 w, filled_so 91 93 a e w u, (number_exactly byte (bits.comma k) m (a + 1) (e - 1) (omega arith) it).1 x)

  gives_step : {k a e : ℕ} {s : Selector} {r : Answer} → StepGives byte bits k s a e r → step_by byte bits k s a e ≡ r
  unfolding name_step number_step
  gives_step (not_object {n} {a} {e} g) = rw (not_framed 123 125 a e g)
  gives_step (no_member {n} {a} {e} w o) = rw ((framed_exactly byte 123 125 a e).1 w, (filled_exactly byte a e w.long).1 o)
  gives_step {k} {a} {e} (no_name {n} w u h) = name_past k a e u n w (λ l. (no_such_name byte bits k n (a + 1) (e - 1) l).1 h)
  gives_step {k} {a} {e} (broken_member {n} {p = p} {why = why} w u h) = name_past k a e u n w (λ l. (first_stops byte bits k n (a + 1) (e - 1) l (Items.Broken why p) broken_stops).1 h)
  gives_step {k} {a} {e} (member {n} {p} {q} w u h) = name_past k a e u n w (λ l. (first_stops byte bits k n (a + 1) (e - 1) l (Items.Found p q) found_stops).1 h)
  gives_step (not_array {m} {a} {e} g) = rw (not_framed 91 93 a e g)
  gives_step (no_element {m} {a} {e} w o) = rw ((framed_exactly byte 91 93 a e).1 w, (filled_exactly byte a e w.long).1 o)
  gives_step {k} {a} {e} (no_number {m} w u c) = number_past k a e u m w (few c)
  gives_step {k} {a} {e} (broken_element {m} w u n o) = number_past k a e u m w (one n (Values.blank o))
  gives_step {k} {a} {e} (element {m} w u n v) = number_past k a e u m w (one n (Values.part v))

  step_is : (k : ℕ) (s : Selector) (a e : ℕ) → StepGives byte bits k s a e (step_by byte bits k s a e)
  step_is k (name n) a e = name_is k n a e
  step_is k (number m) a e = number_is k m a e

  -- 23 to 30 of a step, and its part
  pub step_gives : (k : ℕ) (s : Selector) (a e : ℕ) (r : Answer) → (step_by byte bits k s a e ≡ r) ↔ StepGives byte bits k s a e r
  step_gives k s a e r = (λ q. subst (StepGives byte bits k s a e) q (step_is k s a e), gives_step)

  -- "number steps never give it"
  pub names_alone : {k a e j p : ℕ} {s : Selector} → StepGives byte bits k s a e (Refused (Broken BadEscape j p)) → (n : List ℕ) × (s ≡ name n)
  names_alone (broken_member {n} w u h) = (n, refl)

  -- ---- the steps that are left

  from_is : (k : ℕ) (ss : List Selector) (a e : ℕ) → StepsGive byte bits k ss a e (walk_from byte bits k ss a e)
  unfolding walk_from
  from_is k [] a e = done
  from_is k (s ∷ ss) a e = go (step_by byte bits k s a e) (step_is k s a e) (λ b f. from_is (k + 1) ss b f)
    where
      go : (r : Answer) → StepGives byte bits k s a e r → ((b f : ℕ) → StepsGive byte bits (k + 1) ss b f (walk_from byte bits (k + 1) ss b f))
          → StepsGive byte bits k (s ∷ ss) a e (on_found r (λ b f. walk_from byte bits (k + 1) ss b f) Refused)
      go (Ok part) g ih = later g (ih part.start part.end)
      go (Refused why) g ih = here g

  gives_from : {k a e : ℕ} {ss : List Selector} {r : Answer} → StepsGive byte bits k ss a e r → walk_from byte bits k ss a e ≡ r
  unfolding walk_from
  gives_from done = refl
  gives_from (here g) = rw (gives_step g)
  gives_from (later g l) = rw (gives_step g) (gives_from l)

  -- a step that stops gives no smaller number
  step_number : {k a e : ℕ} {s : Selector} {why : Refusal} → StepGives byte bits k s a e (Refused why) → 23 ≤ refusal_number why
  step_number (not_object g) = omega arith
  step_number (no_member w o) = omega arith
  step_number (no_name w u h) = omega arith
  step_number (broken_member {why = why} w u h) = omega (arith, cause_number_range why)
  step_number (not_array g) = omega arith
  step_number (no_element w o) = omega arith
  step_number (no_number w u c) = omega arith
  step_number (broken_element w u n o) = omega arith

  from_number : {k a e : ℕ} {ss : List Selector} {why : Refusal} → StepsGive byte bits k ss a e (Refused why) → 23 ≤ refusal_number why
  from_number (here g) = step_number g
  from_number (later g l) = from_number l

-- ---- the walk

module _ (text : List ℕ) (bits : Bits) (ss : List Selector) where
  walk_is : WalkGives text bits ss (walk text bits ss)
  unfolding walk
  walk_is = go (value_is (byte_in text) 0 (length text) (omega arith) 0)
    where
      go : {it : Item} → Value (byte_in text) 0 0 (length text) it
          → WalkGives text bits ss (on_found (of_item (Broken EmptyValue 0 0) 0 it) (λ a e. walk_from (byte_in text) bits 1 ss a e) Refused)
      go (Values.part {p} {q} v) = within v (from_is (byte_in text) bits 1 ss p q)
      go (Values.blank o) = blank o

  gives_walk : {r : Answer} → WalkGives text bits ss r → walk text bits ss ≡ r
  unfolding walk
  gives_walk (blank o) = rw (value_at_is (byte_in text) 0 (length text) (omega arith) (Values.blank o))
  gives_walk (within v g) = rw (value_at_is (byte_in text) 0 (length text) (omega arith) (Values.part v)) (gives_from (byte_in text) bits g)

  -- 23 to 30 of a walk, and its part
  pub walk_gives : (r : Answer) → (walk text bits ss ≡ r) ↔ WalkGives text bits ss r
  walk_gives r = (λ q. subst (WalkGives text bits ss) q walk_is, gives_walk)

  -- no smaller number
  pub walk_number : {why : Refusal} → WalkGives text bits ss (Refused why) → 23 ≤ refusal_number why
  walk_number (blank o) = omega arith
  walk_number (within v g) = from_number (byte_in text) bits g
