-- What 23 to 30 tell beside their number: the step that stops, and where its value begins or its broken item does. By the steps, one after another: the
-- steps before the one that stops have found its value.
use Prim.Native.Nat.{ℕ, suc, ◌+◌, ◌-◌, ◌≤◌, ◌<◌}
use mathlib.Core.Path.{◌≡◌, refl, sym, subst}
use mathlib.Core.Logic.{inl, inr}
use mathlib.Core.List.{List, ◌∷◌}
use native.Mathlib.Omega.{arith}
use lib.ListN.{length, take}
use Rattle.std.specs.Prelude.{Ok}
use Rattle.rules.specs.Layout.{width_of}
use Rattle.paths.specs.Places.{byte_in}
use Rattle.paths.specs.Grammar.{Selector}
use Rattle.query.specs.Items.{Bits, lent}
use Rattle.query.specs.Answers.{refusal_number, refusal_place, refusal_step, number_of, place_of, step_of, answer_of}
use Rattle.walks.specs.Members.{Bracketed, Borders, Member, no_colon, bad_name, bad_escape}
use Rattle.walks.specs.Members as Members
use Rattle.walks.specs.Conditions.{StepGives, not_object, no_member, no_name, broken_member, not_array, no_element, no_number, broken_element, StepsGive, done, here, later, WalkGives, blank, within, Given, empty, long, levels_out, other_buffer, long_path, no_path, large_number, deep, walked, Tells, miss, broken, all_blank, WalkTells}
use Rattle.query.specs.Item as Items
use Rattle.query.specs.declared.types.Miss.{Miss}
use Rattle.query.specs.declared.types.Cause.{Cause}
use Rattle.query.specs.declared.types.Refusal.{Refusal}
use Rattle.query.specs.declared.types.Refusal.TheVariants.{EmptyRecord, LongRecord, BadLevels, BadBuffer, BadPath, TooLarge, TooDeep, Missed, Broken}
use Rattle.query.specs.Answer.{Answer, Found, Refused}
use Rattle.query.proofs.Inside.{InRecord, walk_in}
use Rattle.walks.proofs.Borders.{cut_to}
use Rattle.walks.proofs.Giving.{miss_number_range, cause_number_range, walk_gives}
use Rattle.walks.proofs.Numbers.{answer_given}

-- a broken item tells where it begins
begins : {byte : ℕ → ℕ} {bits : Bits} {k : ℕ} {n : List ℕ} {s f p : ℕ} {why : Cause} → Member byte bits k n s f (Items.Broken why p) → p ≡ s
begins (no_colon o) = refl
begins (bad_name c o) = refl
begins (bad_escape w o) = refl
begins (Members.empty w e o) = refl

module _ (byte : ℕ → ℕ) (bits : Bits) where
  -- as `Tells`, of the steps from number k on, in the value from a to e
  data TellsFrom (k : ℕ) (ss : List Selector) (a e : ℕ) : Refusal → Type 0 where
    miss_from : {why : Miss} {m j b f : ℕ} → m ≡ k + j → j < length ss → StepsGive byte bits k (take j ss) a e (Found b f) → TellsFrom k ss a e (Missed why m b)
    broken_from : {why : Cause} {m j b f s g : ℕ} → m ≡ k + j → j < length ss → StepsGive byte bits k (take j ss) a e (Found b f) → Bracketed byte b f
        → Borders (bits.comma m) (b + 1) (f - 1) s g → TellsFrom k ss a e (Broken why m s)

  module _ {k a e : ℕ} {s : Selector} {ss : List Selector} where
    misses : {why : Miss} → TellsFrom k (s ∷ ss) a e (Missed why k a)
    misses = miss_from {m = k} {j = 0} (omega arith) (omega arith) done

    breaks : {why : Cause} {p g : ℕ} → Bracketed byte a e → Borders (bits.comma k) (a + 1) (e - 1) p g → TellsFrom k (s ∷ ss) a e (Broken why k p)
    breaks h c = broken_from {m = k} {j = 0} (omega arith) (omega arith) done h c

  here_tells : {k a e : ℕ} {s : Selector} {ss : List Selector} {why : Refusal} → StepGives byte bits k s a e (Refused why) → TellsFrom k (s ∷ ss) a e why
  here_tells (not_object g) = misses
  here_tells (no_member w o) = misses
  here_tells (no_name w u h) = misses
  here_tells {k} {a} {e} {s} {ss} (broken_member {why = why} w u h) =
      subst (λ (x : ℕ). TellsFrom k (s ∷ ss) a e (Broken why k x)) (sym (begins h.here)) (breaks (inl w) h.cut)
  here_tells (not_array g) = misses
  here_tells (no_element w o) = misses
  here_tells (no_number w u c) = misses
  here_tells (broken_element w u n o) = breaks (inr w) n.cut

  one_later : {k a e b f : ℕ} {s : Selector} {ss : List Selector} {why : Refusal} → StepGives byte bits k s a e (Found b f) → TellsFrom (k + 1) ss b f why
      → TellsFrom k (s ∷ ss) a e why
  one_later q (miss_from {m = m} {j = j} z l g) = miss_from {m = m} {j = suc j} (omega arith) (omega arith) (later q g)
  one_later q (broken_from {m = m} {j = j} z l g h c) = broken_from {m = m} {j = suc j} (omega arith) (omega arith) (later q g) h c

  from_tells : {k a e : ℕ} {ss : List Selector} {why : Refusal} → StepsGive byte bits k ss a e (Refused why) → TellsFrom k ss a e why
  from_tells (here g) = here_tells g
  from_tells (later q l) = one_later q (from_tells l)

-- the value that steps find lies in the record
value_inside : {text : List ℕ} {bits : Bits} {ss : List Selector} {a e : ℕ} → WalkGives text bits ss (Found a e) → InRecord (length text) (Found a e)
value_inside {text} {bits} {ss} {a} {e} g = subst (InRecord (length text)) ((walk_gives text bits ss (Found a e)).1 g) (walk_in text bits ss)

module _ (text : List ℕ) (bits : Bits) (ss : List Selector) where
  -- of a walk
  pub walk_tells : {why : Refusal} → WalkGives text bits ss (Refused why) → Tells text bits ss (refusal_number why) (refusal_step why) (refusal_place why)
  walk_tells (blank o) = all_blank o
  walk_tells (within {a} {e} v g) = go (from_tells (byte_in text) bits g)
    where
      go : {why : Refusal} → TellsFrom (byte_in text) bits 1 ss a e why → Tells text bits ss (refusal_number why) (refusal_step why) (refusal_place why)
      go (miss_from {why} {m = m} {j = j} z l g) = let y : m ≡ j + 1 = omega arith in rw y (miss why l (within v g))
      go (broken_from {why} {m = m} {j = j} z l g h c) = let y : m ≡ j + 1 = omega arith in rw y (broken why l (within v g) h (rw y at c))

  -- the place is one of the record
  inside : {n k p : ℕ} → 0 < length text → Tells text bits ss n k p → p < length text
  inside h (miss why l g) = omega (arith, value_inside g)
  inside h (broken why l g w c) = omega (arith, value_inside g, c.order, cut_to c)
  inside h (all_blank o) = h

module _ (text words : List ℕ) (levels : ℕ) (path : List ℕ) where
  stopped : {r : Answer} → Given text words levels path r → 23 ≤ number_of r → WalkTells text words levels path (number_of r) (step_of r) (place_of r)
  stopped (empty e) h = absurd (omega arith)
  stopped (long l) h = absurd (omega arith)
  stopped (levels_out s l) h = absurd (omega arith)
  stopped (other_buffer l n) h = absurd (omega arith)
  stopped (long_path k l) h = absurd (omega arith)
  stopped (no_path b n) h = absurd (omega arith)
  stopped (large_number b w l) h = absurd (omega arith)
  stopped (deep b w l d) h = absurd (omega arith)
  stopped (walked {r} {ss} w g) h = go r g h
    where
      go : (r : Answer) → WalkGives text (lent words levels (width_of (length text))) ss r → 23 ≤ number_of r → WalkTells text words levels path (number_of r) (step_of r) (place_of r)
      go (Ok part) g h = absurd (omega arith)
      go (Refused why) g h = record { selectors = ss; walkable = w; tells = walk_tells text (lent words levels (width_of (length text))) ss g }

  -- of a query
  pub tells : 23 ≤ number_of (answer_of text words levels path) → WalkTells text words levels path (number_of (answer_of text words levels path)) (step_of (answer_of text words levels path)) (place_of (answer_of text words levels path))
  tells h = stopped (answer_given text words levels path) h

  -- "a place in the record"
  pub told_inside : 23 ≤ number_of (answer_of text words levels path) → place_of (answer_of text words levels path) < length text
  told_inside h =
      let t = tells h in
      inside text (lent words levels (width_of (length text))) t.selectors t.walkable.brief.lendable.levelled.sized.some t.tells

-- all other answers tell no step
pub no_step : (r : Answer) → number_of r < 23 → step_of r ≡ 0
no_step (Ok part) l = refl
no_step (Refused EmptyRecord) l = refl
no_step (Refused LongRecord) l = refl
no_step (Refused BadLevels) l = refl
no_step (Refused BadBuffer) l = refl
no_step (Refused (BadPath p)) l = refl
no_step (Refused TooLarge) l = refl
no_step (Refused TooDeep) l = refl
no_step (Refused (Missed why k p)) l = absurd (omega (arith, miss_number_range why))
no_step (Refused (Broken why k p)) l = absurd (omega (arith, cause_number_range why))
