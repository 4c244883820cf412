-- A found part has at least one byte and lies inside the record. By the tests of the definitions, one after another.
use Rattle.std.specs.Prelude.{Ok, Err, Some}
use Prim.Native.Nat.{ℕ, zero, suc, ◌+◌, ◌-◌, ◌≤◌, ◌<◌}
use mathlib.Core.Bool.{Bool, not, ◌&&◌}
use mathlib.Core.List.{List, [], ◌∷◌}
use native.Mathlib.Omega.{arith}
use lib.Dec.{eqb, ltb, leb}
use lib.ListN.{length}
use borrow.Author.Tests.{ltb-true}
use Rattle.rules.specs.Word.{pick}
use Rattle.rules.specs.Layout.{size_of, width_of}
use Rattle.paths.specs.Places.{byte_in, between, first_at}
use Rattle.paths.specs.Grammar.{Selector, name, number}
use Rattle.paths.specs.Path.{Reading, good, bad, read_path, large}
use Rattle.names.specs.Spelling.{matched}
use Rattle.names.specs.Spelling.{Match}
use Rattle.names.proofs.Comparing.{match_ind}
use Rattle.query.specs.Items.{Bits, lent, solid, trim_start, trim_end, value_at, quoted, keyed, item_at, or_else, first_item_in, first_item, item_no}
use Rattle.query.specs.Walk.{on_found, of_item, framed, filled, name_step, number_step, step_by, walk_from, walk}
use Rattle.query.specs.Answers.{after_reading, answer_of}
use Rattle.query.specs.declared.types.Cause.TheVariants.{NoColon, EmptyValue}
use Rattle.query.specs.declared.types.Miss.TheVariants.{NoName, NoNumber}
use Rattle.query.specs.declared.types.Refusal.{Refusal}
use Rattle.query.specs.declared.types.Refusal.TheVariants.{EmptyRecord, LongRecord, BadLevels, BadBuffer, TooLarge, TooDeep, Missed, Broken}
use Rattle.query.specs.Answer.{Answer, Refused}
use Rattle.query.specs.Item.{Item}
use Rattle.query.specs.Item as Items
use Rattle.paths.proofs.PlaceLaws.{pick_ind, first_ge, first_le, last_bounds}
use Rattle.query.proofs.ItemLaws.{framed_long}

-- an item, and an answer, in the first n bytes
abbrev pub ItemInRecord : ℕ → Item → Type 0
ItemInRecord n (Ok (Some part)) = (part.start < part.end) × (part.end ≤ n)
ItemInRecord n Items.Other = Unit {0}
ItemInRecord n (Err b) = Unit {0}

abbrev pub InRecord : ℕ → Answer → Type 0
InRecord n r = on_found r (λ s e. (s < e) × (e ≤ n)) (λ why. Unit {0})

-- ---- items

pub value_in : (byte : ℕ → ℕ) (place a e n : ℕ) → a ≤ e → e ≤ n → ItemInRecord n (value_at byte place a e)
unfolding value_at
value_in byte place a e n h l =
    pick_ind (ItemInRecord n) (ltb (trim_start byte a e) (trim_end byte a e)) _ _
    (λ q. (ltb-true _ _ q, omega (arith, last_bounds (solid byte) (trim_start byte a e) e (first_le (solid byte) a e h))))
    (λ _. tt)

keyed_in : (byte : ℕ → ℕ) (quote : ℕ → Bool) (test : List ℕ → Match) (a d e n : ℕ) → d < e → e ≤ n → ItemInRecord n (keyed byte quote test a d e)
unfolding keyed
keyed_in byte quote test a d e n h l =
    pick_ind (ItemInRecord n) (quoted quote (trim_start byte a d) (trim_end byte a d)) _ _
    (λ _. match_ind (ItemInRecord n) (test (between byte (trim_start byte a d + 1) (trim_end byte a d - 1))) _ _ _ (λ _. value_in byte a (d + 1) e n (omega arith) l) (λ _. tt) (λ _. tt))
    (λ _. tt)

item_in : (byte : ℕ → ℕ) (bits : Bits) (k : ℕ) (test : List ℕ → Match) (a e n : ℕ) → e ≤ n → ItemInRecord n (item_at byte bits k test a e)
unfolding item_at
item_in byte bits k test a e n h =
    let d = first_at (bits.colon k) a e in
    pick_ind (ItemInRecord n) (ltb d e) (keyed byte bits.quote test a d e) (Items.Broken NoColon a)
    (λ q. keyed_in byte bits.quote test a d e n (ltb-true d e q) h)
    (λ _. tt)

or_else_in : (n : ℕ) (it later : Item) → ItemInRecord n it → ItemInRecord n later → ItemInRecord n (or_else it later)
or_else_in n (Ok (Some part)) later i j = i
or_else_in n Items.Other later i j = j
or_else_in n (Err b) later i j = tt

items_in : (item : ℕ → ℕ → Item) (comma : ℕ → Bool) (n : ℕ) → ((a e : ℕ) → e ≤ n → ItemInRecord n (item a e))
    → (c a e : ℕ) → a ≤ e → e ≤ n → ItemInRecord n (first_item_in item comma c a e)
unfolding first_item_in
items_in item comma n each zero a e h l = tt
items_in item comma n each (suc c) a e h l =
    let d = first_at comma a e in
    or_else_in n (item a d) (pick (ltb d e) (first_item_in item comma c (d + 1) e) Items.Other) (each a d (omega (arith, first_le comma a e h)))
    (pick_ind (ItemInRecord n) (ltb d e) _ _ (λ q. items_in item comma n each c (d + 1) e (omega (arith, ltb-true d e q)) l) (λ _. tt))

item_no_in : (byte : ℕ → ℕ) (comma : ℕ → Bool) (n m a e : ℕ) → a ≤ e → e ≤ n → ItemInRecord n (item_no byte comma m a e)
unfolding item_no
item_no_in byte comma n zero a e h l = value_in byte a a (first_at comma a e) n (first_ge comma a e h) (omega (arith, first_le comma a e h))
item_no_in byte comma n (suc m) a e h l =
    pick_ind (ItemInRecord n) (ltb (first_at comma a e) e) _ _ (λ q. item_no_in byte comma n m (first_at comma a e + 1) e (omega (arith, ltb-true (first_at comma a e) e q)) l) (λ _. tt)

-- ---- steps

pub of_in : (n : ℕ) (none : Refusal) (k : ℕ) (it : Item) → ItemInRecord n it → InRecord n (of_item none k it)
of_in n none k (Ok (Some part)) i = i
of_in n none k Items.Other i = tt
of_in n none k (Err b) i = tt

module _ (byte : ℕ → ℕ) (bits : Bits) (n : ℕ) where
  pub name_in : (k : ℕ) (m : List ℕ) (a e : ℕ) → e ≤ n → InRecord n (name_step byte bits k m a e)
  unfolding name_step first_item
  name_in k m a e h =
      pick_ind (InRecord n) (framed byte 123 125 a e) _ _
      (λ q. let l = framed_long byte 123 125 a e q in
      pick_ind (InRecord n) (filled byte a e) _ _
      (λ _. of_in n (Missed NoName k a) k (first_item (item_at byte bits k (matched m)) (bits.comma k) (a + 1) (e - 1))
      (items_in (item_at byte bits k (matched m)) (bits.comma k) n (λ b f i. item_in byte bits k (matched m) b f n i) (suc (e - 1 - (a + 1))) (a + 1) (e - 1) (omega arith) (omega arith)))
      (λ _. tt))
      (λ _. tt)

  pub number_in : (k m a e : ℕ) → e ≤ n → InRecord n (number_step byte bits k m a e)
  unfolding number_step
  number_in k m a e h =
      pick_ind (InRecord n) (framed byte 91 93 a e) _ _
      (λ q. let l = framed_long byte 91 93 a e q in
      pick_ind (InRecord n) (filled byte a e) _ _
      (λ _. of_in n (Missed NoNumber k a) k (item_no byte (bits.comma k) m (a + 1) (e - 1)) (item_no_in byte (bits.comma k) n m (a + 1) (e - 1) (omega arith) (omega arith)))
      (λ _. tt))
      (λ _. tt)

  pub step_in : (k : ℕ) (s : Selector) (a e : ℕ) → e ≤ n → InRecord n (step_by byte bits k s a e)
  step_in k (name m) a e h = name_in k m a e h
  step_in k (number m) a e h = number_in k m a e h

  on_in : (r : Answer) (go : ℕ → ℕ → Answer) → InRecord n r → ((b f : ℕ) → b < f → f ≤ n → InRecord n (go b f)) → InRecord n (on_found r go Refused)
  on_in (Ok part) go i h = h part.start part.end i.0 i.1
  on_in (Refused why) go i h = tt

  walk_from_in : (k : ℕ) (ss : List Selector) (a e : ℕ) → a < e → e ≤ n → InRecord n (walk_from byte bits k ss a e)
  unfolding walk_from
  walk_from_in k [] a e l h = (l, h)
  walk_from_in k (s ∷ ss) a e l h =
      on_in (step_by byte bits k s a e) (λ b f. walk_from byte bits (k + 1) ss b f) (step_in k s a e h) (λ b f i j. walk_from_in (k + 1) ss b f i j)

-- ---- the walk, and the answer

pub walk_in : (text : List ℕ) (bits : Bits) (ss : List Selector) → InRecord (length text) (walk text bits ss)
unfolding walk
walk_in text bits ss =
    let n = length text in
    on_in (byte_in text) bits n (of_item (Broken EmptyValue 0 0) 0 (value_at (byte_in text) 0 0 n)) (λ a e. walk_from (byte_in text) bits 1 ss a e)
    (of_in n (Broken EmptyValue 0 0) 0 (value_at (byte_in text) 0 0 n) (value_in (byte_in text) 0 0 n n (omega arith) (omega arith)))
    (λ b f i j. walk_from_in (byte_in text) bits n 1 ss b f i j)

-- a found part "has at least one byte", and lies inside the record
pub answer_in : (text words : List ℕ) (levels : ℕ) (path : List ℕ) → InRecord (length text) (answer_of text words levels path)
unfolding answer_of
answer_in text words levels path =
    let P = InRecord (length text) in
    pick_ind P (eqb (length text) 0) (Refused EmptyRecord) _ (λ _. tt) (λ _.
    pick_ind P (ltb 16777216 (length text)) (Refused LongRecord) _ (λ _. tt) (λ _.
    pick_ind P (not (leb 1 levels && leb levels 16)) (Refused BadLevels) _ (λ _. tt) (λ _.
    pick_ind P (not (eqb (length words) (size_of levels (length text)))) (Refused BadBuffer) _ (λ _. tt) (λ _.
    pick_ind P (ltb 1024 (length path)) (Refused TooLarge) _ (λ _. tt) (λ _. go (read_path path))))))
  where
    go : (r : Reading) → InRecord (length text) (after_reading text words levels r)
    go (bad p) = tt
    go (good ss) =
        pick_ind (InRecord (length text)) (large ss) (Refused TooLarge) _ (λ _. tt) (λ _.
        pick_ind (InRecord (length text)) (ltb levels (length ss)) (Refused TooDeep) _ (λ _. tt) (λ _. walk_in text (lent words levels (width_of (length text))) ss))
