-- The walk: section 'Paths', step after step, over the record's bytes and any bits.
use Rattle.std.specs.Prelude.{ℕ, Ok, Err, Some, ◌+◌, ◌-◌, Bool, ◌&&◌, List, [], ◌∷◌, length, ltb, eqb}
use Rattle.rules.specs.Word.{pick}
use Rattle.paths.specs.Places.{byte_in}
use Rattle.paths.specs.Grammar.{Selector, name, number}
use Rattle.names.specs.Spelling.{matched}
use Rattle.query.specs.Items.{Bits, trim_start, value_at, item_at, first_item, item_no}
use Rattle.query.specs.declared.types.Cause.TheVariants.{EmptyValue}
use Rattle.query.specs.declared.types.Miss.TheVariants.{NotObject, NotArray, NoName, NoNumber}
use Rattle.query.specs.declared.types.Refusal.{Refusal}
use Rattle.query.specs.declared.types.Refusal.TheVariants.{Missed, Broken}
use Rattle.query.specs.Answer.{Answer, Found, Refused}
use Rattle.query.specs.Item.{Item}
use Rattle.query.specs.Item as Items

-- by whether a part was found
abbrev pub on_found {ℓ} : {A : Type ℓ} → Answer → (ℕ → ℕ → A) → (Refusal → A) → A
on_found (Ok part) found refused = found part.start part.end
on_found (Refused why) found refused = refused why

-- what an item answers in step number k, and what it means that there is none
abbrev pub of_item : Refusal → ℕ → Item → Answer
of_item none k (Ok (Some part)) = Ok part
of_item none k Items.Other = Refused none
of_item none k (Err b) = Refused (Broken b.why k b.place)

-- "needs `{` first and `}` last", or "`[` and `]`"; "a value shorter than two bytes is 23 or 24"
unfoldable pub framed : (ℕ → ℕ) → ℕ → ℕ → ℕ → ℕ → Bool
framed byte head tail a e = ltb (a + 1) e && (eqb (byte a) head && eqb (byte (e - 1)) tail)

-- what lies between is not "only blanks"
unfoldable pub filled : (ℕ → ℕ) → ℕ → ℕ → Bool
filled byte a e = ltb (trim_start byte (a + 1) (e - 1)) (e - 1)

-- step number k, by a name, in the value from a to e. A miss tells "the first byte of the value the step works in"
unfoldable pub name_step : (ℕ → ℕ) → Bits → ℕ → List ℕ → ℕ → ℕ → Answer
unfolding framed filled
name_step byte bits k n a e =
    pick (framed byte 123 125 a e)
    (pick (filled byte a e)
    (of_item (Missed NoName k a) k (first_item (item_at byte bits k (matched n)) (bits.comma k) (a + 1) (e - 1)))
    (Refused (Missed NoName k a)))
    (Refused (Missed NotObject k a))

-- and by a number
unfoldable pub number_step : (ℕ → ℕ) → Bits → ℕ → ℕ → ℕ → ℕ → Answer
unfolding framed filled
number_step byte bits k m a e =
    pick (framed byte 91 93 a e)
    (pick (filled byte a e)
    (of_item (Missed NoNumber k a) k (item_no byte (bits.comma k) m (a + 1) (e - 1)))
    (Refused (Missed NoNumber k a)))
    (Refused (Missed NotArray k a))

abbrev pub step_by : (ℕ → ℕ) → Bits → ℕ → Selector → ℕ → ℕ → Answer
step_by byte bits k (name n) a e = name_step byte bits k n a e
step_by byte bits k (number m) a e = number_step byte bits k m a e

-- the steps that are left, from number k on
unfoldable pub walk_from : (ℕ → ℕ) → Bits → ℕ → List Selector → ℕ → ℕ → Answer
unfolding name_step number_step
walk_from byte bits k [] a e = Found a e
walk_from byte bits k (s ∷ ss) a e = on_found (step_by byte bits k s a e) (λ b f. walk_from byte bits (k + 1) ss b f) Refused

-- "The value of `$` is the record without blanks at its ends"; blank all through is 29, "step 0, place 0"
unfoldable pub walk : List ℕ → Bits → List Selector → Answer
unfolding walk_from
walk text bits ss =
    on_found (of_item (Broken EmptyValue 0 0) 0 (value_at (byte_in text) 0 0 (length text))) (λ a e. walk_from (byte_in text) bits 1 ss a e) Refused
