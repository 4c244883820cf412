-- The order of the items, on a broken item between two whole ones: a name before it is found, for one behind it the step stops. By computing.
use Prim.Native.Nat.{ℕ}
use mathlib.Core.Path.{refl}
use mathlib.Core.List.{List, [], ◌∷◌}
use Rattle.rules.specs.Word.{odd, count}
use Rattle.rules.specs.Bytes.{is, has}
use Rattle.rules.specs.Bits.{run_before, escaped, quote_bit, in_string, mask_bit, plain, opener, closer, at_depth, level_bit}
use Rattle.rules.specs.Layout.{bit_of, listed}
use Rattle.paths.specs.Places.{byte_in, first_at, past_last}
use Rattle.paths.specs.Grammar.{name}
use Rattle.names.specs.Spelling.{spelt, spell_from, spelling, same, matched}
use Rattle.query.specs.Items.{is_blank, item_at, first_item}
use Rattle.walks.specs.Ruled.{ruled}
use Rattle.query.specs.Walk.{name_step}
use Rattle.walks.specs.Conditions.{StepGives}
use Rattle.query.specs.declared.types.Cause.TheVariants.{NoColon}
use Rattle.query.specs.declared.types.Refusal.TheVariants.{Broken}
use Rattle.query.specs.Answer.{Found, Refused}
use Rattle.walks.proofs.Giving.{step_gives}

-- {"a":1,b,"c":2}
pub three_items : List ℕ
three_items = 123 ∷ 34 ∷ 97 ∷ 34 ∷ 58 ∷ 49 ∷ 44 ∷ 98 ∷ 44 ∷ 34 ∷ 99 ∷ 34 ∷ 58 ∷ 50 ∷ 125 ∷ []

-- `.a` is found: the broken item behind it is not reached. `.c` is 27 of step 1, at place 7: the broken item before it stops the step
pub items_order : StepGives (byte_in three_items) (ruled three_items) 1 (name (97 ∷ [])) 0 15 (Found 5 6) × StepGives (byte_in three_items) (ruled three_items) 1 (name (99 ∷ [])) 0 15 (Refused (Broken NoColon 1 7))
unfolding three_items odd count is has run_before escaped quote_bit in_string mask_bit plain opener closer at_depth level_bit bit_of listed byte_in first_at past_last is_blank item_at first_item spelt spell_from spelling same matched name_step
items_order = (
  (step_gives (byte_in three_items) (ruled three_items) 1 (name (97 ∷ [])) 0 15 (Found 5 6)).0 refl,
  (step_gives (byte_in three_items) (ruled three_items) 1 (name (99 ∷ [])) 0 15 (Refused (Broken NoColon 1 7))).0 refl,
)
