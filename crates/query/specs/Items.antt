-- Blanks, values, and the items that a step takes: section 'Paths', over bytes and bits as functions of a place.
use Rattle.std.specs.Prelude.{ℕ, zero, suc, Ok, Err, Some, ◌+◌, ◌-◌, Bool, not, ◌&&◌, ◌||◌, List, ltb, eqb}
use Rattle.rules.specs.Word.{pick}
use Rattle.rules.specs.Layout.{quotes, colons, commas, bit_in}
use Rattle.paths.specs.Places.{between, first_at, past_last}
use Rattle.names.specs.Spelling.{on_match, Match}
use Rattle.query.specs.declared.types.Cause.TheVariants.{NoColon, BadName, EmptyValue, BadEscape}
use Rattle.query.specs.Item.{Item, Found, Other, Broken}

-- what a walk asks of the words: quote bits, and the colon and comma bits of a level
pub record Bits : Type 0 where
  pub quote : ℕ → Bool
  pub colon : ℕ → ℕ → Bool
  pub comma : ℕ → ℕ → Bool

-- the bits lent to a query, of so many levels and words each
abbrev pub lent : List ℕ → ℕ → ℕ → Bits
lent words levels width =
    record { quote = bit_in words levels width quotes; colon = λ k. bit_in words levels width (colons k); comma = λ k. bit_in words levels width (commas k) }

-- ---- blanks and values

-- "Blanks are space, tab, LF and CR"
unfoldable pub is_blank : ℕ → Bool
is_blank b = eqb b 32 || (eqb b 9 || (eqb b 10 || eqb b 13))

abbrev pub solid : (ℕ → ℕ) → ℕ → Bool
solid byte i = not (is_blank (byte i))

-- "without end blanks": where what lies from a to e begins then, and where it ends
abbrev pub trim_start : (ℕ → ℕ) → ℕ → ℕ → ℕ
trim_start byte a e = first_at (solid byte) a e

abbrev pub trim_end : (ℕ → ℕ) → ℕ → ℕ → ℕ
trim_end byte a e = past_last (solid byte) (trim_start byte a e) e

-- what lies from a to e, "without end blanks", in an item that begins at `place`; empty is 29
unfoldable pub value_at : (ℕ → ℕ) → ℕ → ℕ → ℕ → Item
value_at byte place a e = pick (ltb (trim_start byte a e) (trim_end byte a e)) (Found (trim_start byte a e) (trim_end byte a e)) (Broken EmptyValue place)

-- ---- items of a name step

-- from p to q: "a quote bit, none or more bytes without a quote bit, a quote bit"
unfoldable pub quoted : (ℕ → Bool) → ℕ → ℕ → Bool
quoted quote p q = ltb (p + 1) q && (quote p && eqb (first_at quote (p + 1) q + 1) q)

-- an item from a to e whose first colon is at d, by a test of its name: "broken .. if what precedes the first such colon, without end blanks, is not"
-- quoted (28), then if the test says so of the name (30); else "the value is what follows that colon"
unfoldable pub keyed : (ℕ → ℕ) → (ℕ → Bool) → (List ℕ → Match) → ℕ → ℕ → ℕ → Item
unfolding value_at quoted
keyed byte quote test a d e =
    pick (quoted quote (trim_start byte a d) (trim_end byte a d))
    (on_match (test (between byte (trim_start byte a d + 1) (trim_end byte a d - 1))) (value_at byte a (d + 1) e) Other (Broken BadEscape a))
    (Broken BadName a)

-- an item from a to e: "broken if it has no colon of level k". Its place is "the byte after the bracket or comma before it"
unfoldable pub item_at : (ℕ → ℕ) → Bits → ℕ → (List ℕ → Match) → ℕ → ℕ → Item
unfolding keyed
item_at byte bits k test a e =
    pick (ltb (first_at (bits.colon k) a e) e) (keyed byte bits.quote test a (first_at (bits.colon k) a e) e) (Broken NoColon a)

-- another item goes on, one that is found or broken stops
abbrev pub or_else : Item → Item → Item
or_else (Ok (Some part)) later = Ok (Some part)
or_else Other later = later
or_else (Err b) later = Err b

-- of at most so many items
unfoldable pub first_item_in : (ℕ → ℕ → Item) → (ℕ → Bool) → ℕ → ℕ → ℕ → Item
first_item_in item comma zero a e = Other
first_item_in item comma (suc c) a e =
    let later = first_item_in item comma c (first_at comma a e + 1) e in
    or_else (item a (first_at comma a e)) (pick (ltb (first_at comma a e) e) later Other)

-- "takes items from the left", cut at the commas from a to e: "stops at the first broken item or the first" found; else Other.
-- (There is at most one item more than places.)
unfoldable pub first_item : (ℕ → ℕ → Item) → (ℕ → Bool) → ℕ → ℕ → Item
unfolding first_item_in
first_item item comma a e = first_item_in item comma (suc (e - a)) a e

-- ---- items of a number step

-- "the item with that number from 0, without end blanks", of those cut at the commas from a to e; else Other
unfoldable pub item_no : (ℕ → ℕ) → (ℕ → Bool) → ℕ → ℕ → ℕ → Item
unfolding value_at
item_no byte comma zero a e = value_at byte a a (first_at comma a e)
item_no byte comma (suc m) a e =
    let later = item_no byte comma m (first_at comma a e + 1) e in
    pick (ltb (first_at comma a e) e) later Other
