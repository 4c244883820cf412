-- When a query gives each number, and that in the order of its checks. (proofs/Numbers.antt: exactly then.)
use Rattle.std.specs.Prelude.{ℕ, ◌+◌, ◌-◌, ◌≤◌, ◌<◌, ◌≡◌, true, false, List, [], ◌∷◌, ◌⊎◌, length, take}
use Rattle.rules.specs.Word.{count}
use Rattle.rules.specs.Layout.{width_of, size_of}
use Rattle.paths.specs.Places.{byte_in}
use Rattle.paths.specs.Grammar.{Selector, name, number, Path, RefusedAt}
use Rattle.paths.specs.Path.{large}
use Rattle.query.specs.Items.{Bits, lent}
use Rattle.query.specs.Answers.{miss_number, cause_number, number_of, place_of, step_of, answer_of}
use Rattle.walks.specs.Members.{OnlyBlanks, Trimmed, Framed, Bracketed, Borders, Numbered, AllOther, FirstIs, Member}
use Rattle.query.specs.Item as Items
use Rattle.query.specs.declared.types.Cause.{Cause}
use Rattle.query.specs.declared.types.Cause.TheVariants.{EmptyValue}
use Rattle.query.specs.declared.types.Miss.{Miss}
use Rattle.query.specs.declared.types.Miss.TheVariants.{NotObject, NotArray, NoName, NoNumber}
use Rattle.query.specs.declared.types.Refusal.{Refusal}
use Rattle.query.specs.declared.types.Refusal.TheVariants.{EmptyRecord, LongRecord, BadLevels, BadBuffer, BadPath, TooLarge, TooDeep, Missed, Broken}
use Rattle.query.specs.Answer.{Answer, Found, Refused}

-- ---- the walk

-- what step number k gives in the value from a to e; a miss tells a, "the first byte of the value the step works in". (123 and 125 are `{` and `}`,
-- 91 and 93 `[` and `]`.)
pub data StepGives (byte : ℕ → ℕ) (bits : Bits) (k : ℕ) : Selector → ℕ → ℕ → Answer → Type 0 where
  not_object : {n : List ℕ} {a e : ℕ} → (Framed byte 123 125 a e → ⊥) → StepGives byte bits k (name n) a e (Refused (Missed NotObject k a))
  no_member : {n : List ℕ} {a e : ℕ} → Framed byte 123 125 a e → OnlyBlanks byte (a + 1) (e - 1) → StepGives byte bits k (name n) a e (Refused (Missed NoName k a))
  no_name : {n : List ℕ} {a e : ℕ} → Framed byte 123 125 a e → (OnlyBlanks byte (a + 1) (e - 1) → ⊥)
      → AllOther (Member byte bits k n) (bits.comma k) (a + 1) (e - 1) → StepGives byte bits k (name n) a e (Refused (Missed NoName k a))
  broken_member : {n : List ℕ} {a e p : ℕ} {why : Cause} → Framed byte 123 125 a e → (OnlyBlanks byte (a + 1) (e - 1) → ⊥)
      → FirstIs (Member byte bits k n) (bits.comma k) (a + 1) (e - 1) (Items.Broken why p) → StepGives byte bits k (name n) a e (Refused (Broken why k p))
  member : {n : List ℕ} {a e p q : ℕ} → Framed byte 123 125 a e → (OnlyBlanks byte (a + 1) (e - 1) → ⊥)
      → FirstIs (Member byte bits k n) (bits.comma k) (a + 1) (e - 1) (Items.Found p q) → StepGives byte bits k (name n) a e (Found p q)
  not_array : {m a e : ℕ} → (Framed byte 91 93 a e → ⊥) → StepGives byte bits k (number m) a e (Refused (Missed NotArray k a))
  no_element : {m a e : ℕ} → Framed byte 91 93 a e → OnlyBlanks byte (a + 1) (e - 1) → StepGives byte bits k (number m) a e (Refused (Missed NoNumber k a))
  no_number : {m a e : ℕ} → Framed byte 91 93 a e → (OnlyBlanks byte (a + 1) (e - 1) → ⊥)
      → count (bits.comma k) (e - 1) < count (bits.comma k) (a + 1) + m → StepGives byte bits k (number m) a e (Refused (Missed NoNumber k a))
  broken_element : {m a e s f : ℕ} → Framed byte 91 93 a e → (OnlyBlanks byte (a + 1) (e - 1) → ⊥)
      → Numbered (bits.comma k) (a + 1) (e - 1) m s f → OnlyBlanks byte s f → StepGives byte bits k (number m) a e (Refused (Broken EmptyValue k s))
  element : {m a e s f p q : ℕ} → Framed byte 91 93 a e → (OnlyBlanks byte (a + 1) (e - 1) → ⊥)
      → Numbered (bits.comma k) (a + 1) (e - 1) m s f → Trimmed byte s f p q → StepGives byte bits k (number m) a e (Found p q)

-- what the steps that are left give: the first that stops does, else the last one's part
pub data StepsGive (byte : ℕ → ℕ) (bits : Bits) : ℕ → List Selector → ℕ → ℕ → Answer → Type 0 where
  done : {k a e : ℕ} → StepsGive byte bits k [] a e (Found a e)
  here : {k a e : ℕ} {s : Selector} {ss : List Selector} {why : Refusal} → StepGives byte bits k s a e (Refused why) → StepsGive byte bits k (s ∷ ss) a e (Refused why)
  later : {k a e b f : ℕ} {s : Selector} {ss : List Selector} {r : Answer} → StepGives byte bits k s a e (Found b f) → StepsGive byte bits (k + 1) ss b f r
      → StepsGive byte bits k (s ∷ ss) a e r

-- what a walk gives: "The value of `$` is the record without blanks at its ends"; blank all through is 29, "step 0, place 0"
pub data WalkGives (text : List ℕ) (bits : Bits) (ss : List Selector) : Answer → Type 0 where
  blank : OnlyBlanks (byte_in text) 0 (length text) → WalkGives text bits ss (Refused (Broken EmptyValue 0 0))
  within : {a e : ℕ} {r : Answer} → Trimmed (byte_in text) 0 (length text) a e → StepsGive (byte_in text) bits 1 ss a e r → WalkGives text bits ss r

-- ---- the checks, in their order

-- 1 and 2 are passed
pub record Sized (text : List ℕ) : Type 0 where
  pub some : 0 < length text
  pub short : length text ≤ 16777216

-- 3 too
pub record Levelled (text : List ℕ) (levels : ℕ) : Type 0 where
  pub sized : Sized text
  pub low : 1 ≤ levels
  pub high : levels ≤ 16

-- and 4
pub record Lendable (text words : List ℕ) (levels : ℕ) : Type 0 where
  pub levelled : Levelled text levels
  pub long : length words ≡ size_of levels (length text)

-- and the path's length
pub record Brief (text words : List ℕ) (levels : ℕ) (path : List ℕ) : Type 0 where
  pub lendable : Lendable text words levels
  pub short : length path ≤ 1024

-- and 20, number size and 22: the path has these selectors
pub record Walkable (text words : List ℕ) (levels : ℕ) (path : List ℕ) (ss : List Selector) : Type 0 where
  pub brief : Brief text words levels path
  pub parsed : Path path ss
  pub small : large ss ≡ false
  pub few : length ss ≤ levels

-- the answers and their conditions
pub data Given (text words : List ℕ) (levels : ℕ) (path : List ℕ) : Answer → Type 0 where
  empty : length text ≡ 0 → Given text words levels path (Refused EmptyRecord)
  long : 16777216 < length text → Given text words levels path (Refused LongRecord)
  levels_out : Sized text → (levels ≡ 0) ⊎ (16 < levels) → Given text words levels path (Refused BadLevels)
  other_buffer : Levelled text levels → (length words ≡ size_of levels (length text) → ⊥) → Given text words levels path (Refused BadBuffer)
  long_path : Lendable text words levels → 1024 < length path → Given text words levels path (Refused TooLarge)
  no_path : {p : ℕ} → Brief text words levels path → RefusedAt path p → Given text words levels path (Refused (BadPath p))
  large_number : {ss : List Selector} → Brief text words levels path → Path path ss → large ss ≡ true → Given text words levels path (Refused TooLarge)
  deep : {ss : List Selector} → Brief text words levels path → Path path ss → large ss ≡ false → levels < length ss → Given text words levels path (Refused TooDeep)
  walked : {r : Answer} {ss : List Selector} → Walkable text words levels path ss → WalkGives text (lent words levels (width_of (length text))) ss r
      → Given text words levels path r

-- ---- of numbers

-- a walk along the path gives this answer
pub record Walks (text words : List ℕ) (levels : ℕ) (path : List ℕ) (r : Answer) : Type 0 where
  pub selectors : List Selector
  pub walkable : Walkable text words levels path selectors
  pub gives : WalkGives text (lent words levels (width_of (length text))) selectors r

-- at some step and place a walk finds nothing, or meets a broken item
abbrev pub Misses : List ℕ → List ℕ → ℕ → List ℕ → Miss → Type 0
Misses text words levels path why = (k : ℕ) × (p : ℕ) × Walks text words levels path (Refused (Missed why k p))

abbrev pub Breaks : List ℕ → List ℕ → ℕ → List ℕ → Cause → Type 0
Breaks text words levels path why = (k : ℕ) × (p : ℕ) × Walks text words levels path (Refused (Broken why k p))

-- the query tells this number, this step and this place
abbrev pub Says : List ℕ → List ℕ → ℕ → List ℕ → (number step place : ℕ) → Type 0
Says text words levels path n k p =
    (number_of (answer_of text words levels path) ≡ n) × (step_of (answer_of text words levels path) ≡ k) × (place_of (answer_of text words levels path) ≡ p)

-- ---- what 23 to 30 tell beside their number (proofs/Telling.antt: of every query)

-- "the path step, from 1, and a place in the record". The steps before it find a value, from a to e
pub data Tells (text : List ℕ) (bits : Bits) (ss : List Selector) : (number step place : ℕ) → Type 0 where
  -- "for 23 to 26 the first byte of the value the step works in"
  miss : (why : Miss) {k a e : ℕ} → k < length ss → WalkGives text bits (take k ss) (Found a e) → Tells text bits ss (miss_number why) (k + 1) a
  -- "for a broken item the byte after the bracket or comma before it": s, where an item of that object or array begins
  broken : (why : Cause) {k a e s f : ℕ} → k < length ss → WalkGives text bits (take k ss) (Found a e) → Bracketed (byte_in text) a e
      → Borders (bits.comma (k + 1)) (a + 1) (e - 1) s f → Tells text bits ss (cause_number why) (k + 1) s
  -- "for an all-blank record step 0, place 0"
  all_blank : OnlyBlanks (byte_in text) 0 (length text) → Tells text bits ss 29 0 0

-- a walk along the path tells this
pub record WalkTells (text words : List ℕ) (levels : ℕ) (path : List ℕ) (number step place : ℕ) : Type 0 where
  pub selectors : List Selector
  pub walkable : Walkable text words levels path selectors
  pub tells : Tells text (lent words levels (width_of (length text))) selectors number step place
