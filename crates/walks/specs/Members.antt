-- What a step finds between the ends of a value, said of places: section 'Paths' as relations, in its order. (proofs/Giving.antt: the walk's answers are these.)
use Rattle.std.specs.Prelude.{ℕ, ◌+◌, ◌-◌, ◌≤◌, ◌<◌, ◌≡◌, Bool, true, false, List, ◌⊎◌}
use Rattle.rules.specs.Word.{count}
use Rattle.paths.specs.Places.{between}
use Rattle.names.specs.Spells.{Spells}
use Rattle.query.specs.Items.{Bits, solid}
use Rattle.query.specs.declared.types.Cause.TheVariants.{NoColon, BadName, EmptyValue, BadEscape}
use Rattle.query.specs.Item.{Item, Found, Other, Broken}

-- t holds at none of the places a, .., e - 1
abbrev pub Nowhere : (ℕ → Bool) → ℕ → ℕ → Type 0
Nowhere t a e = (i : ℕ) → a ≤ i → i < e → t i ≡ false

-- d is the first of them at which it does
pub record FirstPlace (t : ℕ → Bool) (a e d : ℕ) : Type 0 where
  pub from : a ≤ d
  pub inside : d < e
  pub holds : t d ≡ true
  pub none : Nowhere t a d

-- ---- a value

-- "Only blanks" from a to e
abbrev pub OnlyBlanks : (ℕ → ℕ) → ℕ → ℕ → Type 0
OnlyBlanks byte a e = Nowhere (solid byte) a e

-- what lies from a to e, "without end blanks", is not empty and lies from p to q
pub record Trimmed (byte : ℕ → ℕ) (a e p q : ℕ) : Type 0 where
  pub from : a ≤ p
  pub some : p < q
  pub to : q ≤ e
  pub before : OnlyBlanks byte a p
  pub first : solid byte p ≡ true
  pub last : solid byte (q - 1) ≡ true
  pub behind : OnlyBlanks byte q e

-- "needs `{` first and `}` last", or "`[` and `]`", and is not "shorter than two bytes"
pub record Framed (byte : ℕ → ℕ) (head tail a e : ℕ) : Type 0 where
  pub long : a + 1 < e
  pub first : byte a ≡ head
  pub last : byte (e - 1) ≡ tail

-- an object or an array. (123 and 125 are `{` and `}`, 91 and 93 `[` and `]`.)
abbrev pub Bracketed : (ℕ → ℕ) → ℕ → ℕ → Type 0
Bracketed byte a e = Framed byte 123 125 a e ⊎ Framed byte 91 93 a e

-- ---- its items

-- "What lies between is cut at the commas": of what lies from a to e, an item lies from s to f
pub record Borders (comma : ℕ → Bool) (a e s f : ℕ) : Type 0 where
  pub begins : (s ≡ a) ⊎ ((a < s) × (comma (s - 1) ≡ true))
  pub ends : (f ≡ e) ⊎ ((f < e) × (comma f ≡ true))
  pub order : s ≤ f
  pub uncut : Nowhere comma s f

-- "the item with that number from 0": so many commas precede it
pub record Numbered (comma : ℕ → Bool) (a e m s f : ℕ) : Type 0 where
  pub cut : Borders comma a e s f
  pub number : count comma s ≡ count comma a + m

-- where `is` says what an item is to a step: every item is whole and has another name
abbrev pub AllOther : (ℕ → ℕ → Item → Type 0) → (ℕ → Bool) → ℕ → ℕ → Type 0
AllOther is comma a e = (s f : ℕ) → Borders comma a e s f → is s f Other

-- "takes items from the left" and "stops at the first" that is broken or has the name: that one is r
pub record FirstIs (is : ℕ → ℕ → Item → Type 0) (comma : ℕ → Bool) (a e : ℕ) (r : Item) : Type 0 where
  pub start : ℕ
  pub end : ℕ
  pub cut : Borders comma a e start end
  pub here : is start end r
  pub before : (s f : ℕ) → Borders comma a e s f → s < start → is s f Other

-- ---- an item of a name step

-- from p to q: "a quote bit, none or more bytes without a quote bit, a quote bit"
pub record Quoted (quote : ℕ → Bool) (p q : ℕ) : Type 0 where
  pub long : p + 1 < q
  pub opens : quote p ≡ true
  pub inner : Nowhere quote (p + 1) (q - 1)
  pub closes : quote (q - 1) ≡ true

-- an item from s to f that is whole: its first colon of level k is at d, and what precedes that, without end blanks, is quoted; m are the bytes of its name
pub record Whole (byte : ℕ → ℕ) (bits : Bits) (k s f d : ℕ) (m : List ℕ) : Type 0 where
  pub from : ℕ
  pub to : ℕ
  pub colon : FirstPlace (bits.colon k) s f d
  pub front : Trimmed byte s d from to
  pub quoted : Quoted bits.quote from to
  pub name : m ≡ between byte (from + 1) (to - 1)

-- what an item from s to f is to step number k, by the name n; a broken one tells s, "the byte after the bracket or comma before it"
pub data Member (byte : ℕ → ℕ) (bits : Bits) (k : ℕ) (n : List ℕ) (s f : ℕ) : Item → Type 0 where
  -- "An item is broken if it has no colon of level k"
  no_colon : Nowhere (bits.colon k) s f → Member byte bits k n s f (Broken NoColon s)
  -- "or if what precedes the first such colon, without end blanks, is not" quoted
  bad_name : {d : ℕ} → FirstPlace (bits.colon k) s f d → ((p q : ℕ) → Trimmed byte s d p q → Quoted bits.quote p q → ⊥) → Member byte bits k n s f (Broken BadName s)
  -- "a name with an escape RFC 8259 has not, or an unpaired surrogate": it spells nothing
  bad_escape : {d : ℕ} {m : List ℕ} → Whole byte bits k s f d m → ((us : List ℕ) → Spells m us → ⊥) → Member byte bits k n s f (Broken BadEscape s)
  -- "names compare by their characters, escapes read"
  other : {d : ℕ} {m us : List ℕ} → Whole byte bits k s f d m → Spells m us → (us ≡ n → ⊥) → Member byte bits k n s f Other
  -- "The value is what follows that colon, without end blanks"; empty is 29
  empty : {d : ℕ} {m : List ℕ} → Whole byte bits k s f d m → Spells m n → OnlyBlanks byte (d + 1) f → Member byte bits k n s f (Broken EmptyValue s)
  found : {d p q : ℕ} {m : List ℕ} → Whole byte bits k s f d m → Spells m n → Trimmed byte (d + 1) f p q → Member byte bits k n s f (Found p q)
