-- What each state of the machine still wants, as a language: the bytes that complete a text within the limit. Each value in it stands
-- with the room that it has under the brackets around it.
use Prim.Native.Nat.{ℕ, suc, ◌+◌, ◌≤◌}
use mathlib.Core.Path.{◌≡◌}
use mathlib.Core.Bool.{true}
use mathlib.Core.List.{List, [], ◌∷◌, ◌++◌}
use lib.ListN.{length}
use Rattle.texts.specs.Grammar.{Opt, Digits, Digits1, Ws, Sign, Exp, Frac, Int, Chars, Value, Member, value_bytes, member_bytes}
use Rattle.texts.specs.Machine.{Range, fits, Bracket, in_array, in_object, Role, a_name, a_value, Mode, want, done, key, colon, entered, minus, nought, int, dot, frac, exponent, signed, power, chars, escape, must, closer_of}
use Rattle.texts.proofs.DepthLaws.{depth, member_depth}

-- ---- in general

-- bytes of one language, then bytes of another
pub data Sequence (First Second : List ℕ → Type 0) : List ℕ → Type 0 where
  and_then : {cs bs : List ℕ} → First cs → Second bs → Sequence First Second (cs ++ bs)

-- that byte, then bytes of a language
pub data Behind (c : ℕ) (Rest : List ℕ → Type 0) : List ℕ → Type 0 where
  byte : {bs : List ℕ} → Rest bs → Behind c Rest (c ∷ bs)

-- bytes that fit those ranges, one by one
pub data Matches : List Range → List ℕ → Type 0 where
  none : Matches [] []
  one : {r : Range} {rs : List Range} {b : ℕ} {bs : List ℕ} → fits r b ≡ true → Matches rs bs → Matches (r ∷ rs) (b ∷ bs)

-- ---- items of a bracket: values of an array, members of an object

abbrev pub Item : Bracket → Type 0
Item in_array = Value
Item in_object = Member

abbrev pub item_bytes : (f : Bracket) → Item f → List ℕ
item_bytes in_array v = value_bytes v
item_bytes in_object m = member_bytes m

abbrev pub item_depth : (f : Bracket) → Item f → ℕ
item_depth in_array v = depth v
item_depth in_object m = member_depth m

-- ---- values, and what stands around them

-- behind a value
pub data After (limit : ℕ) : List Bracket → List ℕ → Type 0 where
  end : {w : List ℕ} → Ws w → After limit [] w
  close : {f : Bracket} {st : List Bracket} {w bs : List ℕ} → Ws w → After limit st bs → After limit (f ∷ st) (w ++ (closer_of f ∷ bs))
  item : {f : Bracket} {st : List Bracket} {w w' bs : List ℕ} → Ws w → Ws w' → (i : Item f) → item_depth f i + suc (length st) ≤ limit → After limit (f ∷ st) bs
      → After limit (f ∷ st) (w ++ (0x2C ∷ (w' ++ (item_bytes f i ++ bs))))

-- a value, and what stands behind it
pub data Valued (limit : ℕ) (st : List Bracket) : List ℕ → Type 0 where
  value : {bs : List ℕ} (v : Value) → depth v + length st ≤ limit → After limit st bs → Valued limit st (value_bytes v ++ bs)

abbrev pub Want : ℕ → List Bracket → List ℕ → Type 0
Want limit st = Sequence Ws (Valued limit st)

abbrev pub Colon : ℕ → List Bracket → List ℕ → Type 0
Colon limit st = Sequence Ws (Behind 0x3A (Want limit (in_object ∷ st)))

-- the rest of a string
pub data InString (Rest : List ℕ → Type 0) : List ℕ → Type 0 where
  string : {raw us bs : List ℕ} → Chars raw us → Rest bs → InString Rest (raw ++ (0x22 ∷ bs))

-- an item, and what stands behind it
abbrev pub Itemed : ℕ → Bracket → List Bracket → List ℕ → Type 0
Itemed limit in_array st = Valued limit (in_array ∷ st)
Itemed limit in_object st = Behind 0x22 (InString (Colon limit st))

-- behind an opener and blanks
pub data Entered (limit : ℕ) (f : Bracket) (st : List Bracket) : List ℕ → Type 0 where
  empty : {bs : List ℕ} → After limit st bs → Entered limit f st (closer_of f ∷ bs)
  items : {bs : List ℕ} → Itemed limit f st bs → Entered limit f st bs

-- behind a string, by what it is
abbrev pub StringNext : ℕ → Role → List Bracket → List ℕ → Type 0
StringNext limit a_name st = Colon limit st
StringNext limit a_value st = After limit st

-- ---- the rest of a number, by the mode

pub data NumberRest : Mode → List ℕ → Type 0 where
  at_minus : {i f e : List ℕ} → Int i → Opt Frac f → Opt Exp e → NumberRest minus (i ++ (f ++ e))
  at_nought : {f e : List ℕ} → Opt Frac f → Opt Exp e → NumberRest nought (f ++ e)
  at_int : {ds f e : List ℕ} → Digits ds → Opt Frac f → Opt Exp e → NumberRest int (ds ++ (f ++ e))
  at_dot : {ds e : List ℕ} → Digits1 ds → Opt Exp e → NumberRest dot (ds ++ e)
  at_frac : {ds e : List ℕ} → Digits ds → Opt Exp e → NumberRest frac (ds ++ e)
  at_exponent : {s ds : List ℕ} → Opt Sign s → Digits1 ds → NumberRest exponent (s ++ ds)
  at_signed : {ds : List ℕ} → Digits1 ds → NumberRest signed ds
  at_power : {ds : List ℕ} → Digits ds → NumberRest power ds

abbrev pub NumberThen : ℕ → Mode → List Bracket → List ℕ → Type 0
NumberThen limit m st = Sequence (NumberRest m) (After limit st)

-- ---- what a state wants

abbrev pub Wanted : ℕ → Mode → List Bracket → List ℕ → Type 0
Wanted limit want st bs = Want limit st bs
Wanted limit done st bs = After limit st bs
Wanted limit key st bs = Sequence Ws (Itemed limit in_object st) bs
Wanted limit colon st bs = Colon limit st bs
Wanted limit (entered f) st bs = Sequence Ws (Entered limit f st) bs
Wanted limit minus st bs = NumberThen limit minus st bs
Wanted limit nought st bs = NumberThen limit nought st bs
Wanted limit int st bs = NumberThen limit int st bs
Wanted limit dot st bs = NumberThen limit dot st bs
Wanted limit frac st bs = NumberThen limit frac st bs
Wanted limit exponent st bs = NumberThen limit exponent st bs
Wanted limit signed st bs = NumberThen limit signed st bs
Wanted limit power st bs = NumberThen limit power st bs
Wanted limit (chars k) st bs = InString (StringNext limit k st) bs
Wanted limit (escape k) st bs = InString (StringNext limit k st) (0x5C ∷ bs)
Wanted limit (must r rs m) st bs = Sequence (Matches (r ∷ rs)) (Wanted limit m st) bs

-- how many brackets are open, with the one that is not on the stack
abbrev pub string_height : Role → List Bracket → ℕ
string_height a_name st = suc (length st)
string_height a_value st = length st

abbrev pub height : Mode → List Bracket → ℕ
height want st = length st
height done st = length st
height key st = suc (length st)
height colon st = suc (length st)
height (entered f) st = suc (length st)
height minus st = length st
height nought st = length st
height int st = length st
height dot st = length st
height frac st = length st
height exponent st = length st
height signed st = length st
height power st = length st
height (chars k) st = string_height k st
height (escape k) st = string_height k st
height (must r rs m) st = height m st
