-- A machine that reads a text from the left, a move a byte, and stops at the first byte that no text could have there, or at an opener
-- that stands too deep. Nothing of it needs to be believed: what its verdict means is said by the grammar (Prefixes), and proved.
use Rattle.std.specs.Prelude.{ℕ, suc, Bool, true, false, ◌&&◌, ◌||◌, List, [], ◌∷◌, eqb, leb, ltb, length}
use Rattle.rules.specs.Word.{pick}

-- ---- bytes

unfoldable pub within : ℕ → ℕ → ℕ → Bool
within lo hi b = leb lo b && leb b hi

-- a blank, a digit, e or E, a letter behind a backslash that is an escape with it, a byte that is a character of a string by itself
unfoldable pub is_ws : ℕ → Bool
is_ws b = eqb b 0x20 || (eqb b 0x09 || (eqb b 0x0A || eqb b 0x0D))

unfoldable pub is_digit : ℕ → Bool
unfolding within
is_digit b = within 0x30 0x39 b

unfoldable pub is_e : ℕ → Bool
is_e b = eqb b 0x65 || eqb b 0x45

unfoldable pub is_short : ℕ → Bool
is_short b = eqb b 0x22 || (eqb b 0x5C || (eqb b 0x2F || (eqb b 0x62 || (eqb b 0x66 || (eqb b 0x6E || (eqb b 0x72 || eqb b 0x74))))))

unfoldable pub is_plain : ℕ → Bool
unfolding within
is_plain b = within 0x20 0x21 b || (within 0x23 0x5B b || within 0x5D 0x7F b)

-- the bytes that may stand at a place within a literal name, an escape or a character of several bytes
pub data Range : Type 0 where
  only : ℕ → Range
  hexdig tail from_A0 to_9_f from_90 to_8_f : Range

unfoldable pub fits : Range → ℕ → Bool
unfolding within
fits (only c) b = eqb b c
fits hexdig b = within 0x30 0x39 b || (within 0x41 0x46 b || within 0x61 0x66 b)
fits tail b = within 0x80 0xBF b
fits from_A0 b = within 0xA0 0xBF b
fits to_9_f b = within 0x80 0x9F b
fits from_90 b = within 0x90 0xBF b
fits to_8_f b = within 0x80 0x8F b

-- ---- states

-- a bracket that is open
pub data Bracket : Type 0 where
  in_array in_object : Bracket

-- a string is a member's name or a value
pub data Role : Type 0 where
  a_name a_value : Role

-- what has been read last, or may come next. Behind an opener (`entered`), at a name and at its colon that bracket is not on the stack.
pub data Mode : Type 0 where
  want done key colon : Mode
  entered : Bracket → Mode
  minus nought int dot frac exponent signed power : Mode
  chars escape : Role → Mode
  must : Range → List Range → Mode → Mode

-- no text has this byte here; on; or an opener, with so many brackets open before it
pub data Move : Type 0 where
  stop : Move
  to into : Mode → List Bracket → Move

abbrev pub opener_of : Bracket → ℕ
opener_of in_array = 0x5B
opener_of in_object = 0x7B

abbrev pub closer_of : Bracket → ℕ
closer_of in_array = 0x5D
closer_of in_object = 0x7D

-- an item of a bracket is wanted
abbrev pub item_mode : Bracket → Mode
item_mode in_array = want
item_mode in_object = key

abbrev pub item_stack : Bracket → List Bracket → List Bracket
item_stack in_array st = in_array ∷ st
item_stack in_object st = st

-- behind a string
abbrev pub string_end : Role → Mode
string_end a_name = colon
string_end a_value = done

-- these bytes, then that
abbrev pub musts : List Range → Mode → Mode
musts [] m = m
musts (r ∷ rs) m = must r rs m

-- ---- moves

-- a value's first byte
unfoldable pub begin : List Bracket → ℕ → Move
unfolding within
begin st b =
    pick (eqb b 0x22) (to (chars a_value) st)
    (pick (eqb b 0x2D) (to minus st)
    (pick (eqb b 0x30) (to nought st)
    (pick (within 0x31 0x39 b) (to int st)
    (pick (eqb b 0x5B) (into (entered in_array) st)
    (pick (eqb b 0x7B) (into (entered in_object) st)
    (pick (eqb b 0x66) (to (must (only 0x61) (only 0x6C ∷ only 0x73 ∷ only 0x65 ∷ []) done) st)
    (pick (eqb b 0x6E) (to (must (only 0x75) (only 0x6C ∷ only 0x6C ∷ []) done) st)
    (pick (eqb b 0x74) (to (must (only 0x72) (only 0x75 ∷ only 0x65 ∷ []) done) st)
    stop))))))))

-- behind a value
unfoldable pub after : List Bracket → ℕ → Move
unfolding is_ws
after [] b = pick (is_ws b) (to done []) stop
after (f ∷ st) b =
    pick (is_ws b) (to done (f ∷ st)) (pick (eqb b 0x2C) (to (item_mode f) (item_stack f st)) (pick (eqb b (closer_of f)) (to done st) stop))

-- an item's first byte
unfoldable pub item_first : Bracket → List Bracket → ℕ → Move
unfolding begin
item_first in_array st b = begin (in_array ∷ st) b
item_first in_object st b = pick (eqb b 0x22) (to (chars a_name) st) stop

-- a character's first byte
unfoldable pub character : Role → List Bracket → ℕ → Move
unfolding is_plain within
character k st b =
    pick (is_plain b) (to (chars k) st)
    (pick (eqb b 0x5C) (to (escape k) st)
    (pick (within 0xC2 0xDF b) (to (must tail [] (chars k)) st)
    (pick (eqb b 0xE0) (to (must from_A0 (tail ∷ []) (chars k)) st)
    (pick (within 0xE1 0xEC b) (to (must tail (tail ∷ []) (chars k)) st)
    (pick (eqb b 0xED) (to (must to_9_f (tail ∷ []) (chars k)) st)
    (pick (within 0xEE 0xEF b) (to (must tail (tail ∷ []) (chars k)) st)
    (pick (eqb b 0xF0) (to (must from_90 (tail ∷ tail ∷ []) (chars k)) st)
    (pick (within 0xF1 0xF3 b) (to (must tail (tail ∷ tail ∷ []) (chars k)) st)
    (pick (eqb b 0xF4) (to (must to_8_f (tail ∷ tail ∷ []) (chars k)) st)
    stop)))))))))

unfoldable pub move : Mode → List Bracket → ℕ → Move
unfolding within is_ws is_digit is_e is_short fits begin after item_first character
move want st b = pick (is_ws b) (to want st) (begin st b)
move done st b = after st b
move key st b = pick (is_ws b) (to key st) (item_first in_object st b)
move colon st b = pick (is_ws b) (to colon st) (pick (eqb b 0x3A) (to want (in_object ∷ st)) stop)
move (entered f) st b = pick (is_ws b) (to (entered f) st) (pick (eqb b (closer_of f)) (to done st) (item_first f st b))
move minus st b = pick (eqb b 0x30) (to nought st) (pick (within 0x31 0x39 b) (to int st) stop)
move nought st b = pick (eqb b 0x2E) (to dot st) (pick (is_e b) (to exponent st) (after st b))
move int st b = pick (is_digit b) (to int st) (pick (eqb b 0x2E) (to dot st) (pick (is_e b) (to exponent st) (after st b)))
move dot st b = pick (is_digit b) (to frac st) stop
move frac st b = pick (is_digit b) (to frac st) (pick (is_e b) (to exponent st) (after st b))
move exponent st b = pick (is_digit b) (to power st) (pick (eqb b 0x2B || eqb b 0x2D) (to signed st) stop)
move signed st b = pick (is_digit b) (to power st) stop
move power st b = pick (is_digit b) (to power st) (after st b)
move (chars k) st b = pick (eqb b 0x22) (to (string_end k) st) (character k st b)
move (escape k) st b = pick (is_short b) (to (chars k) st) (pick (eqb b 0x75) (to (must hexdig (hexdig ∷ hexdig ∷ hexdig ∷ []) (chars k)) st) stop)
move (must r rs m) st b = pick (fits r b) (to (musts rs m) st) stop

-- a value may end in this mode
abbrev pub complete : Mode → Bool
complete want = false
complete done = true
complete key = false
complete colon = false
complete (entered f) = false
complete minus = false
complete nought = true
complete int = true
complete dot = false
complete frac = true
complete exponent = false
complete signed = false
complete power = true
complete (chars k) = false
complete (escape k) = false
complete (must r rs m) = false

-- ---- the verdict

-- a text; or the place of an opener too deep; or of the first byte that no text could have there
pub data Judgement : Type 0 where
  yes : Judgement
  over no : ℕ → Judgement

-- where the bytes end, at place i
abbrev pub ends : Mode → List Bracket → ℕ → Judgement
ends m [] i = pick (complete m) yes (no i)
ends m (f ∷ st) i = no i

-- by a move at place i, and what comes of the state behind it. So many brackets may be open.
abbrev pub follow : ℕ → Move → ℕ → (Mode → List Bracket → Judgement) → Judgement
follow limit stop i on = no i
follow limit (to m st) i on = on m st
follow limit (into m st) i on = pick (ltb (length st) limit) (on m st) (over i)

-- from place i on
unfoldable pub read_on : ℕ → Mode → List Bracket → ℕ → List ℕ → Judgement
unfolding move
read_on limit m st i [] = ends m st i
read_on limit m st i (b ∷ bs) = follow limit (move m st b) i (λ m' st'. read_on limit m' st' (suc i) bs)

-- the verdict on a text
unfoldable pub judge : ℕ → List ℕ → Judgement
unfolding read_on
judge limit text = read_on limit want [] 0 text
