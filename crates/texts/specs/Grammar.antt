-- The grammar of RFC 8259, with UTF-8 as in RFC 3629, as derivations over lists of bytes: each rule with its section, its name and its
-- alternatives in the RFC's order. %xNN is 0xNN here. A rule stands below those that it names, so sections 6 and 7 precede 3, 4 and 5.
use Rattle.std.specs.Prelude.{◌≡◌, List, [], ◌∷◌, ◌++◌, ℕ, ◌+◌, ◌-◌, ◌*◌, ◌%◌}
pub use Rattle.rules.specs.Bytes.{In}

-- ---- ABNF (RFC 5234): %xLO-HI is `In 0xLO 0xHI`

-- [ rule ]
pub data Opt (Rule : List ℕ → Type 0) : List ℕ → Type 0 where
  none : Opt Rule []
  some : {bs : List ℕ} → Rule bs → Opt Rule bs

-- DIGIT = %x30-39
abbrev pub Digit : ℕ → Type 0
Digit = In 0x30 0x39

-- *DIGIT
pub data Digits : List ℕ → Type 0 where
  none : Digits []
  more : {b : ℕ} {bs : List ℕ} → Digit b → Digits bs → Digits (b ∷ bs)

-- 1*DIGIT
pub data Digits1 : List ℕ → Type 0 where
  digits : {b : ℕ} {bs : List ℕ} → Digit b → Digits bs → Digits1 (b ∷ bs)

-- HEXDIG = DIGIT / "A" / "B" / "C" / "D" / "E" / "F", in both cases, with its value
pub data Hexdig : ℕ → ℕ → Type 0 where
  digit : {b : ℕ} → Digit b → Hexdig b (b - 0x30)
  upper : {b : ℕ} → In 0x41 0x46 b → Hexdig b (b - 0x41 + 10)
  lower : {b : ℕ} → In 0x61 0x66 b → Hexdig b (b - 0x61 + 10)

-- ---- RFC 8259, section 2: insignificant whitespace, and the six structural characters

-- %x20 / %x09 / %x0A / %x0D
pub data Blank : ℕ → Type 0 where
  space : Blank 0x20
  tab : Blank 0x09
  line_feed : Blank 0x0A
  carriage_return : Blank 0x0D

-- ws = *( %x20 / %x09 / %x0A / %x0D )
pub data Ws : List ℕ → Type 0 where
  none : Ws []
  blank : {b : ℕ} {w : List ℕ} → Blank b → Ws w → Ws (b ∷ w)

-- ws %xNN ws
pub data Structural (c : ℕ) : Type 0 where
  around : {w w' : List ℕ} → Ws w → Ws w' → Structural c

-- begin-array = ws %x5B ws
abbrev pub BeginArray : Type 0
BeginArray = Structural 0x5B

-- begin-object = ws %x7B ws
abbrev pub BeginObject : Type 0
BeginObject = Structural 0x7B

-- end-array = ws %x5D ws
abbrev pub EndArray : Type 0
EndArray = Structural 0x5D

-- end-object = ws %x7D ws
abbrev pub EndObject : Type 0
EndObject = Structural 0x7D

-- name-separator = ws %x3A ws
abbrev pub NameSeparator : Type 0
NameSeparator = Structural 0x3A

-- value-separator = ws %x2C ws
abbrev pub ValueSeparator : Type 0
ValueSeparator = Structural 0x2C

-- ---- section 6: numbers

-- e = %x65 / %x45
pub data E : ℕ → Type 0 where
  lower : E 0x65
  upper : E 0x45

-- minus = %x2D
pub data Minus : List ℕ → Type 0 where
  minus : Minus (0x2D ∷ [])

-- minus / plus, plus = %x2B
pub data Sign : List ℕ → Type 0 where
  minus : Sign (0x2D ∷ [])
  plus : Sign (0x2B ∷ [])

-- exp = e [ minus / plus ] 1*DIGIT
pub data Exp : List ℕ → Type 0 where
  exp : {e : ℕ} {s ds : List ℕ} → E e → Opt Sign s → Digits1 ds → Exp (e ∷ (s ++ ds))

-- frac = decimal-point 1*DIGIT, decimal-point = %x2E
pub data Frac : List ℕ → Type 0 where
  frac : {ds : List ℕ} → Digits1 ds → Frac (0x2E ∷ ds)

-- int = zero / ( digit1-9 *DIGIT ), zero = %x30, digit1-9 = %x31-39
pub data Int : List ℕ → Type 0 where
  zero : Int (0x30 ∷ [])
  digits : {b : ℕ} {bs : List ℕ} → In 0x31 0x39 b → Digits bs → Int (b ∷ bs)

-- number = [ minus ] int [ frac ] [ exp ]
pub data Number : List ℕ → Type 0 where
  number : {m i f e : List ℕ} → Opt Minus m → Int i → Opt Frac f → Opt Exp e → Number (m ++ (i ++ (f ++ e)))

-- ---- RFC 3629, section 4: UTF8-char = UTF8-1 / UTF8-2 / UTF8-3 / UTF8-4, with its character number (section 3: the x bits, joined)

-- UTF8-tail = %x80-BF
abbrev pub Utf8Tail : ℕ → Type 0
Utf8Tail = In 0x80 0xBF

-- 10xxxxxx: six bits more
abbrev pub joined : ℕ → ℕ → ℕ
joined u b = u * 0x40 + b % 0x40

pub data Utf8Char : List ℕ → ℕ → Type 0 where
  utf8_1 : {a : ℕ} → In 0x00 0x7F a → Utf8Char (a ∷ []) a
  utf8_2 : {a b : ℕ} → In 0xC2 0xDF a → Utf8Tail b → Utf8Char (a ∷ b ∷ []) (joined (a % 0x20) b)
  utf8_3a : {b c : ℕ} → In 0xA0 0xBF b → Utf8Tail c → Utf8Char (0xE0 ∷ b ∷ c ∷ []) (joined (joined 0x0 b) c)
  utf8_3b : {a b c : ℕ} → In 0xE1 0xEC a → Utf8Tail b → Utf8Tail c → Utf8Char (a ∷ b ∷ c ∷ []) (joined (joined (a % 0x10) b) c)
  utf8_3c : {b c : ℕ} → In 0x80 0x9F b → Utf8Tail c → Utf8Char (0xED ∷ b ∷ c ∷ []) (joined (joined 0xD b) c)
  utf8_3d : {a b c : ℕ} → In 0xEE 0xEF a → Utf8Tail b → Utf8Tail c → Utf8Char (a ∷ b ∷ c ∷ []) (joined (joined (a % 0x10) b) c)
  utf8_4a : {b c d : ℕ} → In 0x90 0xBF b → Utf8Tail c → Utf8Tail d → Utf8Char (0xF0 ∷ b ∷ c ∷ d ∷ []) (joined (joined (joined 0x0 b) c) d)
  utf8_4b : {a b c d : ℕ} → In 0xF1 0xF3 a → Utf8Tail b → Utf8Tail c → Utf8Tail d
      → Utf8Char (a ∷ b ∷ c ∷ d ∷ []) (joined (joined (joined (a % 0x8) b) c) d)
  utf8_4c : {b c d : ℕ} → In 0x80 0x8F b → Utf8Tail c → Utf8Tail d → Utf8Char (0xF4 ∷ b ∷ c ∷ d ∷ []) (joined (joined (joined 0x4 b) c) d)

-- ---- RFC 8259, section 7: strings. A character stands with its number; \uXXXX with the 16 bits written

-- unescaped = %x20-21 / %x23-5B / %x5D-10FFFF
pub data Unescaped : ℕ → Type 0 where
  low : {u : ℕ} → In 0x20 0x21 u → Unescaped u
  middle : {u : ℕ} → In 0x23 0x5B u → Unescaped u
  high : {u : ℕ} → In 0x5D 0x10FFFF u → Unescaped u

-- behind the escape: %x22 / %x5C / %x2F / %x62 / %x66 / %x6E / %x72 / %x74, and the character that it means
pub data Short : ℕ → ℕ → Type 0 where
  quotation_mark : Short 0x22 0x22
  reverse_solidus : Short 0x5C 0x5C
  solidus : Short 0x2F 0x2F
  backspace : Short 0x62 0x08
  form_feed : Short 0x66 0x0C
  line_feed : Short 0x6E 0x0A
  carriage_return : Short 0x72 0x0D
  tab : Short 0x74 0x09

-- char = unescaped / escape ( .. / %x75 4HEXDIG ), escape = %x5C
pub data Char : List ℕ → ℕ → Type 0 where
  unescaped : {bs : List ℕ} {u : ℕ} → Utf8Char bs u → Unescaped u → Char bs u
  short : {a u : ℕ} → Short a u → Char (0x5C ∷ a ∷ []) u
  u_xxxx : {a b c d x y z u : ℕ} → Hexdig a x → Hexdig b y → Hexdig c z → Hexdig d u
      → Char (0x5C ∷ 0x75 ∷ a ∷ b ∷ c ∷ d ∷ []) (((x * 16 + y) * 16 + z) * 16 + u)

-- *char
pub data Chars : List ℕ → List ℕ → Type 0 where
  none : Chars [] []
  char : {b bs us : List ℕ} {u : ℕ} → Char b u → Chars bs us → Chars (b ++ bs) (u ∷ us)

-- string = quotation-mark *char quotation-mark, quotation-mark = %x22
abbrev pub string_bytes : List ℕ → List ℕ
string_bytes raw = 0x22 ∷ (raw ++ (0x22 ∷ []))

-- ---- sections 3, 4 and 5: values, objects, arrays. A derivation is a tree

mutual
  -- value = false / null / true / object / array / number / string
  pub data Value : Type 0 where
    false null true : Value
    object : Object → Value
    array : Array → Value
    number : {bs : List ℕ} → Number bs → Value
    string : {raw us : List ℕ} → Chars raw us → Value

  -- object = begin-object [ member *( value-separator member ) ] end-object
  pub data Object : Type 0 where
    no_members : BeginObject → EndObject → Object
    members : BeginObject → Members → EndObject → Object

  -- member *( value-separator member )
  pub data Members : Type 0 where
    one_member : Member → Members
    more_members : Member → ValueSeparator → Members → Members

  -- member = string name-separator value
  pub data Member : Type 0 where
    member : {raw us : List ℕ} → Chars raw us → NameSeparator → Value → Member

  -- array = begin-array [ value *( value-separator value ) ] end-array
  pub data Array : Type 0 where
    no_values : BeginArray → EndArray → Array
    values : BeginArray → Values → EndArray → Array

  -- value *( value-separator value )
  pub data Values : Type 0 where
    one_value : Value → Values
    more_values : Value → ValueSeparator → Values → Values

-- section 2: JSON-text = ws value ws
pub data JsonText : Type 0 where
  text : {w w' : List ℕ} → Ws w → Value → Ws w' → JsonText

-- ---- the bytes that a derivation derives

-- the blanks ahead of a structural character, and those behind it
abbrev pub ahead : {c : ℕ} → Structural c → List ℕ
ahead (Structural.around {w} {w'} b b') = w

abbrev pub behind : {c : ℕ} → Structural c → List ℕ
behind (Structural.around {w} {w'} b b') = w'

abbrev pub structural : {c : ℕ} → Structural c → List ℕ
structural {c} s = ahead s ++ (c ∷ behind s)

unfoldable mutual
  pub value_bytes : Value → List ℕ
  value_bytes Value.false = 0x66 ∷ 0x61 ∷ 0x6C ∷ 0x73 ∷ 0x65 ∷ []
  value_bytes Value.null = 0x6E ∷ 0x75 ∷ 0x6C ∷ 0x6C ∷ []
  value_bytes Value.true = 0x74 ∷ 0x72 ∷ 0x75 ∷ 0x65 ∷ []
  value_bytes (Value.object o) = object_bytes o
  value_bytes (Value.array a) = array_bytes a
  value_bytes (Value.number {bs} n) = bs
  value_bytes (Value.string {raw} s) = string_bytes raw

  pub object_bytes : Object → List ℕ
  object_bytes (Object.no_members b e) = structural b ++ structural e
  object_bytes (Object.members b ms e) = structural b ++ (members_bytes ms ++ structural e)

  pub members_bytes : Members → List ℕ
  members_bytes (Members.one_member m) = member_bytes m
  members_bytes (Members.more_members m s ms) = member_bytes m ++ (structural s ++ members_bytes ms)

  pub member_bytes : Member → List ℕ
  member_bytes (Member.member {raw} c s v) = string_bytes raw ++ (structural s ++ value_bytes v)

  pub array_bytes : Array → List ℕ
  array_bytes (Array.no_values b e) = structural b ++ structural e
  array_bytes (Array.values b vs e) = structural b ++ (values_bytes vs ++ structural e)

  pub values_bytes : Values → List ℕ
  values_bytes (Values.one_value v) = value_bytes v
  values_bytes (Values.more_values v s vs) = value_bytes v ++ (structural s ++ values_bytes vs)

unfoldable pub text_bytes : JsonText → List ℕ
text_bytes (JsonText.text {w} {w'} b v b') = w ++ (value_bytes v ++ w')

-- a list of bytes that obeys RFC 8259
pub record Text (bs : List ℕ) : Type 0 where
  pub derivation : JsonText
  pub derives : text_bytes derivation ≡ bs
