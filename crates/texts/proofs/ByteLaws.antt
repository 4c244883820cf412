-- What the machine's tests say of a byte, in the grammar's terms: blanks, digits, escapes, and characters of one to four bytes.
use mathlib.Core.Path.{◌≡◌, refl, ap₂}
use mathlib.Core.Bool.{Bool, true, false, ◌&&◌, ◌||◌, false≢true}
use mathlib.Core.List.{List, [], ◌∷◌, map}
use Prim.Native.Nat.{ℕ}
use native.Mathlib.Omega.{arith}
use borrow.Author.Tests.{eqb-true, leb-true}
use lib.Dec.{eqb, leb}
use Rattle.texts.specs.Grammar.{In, Digit, Blank, E, Sign, Hexdig, Utf8Char, Unescaped, Short, Char}
use Rattle.texts.specs.Machine.{within, is_ws, is_digit, is_e, is_short, is_plain, Range, only, hexdig, tail, from_A0, to_9_f, from_90, to_8_f, fits}
use Rattle.texts.proofs.Languages.{Matches, none, one}

either : {C : Type 0} (s t : Bool) → (s || t) ≡ true → (s ≡ true → C) → (t ≡ true → C) → C
either true t e f g = f refl
either false t e f g = g e

pub in_range_is : (lo hi b : ℕ) → within lo hi b ≡ true → In lo hi b
unfolding within
in_range_is lo hi b e = go (leb lo b) (leb b hi) refl refl e
  where
    go : (s t : Bool) → leb lo b ≡ s → leb b hi ≡ t → (s && t) ≡ true → In lo hi b
    go true true f g h = record { low = leb-true lo b f; high = leb-true b hi g }
    go true false f g h = absurd (false≢true h)
    go false t f g h = absurd (false≢true h)

pub is_blank_holds : (b : ℕ) → is_ws b ≡ true → Blank b
unfolding is_ws
is_blank_holds b e =
    either (eqb b 0x20) _ e (λ h. rw (eqb-true b 0x20 h) Blank.space) λ e. either (eqb b 0x09) _ e (λ h. rw (eqb-true b 0x09 h) Blank.tab)
    λ e. either (eqb b 0x0A) _ e (λ h. rw (eqb-true b 0x0A h) Blank.line_feed) λ h. rw (eqb-true b 0x0D h) Blank.carriage_return

pub is_digit_holds : (b : ℕ) → is_digit b ≡ true → Digit b
unfolding is_digit
is_digit_holds = in_range_is 0x30 0x39

pub is_e_holds : (b : ℕ) → is_e b ≡ true → E b
unfolding is_e
is_e_holds b e = either (eqb b 0x65) _ e (λ h. rw (eqb-true b 0x65 h) E.lower) (λ h. rw (eqb-true b 0x45 h) E.upper)

pub is_sign : (b : ℕ) → (eqb b 0x2B || eqb b 0x2D) ≡ true → Sign (b ∷ [])
is_sign b e = either (eqb b 0x2B) _ e (λ h. rw (eqb-true b 0x2B h) Sign.plus) (λ h. rw (eqb-true b 0x2D h) Sign.minus)

-- ---- characters

abbrev pub Charred : List ℕ → Type 0
Charred bs = (u : ℕ) × Char bs u

large : {bs : List ℕ} {u : ℕ} → Utf8Char bs u → In 0x5D 0x10FFFF u → Charred bs
large {u} c h = (u, Char.unescaped c (Unescaped.high h))

pub is_short_holds : (b : ℕ) → is_short b ≡ true → Charred (0x5C ∷ b ∷ [])
unfolding is_short
is_short_holds b e =
    either (eqb b 0x22) _ e (λ h. of {u = 0x22} (rw (eqb-true b 0x22 h) Short.quotation_mark))
    λ e. either (eqb b 0x5C) _ e (λ h. of {u = 0x5C} (rw (eqb-true b 0x5C h) Short.reverse_solidus))
    λ e. either (eqb b 0x2F) _ e (λ h. of {u = 0x2F} (rw (eqb-true b 0x2F h) Short.solidus))
    λ e. either (eqb b 0x62) _ e (λ h. of {u = 0x08} (rw (eqb-true b 0x62 h) Short.backspace))
    λ e. either (eqb b 0x66) _ e (λ h. of {u = 0x0C} (rw (eqb-true b 0x66 h) Short.form_feed))
    λ e. either (eqb b 0x6E) _ e (λ h. of {u = 0x0A} (rw (eqb-true b 0x6E h) Short.line_feed))
    λ e. either (eqb b 0x72) _ e (λ h. of {u = 0x0D} (rw (eqb-true b 0x72 h) Short.carriage_return))
    λ h. of {u = 0x09} (rw (eqb-true b 0x74 h) Short.tab)
  where
    of : {u : ℕ} → Short b u → Charred (0x5C ∷ b ∷ [])
    of {u} s = (u, Char.short s)

pub is_plain_holds : (b : ℕ) → is_plain b ≡ true → Charred (b ∷ [])
unfolding is_plain
is_plain_holds b e =
    either (within 0x20 0x21 b) _ e (λ h. let i = in_range_is 0x20 0x21 b h in (b, Char.unescaped (Utf8Char.utf8_1 (omega arith)) (Unescaped.low i)))
    λ e. either (within 0x23 0x5B b) _ e (λ h. let i = in_range_is 0x23 0x5B b h in (b, Char.unescaped (Utf8Char.utf8_1 (omega arith)) (Unescaped.middle i)))
    λ h. let i = in_range_is 0x5D 0x7F b h in large (Utf8Char.utf8_1 (omega arith)) (omega arith)

is_hexdig : (b : ℕ) → fits hexdig b ≡ true → (x : ℕ) × Hexdig b x
unfolding fits
is_hexdig b e =
    either (within 0x30 0x39 b) _ e (λ h. (_, Hexdig.digit (in_range_is 0x30 0x39 b h)))
    λ e. either (within 0x41 0x46 b) _ e (λ h. (_, Hexdig.upper (in_range_is 0x41 0x46 b h))) (λ h. (_, Hexdig.lower (in_range_is 0x61 0x66 b h)))

is_tail_holds : (b : ℕ) → fits tail b ≡ true → In 0x80 0xBF b
unfolding fits
is_tail_holds = in_range_is 0x80 0xBF

-- behind \u
pub four_digits : {cs : List ℕ} → Matches (hexdig ∷ hexdig ∷ hexdig ∷ hexdig ∷ []) cs → Charred (0x5C ∷ 0x75 ∷ cs)
four_digits (one {b = x} h (one {b = y} i (one {b = z} j (one {b = u} k none)))) =
    (_, Char.u_xxxx (is_hexdig x h).1 (is_hexdig y i).1 (is_hexdig z j).1 (is_hexdig u k).1)

-- behind the first byte of a character of several
three_bytes : {a : ℕ} {r : Range} {cs : List ℕ} → ((x y : ℕ) → fits r x ≡ true → In 0x80 0xBF y → Charred (a ∷ x ∷ y ∷ []))
    → Matches (r ∷ tail ∷ []) cs → Charred (a ∷ cs)
three_bytes f (one {b = x} i (one {b = y} j none)) = f x y i (is_tail_holds y j)

four_bytes : {a : ℕ} {r : Range} {cs : List ℕ} → ((x y z : ℕ) → fits r x ≡ true → In 0x80 0xBF y → In 0x80 0xBF z → Charred (a ∷ x ∷ y ∷ z ∷ []))
    → Matches (r ∷ tail ∷ tail ∷ []) cs → Charred (a ∷ cs)
four_bytes f (one {b = x} i (one {b = y} j (one {b = z} k none))) = f x y z i (is_tail_holds y j) (is_tail_holds z k)

pub after_C2 : {a : ℕ} {cs : List ℕ} → In 0xC2 0xDF a → Matches (tail ∷ []) cs → Charred (a ∷ cs)
after_C2 h (one {b = x} i none) = let j = is_tail_holds x i in large (Utf8Char.utf8_2 h j) (omega arith)

pub after_E0 : {cs : List ℕ} → Matches (from_A0 ∷ tail ∷ []) cs → Charred (0xE0 ∷ cs)
unfolding fits
after_E0 = three_bytes λ x y i j. let h = in_range_is 0xA0 0xBF x i in large (Utf8Char.utf8_3a h j) (omega arith)

pub after_E1 : {a : ℕ} {cs : List ℕ} → In 0xE1 0xEC a → Matches (tail ∷ tail ∷ []) cs → Charred (a ∷ cs)
after_E1 h = three_bytes λ x y i j. let k = is_tail_holds x i in large (Utf8Char.utf8_3b h k j) (omega arith)

pub after_ED : {cs : List ℕ} → Matches (to_9_f ∷ tail ∷ []) cs → Charred (0xED ∷ cs)
unfolding fits
after_ED = three_bytes λ x y i j. let h = in_range_is 0x80 0x9F x i in large (Utf8Char.utf8_3c h j) (omega arith)

pub after_EE : {a : ℕ} {cs : List ℕ} → In 0xEE 0xEF a → Matches (tail ∷ tail ∷ []) cs → Charred (a ∷ cs)
after_EE h = three_bytes λ x y i j. let k = is_tail_holds x i in large (Utf8Char.utf8_3d h k j) (omega arith)

pub after_F0 : {cs : List ℕ} → Matches (from_90 ∷ tail ∷ tail ∷ []) cs → Charred (0xF0 ∷ cs)
unfolding fits
after_F0 = four_bytes λ x y z i j k. let h = in_range_is 0x90 0xBF x i in large (Utf8Char.utf8_4a h j k) (omega arith)

pub after_F1 : {a : ℕ} {cs : List ℕ} → In 0xF1 0xF3 a → Matches (tail ∷ tail ∷ tail ∷ []) cs → Charred (a ∷ cs)
after_F1 h = four_bytes λ x y z i j k. let l = is_tail_holds x i in large (Utf8Char.utf8_4b h l j k) (omega arith)

pub after_F4 : {cs : List ℕ} → Matches (to_8_f ∷ tail ∷ tail ∷ []) cs → Charred (0xF4 ∷ cs)
unfolding fits
after_F4 = four_bytes λ x y z i j k. let h = in_range_is 0x80 0x8F x i in large (Utf8Char.utf8_4c h j k) (omega arith)

-- behind the first letter of a literal name
pub letters : (cs : List ℕ) {ds : List ℕ} → Matches (map only cs) ds → ds ≡ cs
unfolding fits
letters [] none = refl
letters (c ∷ cs) (one {b} e m) = ap₂ {C = List ℕ} ◌∷◌ (eqb-true b c e) (letters cs m)
