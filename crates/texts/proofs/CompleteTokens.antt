-- What the grammar derives, the machine reads: numbers and strings. By cases of the derivation, from the token's end backwards: if what
-- follows is accepted behind the token, then the token and what follows are accepted before it.
use mathlib.Core.Path.{◌≡◌, refl, ◌∙◌}
use mathlib.Core.Bool.{true, false}
use mathlib.Core.List.{List, [], ◌∷◌, ◌++◌, append_assoc}
use Prim.Native.Nat.{ℕ, ◌≤◌}
use native.Mathlib.Omega.{arith}
use borrow.Author.Tests.{ne_eqb}
use lib.Dec.{eqb}
use Rattle.texts.specs.Grammar.{In, Opt, Digits, Digits1, Blank, E, Minus, Sign, Exp, Frac, Int, Number, Utf8Char, Unescaped, Char, Chars}
use Rattle.texts.specs.Machine.{within, is_digit, is_e, is_plain, fits, tail, Bracket, Role, Mode, done, nought, int, dot, frac, exponent, power, chars, must, string_end, to, begin, after, character, move, complete, read_on}
use Rattle.texts.proofs.Tests.{or_true}
use Rattle.texts.proofs.MachineLaws.{in_within, above, digit_is, hexdig_fits, short_is, Blanks, Accepted, moves, step, fitting}

-- ---- what may follow a value: nothing, or a blank, a comma, a closer

pub record Delimiter (b : ℕ) : Type 0 where
  pub no_digit : is_digit b ≡ false
  pub no_point : eqb b 0x2E ≡ false
  pub no_e : is_e b ≡ false

abbrev pub Follows : List ℕ → Type 0
Follows [] = Unit {0}
Follows (b ∷ bs) = Delimiter b

pub blank_delimiter : {b : ℕ} → Blank b → Delimiter b
unfolding is_digit within is_e
blank_delimiter Blank.space = record { no_digit = refl; no_point = refl; no_e = refl }
blank_delimiter Blank.tab = record { no_digit = refl; no_point = refl; no_e = refl }
blank_delimiter Blank.line_feed = record { no_digit = refl; no_point = refl; no_e = refl }
blank_delimiter Blank.carriage_return = record { no_digit = refl; no_point = refl; no_e = refl }

-- ---- a state in which a value may begin, its first byte being read on top of the stack st

pub record Wants (limit : ℕ) (m : Mode) (st₀ st : List Bracket) : Type 0 where
  pub blank : Blanks limit m st₀
  pub begins : (b : ℕ) → 0x21 ≤ b → (b ≡ 0x5D → ⊥) → move m st₀ b ≡ begin st b

-- ---- numbers

-- a mode in which a number may end: a delimiter is read as behind it
record Ending (m : Mode) : Type 0 where
  ended : complete m ≡ true
  delimited : (st : List Bracket) (b : ℕ) → Delimiter b → move m st b ≡ after st b

nought_ends : Ending nought
unfolding move
nought_ends = record { ended = refl; delimited = λ st b d. rw (d.no_point, d.no_e) refl }

int_ends : Ending int
unfolding move
int_ends = record { ended = refl; delimited = λ st b d. rw (d.no_digit, d.no_point, d.no_e) refl }

frac_ends : Ending frac
unfolding move
frac_ends = record { ended = refl; delimited = λ st b d. rw (d.no_digit, d.no_e) refl }

power_ends : Ending power
unfolding move
power_ends = record { ended = refl; delimited = λ st b d. rw d.no_digit refl }

e_moves : (st : List Bracket) {b : ℕ} → E b → (move nought st b ≡ to exponent st) × (move int st b ≡ to exponent st) × (move frac st b ≡ to exponent st)
unfolding move is_digit within is_e
e_moves st E.lower = (refl, refl, refl)
e_moves st E.upper = (refl, refl, refl)

-- and so does the end of the bytes
settle : {limit : ℕ} (st : List Bracket) (bs : List ℕ) → Follows bs → Accepted limit done st bs → {m : Mode} → Ending m → Accepted limit m st bs
unfolding read_on move
settle [] [] f a w = record { reads = λ i. rw w.ended refl }
settle (x ∷ st) [] f a w = record { reads = a.reads }
settle st (b ∷ bs) f a w = record { reads = λ i. rw (w.delimited st b f) (a.reads i) }

module _ {limit : ℕ} where
  -- in a mode that passes digits over
  digits : {m : Mode} {st : List Bracket} {ds bs : List ℕ} → ((b : ℕ) → is_digit b ≡ true → move m st b ≡ to m st) → Digits ds
      → Accepted limit m st bs → Accepted limit m st (ds ++ bs)
  digits h Digits.none a = a
  digits h (Digits.more {b} d ds) a = step (moves (h b (digit_is d))) (digits h ds a)

  -- a number's parts, the last first, and the whole of it
  module _ (st : List Bracket) {bs : List ℕ} (f : Follows bs) (a : Accepted limit done st bs) where
    powers : {ds : List ℕ} → Digits ds → Accepted limit power st (ds ++ bs)
    unfolding move
    powers ds = digits (λ b h. rw h refl) ds (settle st bs f a power_ends)

    signs : {s ds : List ℕ} → Opt Sign s → Digits1 ds → Accepted limit exponent st ((s ++ ds) ++ bs)
    unfolding move is_digit within
    signs Opt.none (Digits1.digits d ds) = step (moves (rw (digit_is d) refl)) (powers ds)
    signs (Opt.some Sign.minus) (Digits1.digits d ds) = step (moves refl) (step (moves (rw (digit_is d) refl)) (powers ds))
    signs (Opt.some Sign.plus) (Digits1.digits d ds) = step (moves refl) (step (moves (rw (digit_is d) refl)) (powers ds))

    exponents : {m : Mode} {e : List ℕ} → Ending m → ((b : ℕ) → E b → move m st b ≡ to exponent st) → Opt Exp e → Accepted limit m st (e ++ bs)
    exponents w h Opt.none = settle st bs f a w
    exponents w h (Opt.some (Exp.exp {e} x s ds)) = step (moves (h e x)) (signs s ds)

    fractions : {m : Mode} {f e : List ℕ} → Ending m → ((b : ℕ) → E b → move m st b ≡ to exponent st) → move m st 0x2E ≡ to dot st
        → Opt Frac f → Opt Exp e → Accepted limit m st (f ++ (e ++ bs))
    unfolding move
    fractions w h p Opt.none x = exponents w h x
    fractions w h p (Opt.some (Frac.frac (Digits1.digits d ds))) x =
        step (moves p) (step (moves (rw (digit_is d) refl)) (digits (λ b k. rw k refl) ds (exponents frac_ends (λ b y. (e_moves st y).2) x)))

    integers : {m : Mode} {st₀ : List Bracket} {i f e : List ℕ} → move m st₀ 0x30 ≡ to nought st
        → ((b : ℕ) → In 0x31 0x39 b → move m st₀ b ≡ to int st) → Int i → Opt Frac f → Opt Exp e → Accepted limit m st₀ (i ++ (f ++ (e ++ bs)))
    unfolding move is_digit within is_e
    integers z h Int.zero x y = step (moves z) (fractions nought_ends (λ b k. (e_moves st k).0) refl x y)
    integers z h (Int.digits {b} d ds) x y =
        step (moves (h b d)) (digits (λ b k. rw k refl) ds (fractions int_ends (λ b k. (e_moves st k).1) refl x y))

    pub numbers : {m : Mode} {st₀ : List Bracket} {n : List ℕ} → Wants limit m st₀ st → Number n → Accepted limit m st₀ (n ++ bs)
    unfolding move begin
    numbers w (Number.number Opt.none i x y) =
        simp append_assoc (integers (w.begins 0x30 (omega arith) (omega arith))
        (λ b d. w.begins b (omega arith) (omega arith)
        ∙ rw (ne_eqb b 0x22 (omega arith), ne_eqb b 0x2D (omega arith), ne_eqb b 0x30 (omega arith), in_within 0x31 0x39 b d) refl)
        i x y)
    numbers w (Number.number (Opt.some Minus.minus) i x y) =
        simp append_assoc (step (moves (w.begins 0x2D (omega arith) (omega arith)))
        (integers refl (λ b d. rw (ne_eqb b 0x30 (omega arith), in_within 0x31 0x39 b d) refl) i x y))

-- ---- strings

-- the first byte of a character of several
record Wide (b : ℕ) : Type 0 where
  no_quote : eqb b 0x22 ≡ false
  no_plain : is_plain b ≡ false
  no_escape : eqb b 0x5C ≡ false

wide : (b : ℕ) → 0x80 ≤ b → Wide b
unfolding is_plain
wide b h = record {
  no_quote = ne_eqb b 0x22 (omega arith);
  no_plain = rw (above 0x20 0x21 b (omega arith), above 0x23 0x5B b (omega arith), above 0x5D 0x7F b (omega arith)) refl;
  no_escape = ne_eqb b 0x5C (omega arith);
}

module _ {limit : ℕ} {k : Role} {st : List Bracket} {bs : List ℕ} (a : Accepted limit (chars k) st bs) where
  plain : (b : ℕ) → is_plain b ≡ true → (b ≡ 0x22 → ⊥) → Accepted limit (chars k) st (b ∷ bs)
  unfolding move character
  plain b h n = step (moves (rw (ne_eqb b 0x22 n, h) refl)) a

  tail1 : (b : ℕ) → In 0x80 0xBF b → Accepted limit (must tail [] (chars k)) st (b ∷ bs)
  unfolding fits
  tail1 b h = fitting (in_within 0x80 0xBF b h) a

  tail2 : (b c : ℕ) → In 0x80 0xBF b → In 0x80 0xBF c → Accepted limit (must tail (tail ∷ []) (chars k)) st (b ∷ c ∷ bs)
  unfolding fits
  tail2 b c h i = fitting (in_within 0x80 0xBF b h) (tail1 c i)

  tail3 : (b c d : ℕ) → In 0x80 0xBF b → In 0x80 0xBF c → In 0x80 0xBF d → Accepted limit (must tail (tail ∷ tail ∷ []) (chars k)) st (b ∷ c ∷ d ∷ bs)
  unfolding fits
  tail3 b c d h i j = fitting (in_within 0x80 0xBF b h) (tail2 c d i j)

  unescaped : {c : List ℕ} {u : ℕ} → Utf8Char c u → Unescaped u → Accepted limit (chars k) st (c ++ bs)
  unfolding move character fits is_plain
  unescaped (Utf8Char.utf8_1 {a = b} i) (Unescaped.low h) = plain b (rw (in_within 0x20 0x21 b h) refl) (omega arith)
  unescaped (Utf8Char.utf8_1 {a = b} i) (Unescaped.middle h) = plain b (rw (in_within 0x23 0x5B b h) (or_true (within 0x20 0x21 b))) (omega arith)
  unescaped (Utf8Char.utf8_1 {a = b} i) (Unescaped.high h) =
      plain b (rw (above 0x20 0x21 b (omega arith), above 0x23 0x5B b (omega arith), in_within 0x5D 0x7F b (omega arith)) refl) (omega arith)
  unescaped (Utf8Char.utf8_2 {a = x} {b} h i) n =
      let w = wide x (omega arith) in
      step (moves (rw (w.no_quote, w.no_plain, w.no_escape, in_within 0xC2 0xDF x h) refl)) (tail1 b i)
  unescaped (Utf8Char.utf8_3a {b} {c} h i) n = step (moves refl) (fitting (in_within 0xA0 0xBF b h) (tail1 c i))
  unescaped (Utf8Char.utf8_3b {a = x} {b} {c} h i j) n =
      let w = wide x (omega arith) in
      step
      (moves (rw (w.no_quote, w.no_plain, w.no_escape, above 0xC2 0xDF x (omega arith), ne_eqb x 0xE0 (omega arith), in_within 0xE1 0xEC x h) refl))
      (tail2 b c i j)
  unescaped (Utf8Char.utf8_3c {b} {c} h i) n = step (moves refl) (fitting (in_within 0x80 0x9F b h) (tail1 c i))
  unescaped (Utf8Char.utf8_3d {a = x} {b} {c} h i j) n =
      let w = wide x (omega arith) in
      step (moves (rw (
        w.no_quote,
        w.no_plain,
        w.no_escape,
        above 0xC2 0xDF x (omega arith),
        ne_eqb x 0xE0 (omega arith),
        above 0xE1 0xEC x (omega arith),
        ne_eqb x 0xED (omega arith),
        in_within 0xEE 0xEF x h,
      ) refl))
      (tail2 b c i j)
  unescaped (Utf8Char.utf8_4a {b} {c} {d} h i j) n = step (moves refl) (fitting (in_within 0x90 0xBF b h) (tail2 c d i j))
  unescaped (Utf8Char.utf8_4b {a = x} {b} {c} {d} h i j l) n =
      let w = wide x (omega arith) in
      step (moves (rw (
        w.no_quote,
        w.no_plain,
        w.no_escape,
        above 0xC2 0xDF x (omega arith),
        ne_eqb x 0xE0 (omega arith),
        above 0xE1 0xEC x (omega arith),
        ne_eqb x 0xED (omega arith),
        above 0xEE 0xEF x (omega arith),
        ne_eqb x 0xF0 (omega arith),
        in_within 0xF1 0xF3 x h,
      ) refl))
      (tail3 b c d i j l)
  unescaped (Utf8Char.utf8_4c {b} {c} {d} h i j) n = step (moves refl) (fitting (in_within 0x80 0x8F b h) (tail2 c d i j))

  one_char : {c : List ℕ} {u : ℕ} → Char c u → Accepted limit (chars k) st (c ++ bs)
  unfolding move
  one_char (Char.unescaped c n) = unescaped c n
  one_char (Char.short s) = step (moves refl) (step (moves (rw (short_is s) refl)) a)
  one_char (Char.u_xxxx h i j l) =
      step (moves refl) (step (moves refl)
      (fitting (hexdig_fits h) (fitting (hexdig_fits i) (fitting (hexdig_fits j) (fitting (hexdig_fits l) a)))))

pub strings : {limit : ℕ} (k : Role) {st : List Bracket} {raw us bs : List ℕ} → Chars raw us → Accepted limit (string_end k) st bs
    → Accepted limit (chars k) st (raw ++ (0x22 ∷ bs))
unfolding move
strings k Chars.none a = step (moves refl) a
strings k (Chars.char {b} {bs = cs} c r) a = rw (append_assoc b cs (0x22 ∷ _)) (one_char (strings k r a) c)
