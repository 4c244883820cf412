-- The rest of a number, a byte earlier: from each mode within a number back to the one before it, and to the whole number.
use mathlib.Core.List.{List, [], ◌∷◌}
use Prim.Native.Nat.{ℕ}
use Rattle.texts.specs.Grammar.{In, Opt, Digit, Digits, Digits1, E, Minus, Sign, Exp, Frac, Int, Number}
use Rattle.texts.specs.Machine.{minus, nought, int, dot, frac, exponent, signed, power}
use Rattle.texts.proofs.Languages.{NumberRest, at_minus, at_nought, at_int, at_dot, at_frac, at_exponent, at_signed, at_power}

-- ---- a whole number

pub negative : {cs : List ℕ} → NumberRest minus cs → Number (0x2D ∷ cs)
negative (at_minus i f e) = Number.number (Opt.some Minus.minus) i f e

pub positive : {cs : List ℕ} → NumberRest minus cs → Number cs
positive (at_minus i f e) = Number.number Opt.none i f e

-- ---- its integer part

pub with_zero : {cs : List ℕ} → NumberRest nought cs → NumberRest minus (0x30 ∷ cs)
with_zero (at_nought f e) = at_minus Int.zero f e

pub with_first : {b : ℕ} {cs : List ℕ} → In 0x31 0x39 b → NumberRest int cs → NumberRest minus (b ∷ cs)
with_first h (at_int ds f e) = at_minus (Int.digits h ds) f e

pub int_digit : {b : ℕ} {cs : List ℕ} → Digit b → NumberRest int cs → NumberRest int (b ∷ cs)
int_digit h (at_int ds f e) = at_int (Digits.more h ds) f e

-- ---- its fraction

pub nought_dot : {cs : List ℕ} → NumberRest dot cs → NumberRest nought (0x2E ∷ cs)
nought_dot (at_dot ds e) = at_nought (Opt.some (Frac.frac ds)) e

-- what may follow a zero may follow any digit of the integer part
pub after_int : {cs : List ℕ} → NumberRest nought cs → NumberRest int cs
after_int (at_nought f e) = at_int Digits.none f e

pub dot_digit : {b : ℕ} {cs : List ℕ} → Digit b → NumberRest frac cs → NumberRest dot (b ∷ cs)
dot_digit h (at_frac ds e) = at_dot (Digits1.digits h ds) e

pub frac_digit : {b : ℕ} {cs : List ℕ} → Digit b → NumberRest frac cs → NumberRest frac (b ∷ cs)
frac_digit h (at_frac ds e) = at_frac (Digits.more h ds) e

-- ---- its exponent

pub frac_e : {b : ℕ} {cs : List ℕ} → E b → NumberRest exponent cs → NumberRest frac (b ∷ cs)
frac_e h (at_exponent s ds) = at_frac Digits.none (Opt.some (Exp.exp h s ds))

pub nought_e : {b : ℕ} {cs : List ℕ} → E b → NumberRest exponent cs → NumberRest nought (b ∷ cs)
nought_e h (at_exponent s ds) = at_nought Opt.none (Opt.some (Exp.exp h s ds))

pub with_sign : {b : ℕ} {cs : List ℕ} → Sign (b ∷ []) → NumberRest signed cs → NumberRest exponent (b ∷ cs)
with_sign h (at_signed ds) = at_exponent (Opt.some h) ds

pub without_sign : {cs : List ℕ} → NumberRest signed cs → NumberRest exponent cs
without_sign (at_signed ds) = at_exponent Opt.none ds

pub signed_digit : {b : ℕ} {cs : List ℕ} → Digit b → NumberRest power cs → NumberRest signed (b ∷ cs)
signed_digit h (at_power ds) = at_signed (Digits1.digits h ds)

pub power_digit : {b : ℕ} {cs : List ℕ} → Digit b → NumberRest power cs → NumberRest power (b ∷ cs)
power_digit h (at_power ds) = at_power (Digits.more h ds)
