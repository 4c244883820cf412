-- Every state with its brackets within the limit can be completed to a text within the limit: by a zero, quotation marks, colons, closers.
use mathlib.Core.Path.{◌≡◌, refl}
use mathlib.Core.Bool.{true}
use mathlib.Core.List.{List, [], ◌∷◌, ◌++◌}
use Prim.Native.Nat.{ℕ, suc, ◌≤◌}
use native.Mathlib.Omega.{arith}
use borrow.Author.Tests.{eq-eqb}
use lib.ListN.{length}
use Rattle.texts.specs.Grammar.{Opt, Digits, Digits1, Ws, Int, Number, Short, Char, Chars, Value, value_bytes}
use Rattle.texts.specs.Machine.{Range, only, hexdig, tail, from_A0, to_9_f, from_90, to_8_f, fits, Bracket, in_object, Role, a_name, a_value, Mode, want, done, key, colon, entered, minus, nought, int, dot, frac, exponent, signed, power, chars, escape, must, closer_of}
use Rattle.texts.proofs.DepthLaws.{depth}
use Rattle.texts.proofs.Languages.{and_then, Behind, Matches, After, Valued, Want, Colon, InString, Entered, StringNext, NumberRest, at_minus, at_nought, at_int, at_dot, at_frac, at_exponent, at_signed, at_power, NumberThen, Wanted, height, string_height}
use Rattle.texts.proofs.Backwards.{char_before}

-- bytes of a language
abbrev Some : (List ℕ → Type 0) → Type 0
Some Whole = (bs : List ℕ) × Whole bs

fitting : (r : Range) → (b : ℕ) × (fits r b ≡ true)
unfolding fits
fitting (only c) = (c, eq-eqb c c refl)
fitting hexdig = (0x30, refl)
fitting tail = (0x80, refl)
fitting from_A0 = (0xA0, refl)
fitting to_9_f = (0x80, refl)
fitting from_90 = (0x90, refl)
fitting to_8_f = (0x80, refl)

matching : (rs : List Range) → Some (Matches rs)
matching [] = ([], Matches.none)
matching (r ∷ rs) = let b = fitting r in let m = matching rs in (b.0 ∷ m.0, Matches.one b.1 m.1)

zero_digit : Digits1 (0x30 ∷ [])
zero_digit = Digits1.digits {b = 0x30} (omega arith) Digits.none

module _ (limit : ℕ) where
  close : (st : List Bracket) → Some (After limit st)
  close [] = ([], After.end Ws.none)
  close (f ∷ st) = let c = close st in (closer_of f ∷ c.0, After.close Ws.none c.1)

  close_want : (st : List Bracket) → length st ≤ limit → Some (Want limit st)
  unfolding value_bytes depth
  close_want st h =
      let c = close st in
      (0x30 ∷ c.0, and_then Ws.none (Valued.value (Value.number (Number.number Opt.none Int.zero Opt.none Opt.none)) (omega arith) c.1))

  close_colon : (st : List Bracket) → suc (length st) ≤ limit → Some (Colon limit st)
  close_colon st h = let c = close_want (in_object ∷ st) h in (0x3A ∷ c.0, and_then Ws.none (Behind.byte c.1))

  close_string : (k : Role) (st : List Bracket) → string_height k st ≤ limit → Some (InString (StringNext limit k st))
  close_string a_name st h = let c = close_colon st h in (0x22 ∷ c.0, InString.string Chars.none c.1)
  close_string a_value st h = let c = close st in (0x22 ∷ c.0, InString.string Chars.none c.1)

  close_number : {m : Mode} {cs : List ℕ} (st : List Bracket) → NumberRest m cs → Some (NumberThen limit m st)
  close_number {cs} st n = let c = close st in (cs ++ c.0, and_then n c.1)

  pub finish : (m : Mode) (st : List Bracket) → height m st ≤ limit → Some (Wanted limit m st)
  finish want st h = close_want st h
  finish done st h = close st
  finish key st h = let c = close_string a_name st h in (0x22 ∷ c.0, and_then Ws.none (Behind.byte c.1))
  finish colon st h = close_colon st h
  finish (entered f) st h = let c = close st in (closer_of f ∷ c.0, and_then Ws.none (Entered.empty c.1))
  finish minus st h = close_number st (at_minus Int.zero Opt.none Opt.none)
  finish nought st h = close_number st (at_nought Opt.none Opt.none)
  finish int st h = close_number st (at_int Digits.none Opt.none Opt.none)
  finish dot st h = close_number st (at_dot zero_digit Opt.none)
  finish frac st h = close_number st (at_frac Digits.none Opt.none)
  finish exponent st h = close_number st (at_exponent Opt.none zero_digit)
  finish signed st h = close_number st (at_signed zero_digit)
  finish power st h = close_number st (at_power Digits.none)
  finish (chars k) st h = close_string k st h
  finish (escape k) st h = let c = close_string k st h in (0x6E ∷ c.0, char_before (_, Char.short Short.line_feed) c.1)
  finish (must r rs m) st h = let ms = matching (r ∷ rs) in let c = finish m st h in (ms.0 ++ c.0, and_then ms.1 c.1)
