-- The RFCs' own examples of characters, each by its derivation; the numbers are computed.
use mathlib.Core.Path.{refl}
use mathlib.Core.List.{List, [], ◌∷◌, ◌++◌}
use Prim.Native.Nat.{ℕ, ◌%◌}
use native.Mathlib.Omega.{arith}
use Rattle.texts.specs.Grammar.{In, Hexdig, joined, Utf8Char, Unescaped, Short, Char, Chars}
use Rattle.texts.specs.Nodes.{characters}
use Rattle.texts.specs.Characters.{Examples}

-- a character without an escape, and more
module _ {bs us : List ℕ} (cs : Chars bs us) where
  plain : {b : List ℕ} {u : ℕ} → Utf8Char b u → Unescaped u → Chars (b ++ bs) (u ∷ us)
  plain c h = Chars.char (Char.unescaped c h) cs

  three : (a b c : ℕ) → In 0xE1 0xEC a → In 0x80 0xBF b → In 0x80 0xBF c → Chars (a ∷ b ∷ c ∷ bs) (joined (joined (a % 0x10) b) c ∷ us)
  three a b c i j k = plain (Utf8Char.utf8_3b i j k) (Unescaped.high (omega arith))

pub examples : Examples
unfolding characters
examples = record {
  not_identical_to = record {
    units = 0x41 ∷ 0x2262 ∷ 0x391 ∷ 0x2E ∷ [];
    derives =
        plain (three (plain (plain Chars.none (Utf8Char.utf8_1 {a = 0x2E} (omega arith)) (Unescaped.middle (omega arith)))
        (Utf8Char.utf8_2 {a = 0xCE} {b = 0x91} (omega arith) (omega arith)) (Unescaped.high (omega arith)))
        0xE2 0x89 0xA2 (omega arith) (omega arith) (omega arith))
        (Utf8Char.utf8_1 {a = 0x41} (omega arith)) (Unescaped.middle (omega arith));
    joins = refl;
  };
  hangugeo = record {
    units = 0xD55C ∷ 0xAD6D ∷ 0xC5B4 ∷ [];
    derives =
        plain (three (three Chars.none 0xEC 0x96 0xB4 (omega arith) (omega arith) (omega arith)) 0xEA 0xB5 0xAD (omega arith) (omega arith) (omega arith))
        (Utf8Char.utf8_3c {b = 0x95} {c = 0x9C} (omega arith) (omega arith)) (Unescaped.high (omega arith));
    joins = refl;
  };
  nihongo = record {
    units = 0x65E5 ∷ 0x672C ∷ 0x8A9E ∷ [];
    derives =
        three (three (three Chars.none 0xE8 0xAA 0x9E (omega arith) (omega arith) (omega arith)) 0xE6 0x9C 0xAC (omega arith) (omega arith) (omega arith))
        0xE6 0x97 0xA5 (omega arith) (omega arith) (omega arith);
    joins = refl;
  };
  stump = record {
    units = 0xFEFF ∷ 0x233B4 ∷ [];
    derives =
        plain (plain Chars.none (Utf8Char.utf8_4a {b = 0xA3} {c = 0x8E} {d = 0xB4} (omega arith) (omega arith) (omega arith)) (Unescaped.high (omega arith)))
        (Utf8Char.utf8_3d {a = 0xEF} {b = 0xBB} {c = 0xBF} (omega arith) (omega arith) (omega arith)) (Unescaped.high (omega arith));
    joins = refl;
  };
  g_clef = record {
    units = 0xD834 ∷ 0xDD1E ∷ [];
    derives =
        Chars.char (Char.u_xxxx (Hexdig.upper {b = 0x44} (omega arith)) (Hexdig.digit {b = 0x38} (omega arith)) (Hexdig.digit {b = 0x33} (omega arith)) (Hexdig.digit {b = 0x34} (omega arith)))
        (Chars.char (Char.u_xxxx (Hexdig.upper {b = 0x44} (omega arith)) (Hexdig.upper {b = 0x44} (omega arith)) (Hexdig.digit {b = 0x31} (omega arith)) (Hexdig.upper {b = 0x45} (omega arith)))
        Chars.none);
    joins = refl;
  };
  unpaired = record {
    units = 0xDEAD ∷ [];
    derives =
        Chars.char (Char.u_xxxx (Hexdig.upper {b = 0x44} (omega arith)) (Hexdig.upper {b = 0x45} (omega arith)) (Hexdig.upper {b = 0x41} (omega arith)) (Hexdig.upper {b = 0x44} (omega arith)))
        Chars.none;
    joins = refl;
  };
  escaped = record {
    units = 0x61 ∷ 0x5C ∷ 0x62 ∷ [];
    derives =
        plain (Chars.char (Char.short Short.reverse_solidus) (plain Chars.none (Utf8Char.utf8_1 {a = 0x62} (omega arith)) (Unescaped.high (omega arith))))
        (Utf8Char.utf8_1 {a = 0x61} (omega arith)) (Unescaped.high (omega arith));
    joins = refl;
  };
  escaped_too = record {
    units = 0x61 ∷ 0x5C ∷ 0x62 ∷ [];
    derives =
        plain (Chars.char
        (Char.u_xxxx (Hexdig.digit {b = 0x30} (omega arith)) (Hexdig.digit {b = 0x30} (omega arith)) (Hexdig.digit {b = 0x35} (omega arith)) (Hexdig.upper {b = 0x43} (omega arith)))
        (plain Chars.none (Utf8Char.utf8_1 {a = 0x62} (omega arith)) (Unescaped.high (omega arith))))
        (Utf8Char.utf8_1 {a = 0x61} (omega arith)) (Unescaped.high (omega arith));
    joins = refl;
  };
}
