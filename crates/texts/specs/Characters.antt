-- The RFCs' own examples of strings, with the characters that they spell. A character of a quoted text stands for the byte of its number.
use Rattle.std.specs.Prelude.{List, [], ◌∷◌, ◌≡◌, ℕ}
use Prim.Native.String.{String}
use Rattle.texts.specs.Grammar.{Chars}
use Rattle.texts.specs.Nodes.{characters}
use Rattle.texts.specs.Texts.{bytes}

-- between quotation marks these bytes are a string's, and these its characters
pub record Spells (s : String) (cs : List ℕ) : Type 0 where
  pub units : List ℕ
  pub derives : Chars (bytes s) units
  pub joins : characters units ≡ cs

-- the examples of RFC 3629, section 7, and of RFC 8259, sections 7, 8.2 and 8.3
pub record Examples : Type 0 where
  pub not_identical_to : Spells "Aâ\u{89}¢Î\u{91}." (0x41 ∷ 0x2262 ∷ 0x391 ∷ 0x2E ∷ [])
  pub hangugeo : Spells "í\u{95}\u{9c}êµ\u{ad}ì\u{96}´" (0xD55C ∷ 0xAD6D ∷ 0xC5B4 ∷ [])
  pub nihongo : Spells "æ\u{97}¥æ\u{9c}¬èª\u{9e}" (0x65E5 ∷ 0x672C ∷ 0x8A9E ∷ [])
  pub stump : Spells "ï»¿ð£\u{8e}´" (0xFEFF ∷ 0x233B4 ∷ [])
  pub g_clef : Spells "\\uD834\\uDD1E" (0x1D11E ∷ [])
  pub unpaired : Spells "\\uDEAD" (0xDEAD ∷ [])
  pub escaped : Spells "a\\\\b" (0x61 ∷ 0x5C ∷ 0x62 ∷ [])
  pub escaped_too : Spells "a\\u005Cb" (0x61 ∷ 0x5C ∷ 0x62 ∷ [])
