-- A small text with nesting, escapes and blanks that meets every condition of demand 2, so that they can be met: one name is spelt by an escape, another
-- by a pair of surrogates. Its derivation is written out.
use mathlib.Core.Path.{◌≡◌, refl}
use mathlib.Core.List.{List, [], ◌∷◌}
use Prim.Native.Nat.{ℕ, ◌+◌}
use native.Mathlib.Omega.{arith}
use Rattle.texts.specs.Grammar.{Opt, Digits, Hexdig, Blank, Ws, Structural, Int, Number, Short, Char, Chars, Value, Object, Members, Member, Array, Values, JsonText, text_bytes, value_bytes}
use Rattle.texts.specs.Nodes.{characters, Json, tree, value_of, first_of, bytes_of, deep}
use Rattle.jsonpath.specs.Select.{named, nth, children, flat, segments, select}
use lib.ListN.{length}
use Rattle.rules.specs.Layout.{index}
use Rattle.rules.proofs.LayoutLaws.{index_holds}
use Rattle.paths.specs.Grammar.{Selector, name, number, Letter, Rest, Name, More, Numeral, Steps, Path}
use Rattle.paths.specs.Path.{large}
use Rattle.names.specs.Spelling.{same}
use Rattle.query.specs.Answers.{answer_of}
use Rattle.query.specs.Answer.{Answer, Found}
use Rattle.jsonpath.proofs.Paths.{claim}
use Rattle.texts.specs.Texts.{bytes}
use Rattle.jsonpath.specs.Demand2.{Obeys, root, AskedWith, Selects}

unfoldable pub sample : List ℕ
sample = bytes "{ \"\\u0061\" : [1,\"\\\"\\u0041\"],\n\"\\ud834\\uDD1E\":{} }"

tight : {c : ℕ} → Structural c
tight = Structural.around Ws.none Ws.none

space : Ws (0x20 ∷ [])
space = Ws.blank Blank.space Ws.none

line_feed : Ws (0x0A ∷ [])
line_feed = Ws.blank Blank.line_feed Ws.none

zero_digit : Hexdig 0x30 0
zero_digit = Hexdig.digit {b = 0x30} (omega arith)

-- \u0061 and \ud834\uDD1E
name_a : Chars (bytes "\\u0061") (0x61 ∷ [])
unfolding zero_digit
name_a = Chars.char (Char.u_xxxx zero_digit zero_digit (Hexdig.digit {b = 0x36} (omega arith)) (Hexdig.digit {b = 0x31} (omega arith))) Chars.none

name_clef : Chars (bytes "\\ud834\\uDD1E") (0xD834 ∷ 0xDD1E ∷ [])
name_clef =
    Chars.char (Char.u_xxxx (Hexdig.lower {b = 0x64} (omega arith)) (Hexdig.digit {b = 0x38} (omega arith)) (Hexdig.digit {b = 0x33} (omega arith)) (Hexdig.digit {b = 0x34} (omega arith)))
    (Chars.char (Char.u_xxxx (Hexdig.upper {b = 0x44} (omega arith)) (Hexdig.upper {b = 0x44} (omega arith)) (Hexdig.digit {b = 0x31} (omega arith)) (Hexdig.upper {b = 0x45} (omega arith)))
    Chars.none)

derivation : JsonText
unfolding tight space line_feed zero_digit name_a name_clef
derivation =
    JsonText.text Ws.none
    (Value.object (Object.members (Structural.around Ws.none space)
    (Members.more_members
    (Member.member name_a (Structural.around space space)
    (Value.array (Array.values tight
    (Values.more_values (Value.number (Number.number Opt.none (Int.digits {b = 0x31} (omega arith) Digits.none) Opt.none Opt.none)) tight
    (Values.one_value (Value.string (Chars.char (Char.short Short.quotation_mark)
    (Chars.char
    (Char.u_xxxx zero_digit zero_digit (Hexdig.digit {b = 0x34} (omega arith)) (Hexdig.digit {b = 0x31} (omega arith)))
    Chars.none)))))
    tight)))
    (Structural.around Ws.none line_feed)
    (Members.one_member (Member.member name_clef tight (Value.object (Object.no_members tight tight)))))
    (Structural.around space Ws.none)))
    Ws.none

pub sample_obeys : Obeys sample
unfolding sample derivation tight space line_feed zero_digit name_a name_clef text_bytes value_bytes value_of tree deep characters
sample_obeys = record {
  json = record { derivation = derivation; derives = refl };
  shallow = omega arith;
  fair = ((refl, tt), (different, tt), (tt, (tt, tt)), ((refl, tt), tt, tt, tt));
}
  where
    different : ◌≡◌ {A = List ℕ} (0x61 ∷ []) (0x1D11E ∷ []) → ⊥
    different e = let z : ◌≡◌ {A = ℕ} 0x61 0x1D11E = cc in omega arith

-- ---- a path into it: its premises, what RFC 9535 selects, and so what a query answers

unfoldable pub sample_path : List ℕ
sample_path = bytes "$.a[1]"

abbrev steps : List Selector
steps = name (0x61 ∷ []) ∷ number 1 ∷ []

pub sample_asked : AskedWith sample (index sample 2) 2 sample_path steps
unfolding sample sample_path large
sample_asked = record {
  size = omega arith;
  range = omega arith;
  promised = index_holds sample 2;
  within = record {
    short = omega arith;
    derived = Path.root (Steps.dot (Name.starts (Letter.lower {b = 0x61} (omega arith)) Rest.none) (Steps.bracket (Numeral.digits {b = 0x31} (omega arith) More.none) Steps.none));
    small = refl;
    enough = omega arith;
  };
}

selects_one : {text : List ℕ} {t : Json} {x : Answer} → Selects text (t ∷ []) x → x ≡ Found (first_of t) (first_of t + length (bytes_of t))
selects_one (Selects.one t e) = refl

node : select steps (root sample_obeys) ≡ Json.scalar 16 (bytes "\"\\\"\\u0041\"") ∷ []
unfolding sample_obeys sample derivation tight space line_feed zero_digit name_a name_clef value_of tree characters value_bytes select segments flat children named nth same
node = refl

pub sample_found : answer_of sample (index sample 2) 2 sample_path ≡ Found 16 26
sample_found = selects_one (rw node at (claim.selected sample (index sample 2) 2 sample_path steps sample_obeys sample_asked))
