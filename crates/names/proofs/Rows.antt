-- Names and what they spell, computed: RFC 8259's own examples, each escape, pairs at the ends of their ranges, raw bytes, and what spells nothing.
use Prim.Native.Nat.{ℕ}
use Prim.Native.String.{String}
use mathlib.Core.Bool.{Bool, true, false, ◌&&◌}
use mathlib.Core.List.{List, [], ◌∷◌}
use lib.Dec.{T}
use Rattle.texts.specs.Texts.{bytes}
use Rattle.names.specs.Spelling.{hex_of, four_of, unit_of, short_of, spelt, Spelling, spelled, wrong, spell_from, spelling, same}

-- a name, and its characters or that it has none
pub record Row : Type 0 where
  pub name : String
  pub spells : Spelling

pub agrees : Spelling → Spelling → Bool
agrees (spelled us) (spelled vs) = same us vs
agrees (spelled us) wrong = false
agrees wrong (spelled vs) = false
agrees wrong wrong = true

pub all_spelt : List Row → Bool
unfolding agrees
all_spelt [] = true
all_spelt (r ∷ rs) = agrees (spelling (bytes r.name)) r.spells && all_spelt rs

pub row : String → List ℕ → Row
row name us = record { name = name; spells = spelled us }

pub none : String → Row
none name = record { name = name; spells = wrong }

pub rows : List Row
unfolding row none
rows =
    row "" [] ∷
    row "name" (bytes "name") ∷
    row "\\u006eam\\u0065" (bytes "name") ∷
    -- section 8.3: "a\\b" and "a\u005Cb" are equal
    row "a\\\\b" (bytes "a\\b") ∷
    row "a\\u005Cb" (bytes "a\\b") ∷
    row "\\\"\\\\\\/\\b\\f\\n\\r\\t" (0x22 ∷ 0x5C ∷ 0x2F ∷ 0x08 ∷ 0x0C ∷ 0x0A ∷ 0x0D ∷ 0x09 ∷ []) ∷
    row "\\u0000\\uABCD\\uabcd" (0x0000 ∷ 0xABCD ∷ 0xABCD ∷ []) ∷
    -- section 7: the G clef is "\uD834\uDD1E"
    row "\\uD834\\uDD1E" (0x1D11E ∷ []) ∷
    row "\\ud800\\udc00x\\uDBFF\\uDFFF" (0x10000 ∷ 0x78 ∷ 0x10FFFF ∷ []) ∷
    row "\\ud7ff\\ue000" (0xD7FF ∷ 0xE000 ∷ []) ∷
    row "í\u{a0}\u{80}ÿ\u{1}" (0xED ∷ 0xA0 ∷ 0x80 ∷ 0xFF ∷ 0x01 ∷ []) ∷
    none "\\" ∷
    none "x\\q" ∷
    none "\\U0061" ∷
    none "\\u006" ∷
    none "\\u00g1" ∷
    -- section 8.2: "\uDEAD"
    none "\\uDEAD" ∷
    none "\\ud834" ∷
    none "\\udd1e\\ud834" ∷
    none "\\ud834x\\udd1e" ∷
    none "\\ud834\\n" ∷
    none "\\ud834\\ud834\\udd1e" ∷
    []

pub spelling_rows : T (all_spelt rows)
unfolding all_spelt rows hex_of four_of unit_of short_of spelt spell_from spelling same
spelling_rows = tt
