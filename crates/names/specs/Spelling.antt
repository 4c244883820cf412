-- Names by their characters: RFC 8259, sections 7 and 8.3. A name is the bytes between its quotes, read from the left: an escape means its character,
-- two escapes of surrogates make one, and any other byte stands for itself. (So a character that UTF-8 writes in several bytes stands as several. Each
-- is above 127, as is every byte that is no UTF-8; no byte of a path's name is.)
use Rattle.std.specs.Prelude.{ℕ, zero, suc, ◌+◌, ◌-◌, ◌*◌, Bool, true, false, ◌&&◌, List, [], ◌∷◌, get_or, drop, ltb, eqb, Result, Ok, Err}
use Rattle.rules.specs.Word.{pick}
use Rattle.paths.specs.Path.{in_range}
use Rattle.texts.specs.Nodes.{is_high, is_low, paired}
use Rattle.names.specs.declared.Spelt.{Spelt}
use Rattle.names.specs.declared.BadEscape.{BadEscape}

-- ---- one escape. (Behind the end `get_or` gives 0, which stands in no escape.)

-- HEXDIG, in both cases: its value; 16 of every other byte
unfoldable pub hex_of : ℕ → ℕ
hex_of b =
    pick (in_range 0x30 0x39 b) (b - 0x30) (pick (in_range 0x41 0x46 b) (b - 0x41 + 10) (pick (in_range 0x61 0x66 b) (b - 0x61 + 10) 16))

abbrev pub is_hex : ℕ → Bool
is_hex b = ltb (hex_of b) 16

-- four of them: the 16 bits written; 0x10000 where one is none
unfoldable pub four_of : (a b c d : ℕ) → ℕ
four_of a b c d = pick (is_hex a && (is_hex b && (is_hex c && is_hex d))) (((hex_of a * 16 + hex_of b) * 16 + hex_of c) * 16 + hex_of d) 0x10000

-- in front stands `\u` with four hexadecimal digits: these 16 bits; else 0x10000
unfoldable pub unit_of : List ℕ → ℕ
unit_of bs =
    pick (eqb (get_or bs 0 0) 0x5C && eqb (get_or bs 1 0) 0x75) (four_of (get_or bs 2 0) (get_or bs 3 0) (get_or bs 4 0) (get_or bs 5 0)) 0x10000

-- behind the backslash %x22 / %x5C / %x2F / %x62 / %x66 / %x6E / %x72 / %x74: the character that it means; 0 of every other byte
unfoldable pub short_of : ℕ → ℕ
short_of b =
    pick (eqb b 0x22) 0x22 (pick (eqb b 0x5C) 0x5C (pick (eqb b 0x2F) 0x2F (pick (eqb b 0x62) 0x08
    (pick (eqb b 0x66) 0x0C (pick (eqb b 0x6E) 0x0A (pick (eqb b 0x72) 0x0D (pick (eqb b 0x74) 0x09 0)))))))

-- ---- what stands in front: a character, and how many bytes more than one write it

abbrev pub one : ℕ → ℕ → Result Spelt BadEscape
one u more = Ok (record { character = u; more = more })

abbrev pub no_escape : BadEscape
no_escape = record {}

-- of 16 bits u, before 16 bits v: a high surrogate makes one character with a low one; any other surrogate is wrong
abbrev pub wide : ℕ → ℕ → Result Spelt BadEscape
wide u v = pick (is_high u) (pick (is_low v) (one (paired u v) 11) (Err no_escape)) (pick (is_low u) (Err no_escape) (one u 5))

-- "an escape RFC 8259 has not" is wrong
unfoldable pub spelt : List ℕ → Result Spelt BadEscape
spelt bs =
    pick (eqb (get_or bs 0 0) 0x5C)
    (pick (ltb (unit_of bs) 0x10000) (wide (unit_of bs) (unit_of (drop 6 bs)))
    (pick (ltb 0 (short_of (get_or bs 1 0))) (one (short_of (get_or bs 1 0)) 1) (Err no_escape)))
    (one (get_or bs 0 0) 0)

-- ---- a whole name

-- its characters, unless an escape is wrong
pub data Spelling : Type 0 where
  spelled : List ℕ → Spelling
  wrong : Spelling

abbrev pub on_spelt {ℓ} : {A : Type ℓ} → Result Spelt BadEscape → (ℕ → ℕ → A) → A → A
on_spelt (Ok s) one bad = one s.character s.more
on_spelt (Err e) one bad = bad

abbrev pub with_one : ℕ → Spelling → Spelling
with_one u (spelled us) = spelled (u ∷ us)
with_one u wrong = wrong

-- of a name whose first k bytes are read
unfoldable pub spell_from : ℕ → List ℕ → Spelling
spell_from k [] = spelled []
spell_from (suc k) (b ∷ bs) = spell_from k bs
spell_from zero (b ∷ bs) = on_spelt (spelt (b ∷ bs)) (λ u more. with_one u (spell_from more bs)) wrong

unfoldable pub spelling : List ℕ → Spelling
spelling bs = spell_from 0 bs

-- ---- "names compare by their characters, escapes read"

-- the same numbers
unfoldable pub same : List ℕ → List ℕ → Bool
same [] [] = true
same [] (y ∷ ys) = false
same (x ∷ xs) [] = false
same (x ∷ xs) (y ∷ ys) = eqb x y && same xs ys

-- whether it is that name, or that it spells nothing
abbrev pub Match : Type 0
Match = Result Bool BadEscape

abbrev pub compared : List ℕ → Spelling → Match
compared n (spelled us) = Ok (same us n)
compared n wrong = Err no_escape

-- a name of the record, for the name n of a path
unfoldable pub matched : List ℕ → List ℕ → Match
matched n bs = compared n (spelling bs)

abbrev pub on_match {ℓ} : {A : Type ℓ} → Match → A → A → A → A
on_match (Ok true) hit miss bad = hit
on_match (Ok false) hit miss bad = miss
on_match (Err e) hit miss bad = bad
