-- The definitions tried: texts and their lines, tables, and the answers and words of lines, computed.
use Prim.Native.Nat.{ℕ}
use Prim.Native.String.{String}
use mathlib.Core.Bool.{Bool, true, ◌&&◌}
use mathlib.Core.List.{List, [], ◌∷◌}
use lib.Dec.{T, eqb}
use lib.ListN.{length, replicate}
use Rattle.rules.specs.Word.{odd, count, word, word_at}
use Rattle.rules.specs.Bytes.{is, has}
use Rattle.rules.specs.Bits.{run_before, escaped, quote_bit, in_string, mask_bit, plain, opener, closer, at_depth, level_bit}
use Rattle.rules.specs.Faults.{closes_none, opens_over, at_end, fault_from, fault_of}
use Rattle.rules.specs.Layout.{width_of, size_of, bitmap_of, bit_of, listed, laid, index}
use Rattle.texts.specs.Texts.{bytes}
use Rattle.names.specs.Spelling.{same}
use Rattle.paths.specs.Places.{byte_in, first_in, first_at}
use Rattle.query.specs.Items.{is_blank}
use Rattle.lines.specs.Lines.{feed_at, line_end, is_blank_line, lines_in, lines_from, lines}
use Rattle.lines.specs.Tables.{tabled_number, tabled_count, entries, table_with, table_answer, table_after}
use Rattle.lines.specs.Jobs.{line_at, line_of, front_checks, front_answer, front_words, line_answer, line_words, line_number, line_place}

-- ---- a text, and the starts and ends of its lines

pub record Cut : Type 0 where
  pub text : List ℕ
  pub cut : List ℕ

cut : String → List ℕ → Cut
cut text places = record { text = bytes text; cut = places }

pub cuts : List Cut
unfolding cut
cuts =
    cut "" [] ∷
    cut "{}" (0 ∷ 2 ∷ []) ∷
    cut "{}\n" (0 ∷ 2 ∷ []) ∷
    -- a last line without LF counts
    cut "{}\n[1]" (0 ∷ 2 ∷ 3 ∷ 6 ∷ []) ∷
    -- a CR before the LF belongs to its line, and nothing is trimmed; a CR alone cuts nothing
    cut " {} \r\n[]\r\n" (0 ∷ 5 ∷ 6 ∷ 9 ∷ []) ∷
    cut "1\r2" (0 ∷ 3 ∷ []) ∷
    -- in strings too
    cut "[\"a\nb\"]\n2" (0 ∷ 3 ∷ 4 ∷ 7 ∷ 8 ∷ 9 ∷ []) ∷
    -- blank lines are none: space, tab, CR, or nothing
    cut "\n\n \t\r\n " [] ∷
    cut "\n1\n \n\n2\n\n" (1 ∷ 2 ∷ 6 ∷ 7 ∷ []) ∷
    -- no other byte is blank, nor ends a line
    cut "\u{b}\n\u{c}\n\0\n\u{85}\n" (0 ∷ 1 ∷ 2 ∷ 3 ∷ 4 ∷ 5 ∷ 6 ∷ 7 ∷ []) ∷
    []

-- ---- a text and a table, the number and count that are told, and the table behind

pub record Tabling : Type 0 where
  pub text : List ℕ
  pub table : List ℕ
  pub number : ℕ
  pub count : ℕ
  pub after : List ℕ

three : List ℕ
three = bytes "[1]\n2\n{}"

pub tablings : List Tabling
unfolding three
tablings =
    record { text = []; table = 7 ∷ 7 ∷ []; number = 1; count = 0; after = 7 ∷ 7 ∷ [] } ∷
    record { text = bytes " \n"; table = []; number = 0; count = 0; after = [] } ∷
    record { text = bytes "1"; table = []; number = 31; count = 0; after = [] } ∷
    record { text = bytes "1"; table = 7 ∷ []; number = 31; count = 0; after = 7 ∷ [] } ∷
    -- exactly full, one entry too few, an odd number more, and entries behind
    record { text = three; table = replicate 6 7; number = 0; count = 3; after = 0 ∷ 3 ∷ 4 ∷ 5 ∷ 6 ∷ 8 ∷ [] } ∷
    record { text = three; table = replicate 5 7; number = 31; count = 0; after = replicate 5 7 } ∷
    record { text = three; table = replicate 7 7; number = 0; count = 3; after = 0 ∷ 3 ∷ 4 ∷ 5 ∷ 6 ∷ 8 ∷ 7 ∷ [] } ∷
    record { text = three; table = replicate 10 7; number = 0; count = 3; after = 0 ∷ 3 ∷ 4 ∷ 5 ∷ 6 ∷ 8 ∷ 7 ∷ 7 ∷ 7 ∷ 7 ∷ [] } ∷
    []

-- ---- a line of a table: its number and place, and the words behind, of one level

pub record Indexing : Type 0 where
  pub text : List ℕ
  pub table : List ℕ
  pub line : ℕ
  pub levels : ℕ
  pub words : List ℕ
  pub number : ℕ
  pub place : ℕ
  pub after : List ℕ

-- a sound line, two halves of a string, a closer too many, a bracket that stays open
five : List ℕ
five = bytes "[1,2]\n[\"a\nb\"]\n[]]\n[{}"

table : List ℕ
table = 0 ∷ 5 ∷ 6 ∷ 9 ∷ 10 ∷ 13 ∷ 14 ∷ 17 ∷ 18 ∷ 21 ∷ []

-- of that line, in so many words, with this number and place
refuses : ℕ → ℕ → ℕ → ℕ → Indexing
unfolding five table
refuses line levels w number = record { text = five; table = table; line = line; levels = levels; words = replicate w 9; number = number; place = 0; after = replicate w 9 }

-- of an entry alone
made_up : ℕ → ℕ → ℕ → ℕ → Indexing
unfolding five
made_up start end number place = record { text = five; table = start ∷ end ∷ []; line = 0; levels = 1; words = []; number = number; place = place; after = [] }

faults : ℕ → ℕ → ℕ → Indexing
unfolding five table
faults line number place = record { text = five; table = table; line = line; levels = 1; words = replicate 5 9; number = number; place = place; after = 0 ∷ 0 ∷ 0 ∷ 0 ∷ 9 ∷ [] }

pub indexings : List Indexing
unfolding refuses made_up faults five table
indexings =
    -- quotes, mask, colons and commas of level 1 in the front; the word behind stays
    record { text = five; table = table; line = 0; levels = 1; words = replicate 5 9; number = 0; place = 0; after = 0 ∷ 0 ∷ 0 ∷ 4 ∷ 9 ∷ [] } ∷
    -- both halves of the string, each at its own end
    faults 1 15 3 ∷
    faults 2 15 3 ∷
    faults 3 13 2 ∷
    faults 4 16 3 ∷
    -- no line of the table, no levels, too many, one word too few; 1 goes first, then 3
    refuses 5 1 5 1 ∷
    refuses 18446744073709551615 0 0 1 ∷
    refuses 0 0 5 3 ∷
    refuses 0 17 0 3 ∷
    refuses 0 1 3 4 ∷
    -- made_up entries: turned round, behind the end, nothing, nothing at the end
    made_up 5 0 1 0 ∷
    made_up 20 22 1 0 ∷
    made_up 3 3 1 0 ∷
    made_up 21 21 1 0 ∷
    -- and a part over an LF: `2]`, the LF and `["a` have a closer too many
    record { text = five; table = 3 ∷ 9 ∷ []; line = 0; levels = 1; words = replicate 4 9; number = 13; place = 1; after = replicate 4 0 } ∷
    []

-- ---- one claim over each table

pub all_cut : List Cut → Bool
all_cut [] = true
all_cut (r ∷ rs) = same (entries (lines r.text)) r.cut && all_cut rs

pub all_tabled : List Tabling → Bool
all_tabled [] = true
all_tabled (r ∷ rs) =
    (eqb (tabled_number (table_answer r.text r.table)) r.number && (eqb (tabled_count (table_answer r.text r.table)) r.count && same (table_after r.text r.table) r.after))
    && all_tabled rs

pub all_indexed : List Indexing → Bool
all_indexed [] = true
all_indexed (r ∷ rs) =
    let a = line_answer r.text r.table r.line r.levels (length r.words) in
    (eqb (line_number a) r.number && (eqb (line_place a) r.place && same (line_words r.text r.table r.line r.levels r.words) r.after))
    && all_indexed rs

pub cut_rows : T (all_cut cuts)
unfolding all_cut cuts cut same entries lines_from lines_in line_end is_blank_line feed_at byte_in first_at first_in is_blank
cut_rows = tt

pub table_rows : T (all_tabled tablings)
unfolding all_tabled tablings three same entries table_with table_answer table_after lines_from lines_in line_end is_blank_line feed_at byte_in first_at first_in is_blank
table_rows = tt

pub line_rows : T (all_indexed indexings)
unfolding all_indexed indexings refuses made_up faults five table same line_at line_of front_checks front_answer front_words line_answer line_words fault_of fault_from at_end closes_none opens_over at_depth opener closer plain mask_bit in_string quote_bit escaped run_before level_bit has is odd count word word_at width_of size_of bitmap_of bit_of listed laid index
line_rows = tt
