-- The reports of the scope that are marked P, 1 to 10, 12 and 13 as One amends it, and what One and Two decide: one table, and a single claim over it.
use Rattle.std.specs.Prelude.{ℕ, ◌^◌, Bool, true, false, ◌&&◌, List, [], ◌∷◌, ◌++◌, length, get_or, replicate, T, eqb}
use Prim.Native.String.{String}
use Rattle.rules.specs.Word.{odd, count, word, word_at, bit}
use Rattle.rules.specs.Bytes.{is, has}
use Rattle.rules.specs.Bits.{run_before, escaped, quote_bit, in_string, mask_bit, plain, opener, closer, at_depth, level_bit}
use Rattle.rules.specs.Faults.{Verdict, sound, faulty, closes_none, opens_over, at_end, fault_from, fault_of}
use Rattle.rules.specs.Layout.{Bitmap, quotes, mask, colons, commas, width_of, size_of, row, bitmap_of, address, bit_in, bit_of, listed, index, laid, cell}
use Rattle.paths.specs.Places.{byte_in, first_in, first_at, past_last_in, past_last}
use Rattle.names.specs.Spelling.{hex_of, four_of, unit_of, short_of, spelt, spell_from, spelling, same, matched}
use Rattle.query.specs.Items.{is_blank, value_at, quoted, keyed, item_at, first_item_in, first_item, item_no}
use Rattle.paths.specs.Path.{is_digit, is_head, is_tail, decimal, step_at, read_from, read_path, large}
use Rattle.query.specs.Walk.{framed, filled, name_step, number_step, walk_from, walk}
use Rattle.query.specs.Answers.{number_of, place_of, step_of, end_of, answer_of}
use Rattle.query.specs.Answer.{Answer}
use Rattle.texts.specs.Texts.{bytes}

-- word w of a bitmap has this value
pub record Value : Type 0 where
  of : Bitmap
  at : ℕ
  value : ℕ

-- a path is answered with this number, step and place, and with a part that ends there
pub record PathRow : Type 0 where
  path : List ℕ
  number : ℕ
  step : ℕ
  place : ℕ
  end : ℕ

-- a part from its first byte to its end
abbrev found : String → ℕ → ℕ → PathRow
found path start end = record { path = bytes path; number = 0; step = 0; place = start; end = end }

-- number, step and place of a refusal
abbrev refused : String → ℕ → ℕ → ℕ → PathRow
refused path number step place = record { path = bytes path; number = number; step = step; place = place; end = 0 }

pub record Report : Type 0 where
  text : List ℕ
  levels : ℕ
  verdict : Verdict
  words : List Value
  paths : List PathRow

-- a record of at most 64 bytes, words of one level lent with it, and some paths
pub record Damaged : Type 0 where
  text : List ℕ
  words : List ℕ
  paths : List PathRow

-- a record and its verdict
judged : String → Verdict → Report
judged text verdict = record { text = bytes text; levels = 1; verdict = verdict; words = []; paths = [] }

-- a sound record of one word, with so many levels, and some values
indexed : ℕ → String → List Value → Report
indexed levels text words = record { text = bytes text; levels = levels; verdict = sound; words = words; paths = [] }

-- or some paths
asked : ℕ → String → List PathRow → Report
asked levels text paths = record { text = bytes text; levels = levels; verdict = sound; words = []; paths = paths }

-- the first word of a bitmap
abbrev word0 : Bitmap → ℕ → Value
word0 bitmap value = record { of = bitmap; at = 0; value = value }

-- of 2 and 3
abbrev same_three : List Value
same_three = word0 quotes 18 ∷ word0 mask 28 ∷ word0 (commas 1) 32 ∷ []

agrees : Verdict → Verdict → Bool
agrees sound sound = true
agrees sound (faulty m q) = false
agrees (faulty n p) sound = false
agrees (faulty n p) (faulty m q) = eqb n m && eqb p q

holds : List ℕ → ℕ → ℕ → List Value → Bool
holds words levels width [] = true
holds words levels width (v ∷ vs) = eqb (get_or words (address levels width v.of v.at) 0) v.value && holds words levels width vs

told : PathRow → Answer → Bool
told a r = eqb (number_of r) a.number && (eqb (step_of r) a.step && (eqb (place_of r) a.place && eqb (end_of r) a.end))

answers : List ℕ → List ℕ → ℕ → List PathRow → Bool
unfolding told
answers text words levels [] = true
answers text words levels (a ∷ rest) = told a (answer_of text words levels a.path) && answers text words levels rest

-- by the words of the definition's own index
right : Report → Bool
unfolding agrees holds answers
right r =
    agrees (fault_of r.text) r.verdict
    && (holds (index r.text r.levels) r.levels (width_of (length r.text)) r.words && answers r.text (index r.text r.levels) r.levels r.paths)

pub all_right : List Report → Bool
unfolding right
all_right [] = true
all_right (r ∷ rs) = right r && all_right rs

pub all_answered : List Damaged → Bool
unfolding answers
all_answered [] = true
all_answered (r ∷ rs) = answers r.text r.words 1 r.paths && all_answered rs

pub rows : List Report
unfolding judged indexed asked
rows =
    -- 1
    indexed 1 "{\"a\":\":,\"}" (word0 quotes 298 ∷ word0 mask 460 ∷ word0 (colons 1) 16 ∷ word0 (commas 1) 0 ∷ []) ∷
    -- 2 and 3, "the same three numbers"
    indexed 1 "[\"\\\\\",1]" same_three ∷
    indexed 1 "[\"\\\"\",1]" same_three ∷
    -- 4
    indexed 2 "{\"a\":[1,2],\"b\":{\"c\":3}}" (word0 (colons 1) 16400 ∷ word0 (colons 2) 524288 ∷ word0 (commas 1) 1024 ∷ word0 (commas 2) 128 ∷ []) ∷
    -- 5: 62 spaces first
    (record {
      text = replicate 62 32 ++ bytes "\"\\\" ,\"";
      levels = 1;
      verdict = sound;
      words =
          word0 quotes (2 ^ 62) ∷ (record { of = quotes; at = 1; value = 8 }) ∷
          word0 mask (2 ^ 63) ∷ (record { of = mask; at = 1; value = 15 }) ∷ [];
      paths = [];
    }) ∷
    -- 6 to 10
    judged "]" (faulty 13 0) ∷
    judged "[" (faulty 16 1) ∷
    judged "[\"" (faulty 15 2) ∷
    judged "[]][\"" (faulty 13 2) ∷
    judged "{]" sound ∷
    -- 12, whose misses tell step and place since One
    asked 2 "{\"a\":[1,2],\"b\":{\"c\":3}}"
    (found "$" 0 23 ∷ found "$.b.c" 20 21 ∷ found "$.a[1]" 8 9 ∷ refused "$.c" 25 1 0 ∷ refused "$.a.x" 23 2 5 ∷ refused "$[0]" 24 1 0 ∷
    refused "$.a[2]" 26 2 5 ∷ refused "$.a[01]" 20 0 5 ∷ refused "$." 20 0 2 ∷ []) ∷
    asked 1 "{\"a\":[1,2],\"b\":{\"c\":3}}" (refused "$.a[1]" 22 0 0 ∷ []) ∷
    -- 13, "`$[1]` becomes 29"
    asked 3 "[1,]" (refused "$[1]" 29 1 3 ∷ refused "$[2]" 26 1 0 ∷ []) ∷
    asked 3 " {} " (found "$" 1 3 ∷ refused "$.a" 25 1 1 ∷ []) ∷
    asked 3 "{\"a\":1,\"a\":2}" (found "$.a" 5 6 ∷ []) ∷
    -- One: "no colon, a name that is no quoted string, an empty value", "checked in that order within an item"
    asked 3 "{x}" (refused "$.a" 27 1 1 ∷ []) ∷
    asked 3 "{x:}" (refused "$.a" 28 1 1 ∷ []) ∷
    asked 3 "{:1}" (refused "$.a" 28 1 1 ∷ []) ∷
    asked 3 "{\"a\" \"b\":1}" (refused "$.a" 28 1 1 ∷ []) ∷
    -- "29 only for the item that is taken"; a blank item of an object has no colon
    asked 3 "{\"b\":,\"a\":1}" (found "$.a" 10 11 ∷ refused "$.b" 29 1 1 ∷ refused "$.c" 25 1 0 ∷ []) ∷
    asked 3 "{ ,\"a\":1}" (refused "$.a" 27 1 1 ∷ []) ∷
    -- items behind the one that is found are not reached
    asked 3 "{\"a\":1,x}" (found "$.a" 5 6 ∷ refused "$.b" 27 1 7 ∷ []) ∷
    -- "the byte after the bracket or comma before it": blanks are not skipped
    asked 3 "{ \"a\":1 , x }" (refused "$.b" 27 1 9 ∷ []) ∷
    asked 3 "[ 1 ,  ]" (refused "$[1]" 29 1 5 ∷ []) ∷
    -- "an empty array item too"; a number step checks the item it takes, and no other
    asked 3 "[,]" (refused "$[0]" 29 1 1 ∷ refused "$[1]" 29 1 2 ∷ refused "$[2]" 26 1 0 ∷ []) ∷
    asked 3 "[,2]" (found "$[1]" 2 3 ∷ []) ∷
    asked 3 "[:]" (found "$[0]" 1 2 ∷ []) ∷
    -- "the first byte of the value the step works in"
    asked 3 " [ 1 ]" (refused "$.a" 23 1 1 ∷ refused "$[0].a" 23 2 3 ∷ refused "$[1]" 26 1 1 ∷ []) ∷
    -- steps 2 and 3
    asked 3 "{\"a\":[{\"b\":}]}" (refused "$.a[0].b" 29 3 7 ∷ refused "$.a[0].c" 25 3 6 ∷ refused "$.a[0][0]" 24 3 6 ∷ refused "$.a[1]" 26 2 5 ∷ refused "$.a.b" 23 2 5 ∷ []) ∷
    asked 3 "{\"a\":{\"b\":[1, ]}}" (refused "$.a.b[1]" 29 3 13 ∷ refused "$.a.b.c" 23 3 10 ∷ []) ∷
    -- "for an all-blank record step 0, place 0"; 20 to 22 go first
    asked 3 " \n" (refused "$" 29 0 0 ∷ refused "$.a" 29 0 0 ∷ refused "$a" 20 0 1 ∷ refused "$[16777216]" 21 0 0 ∷ refused "$.a.a.a.a" 22 0 0 ∷ []) ∷
    -- Two: "names compare by their characters, escapes read"; digits "in either case"
    asked 1 "{\"\\u006eame\":1,\"\\u006E\\u0061me2\":2}" (found "$.name" 13 14 ∷ found "$.name2" 33 34 ∷ []) ∷
    -- of names equal by characters the first is taken; no case folding
    asked 1 "{\"\\u0061\":1,\"a\":2}" (found "$.a" 10 11 ∷ []) ∷
    asked 1 "{\"\\u0041\":1,\"a\":2}" (found "$.a" 16 17 ∷ found "$.A" 10 11 ∷ []) ∷
    -- every escape, and U+0000
    asked 1 "{\"\\\"\\\\\\/\\b\\f\\n\\r\\t\":1,\"a\":2}" (found "$.a" 26 27 ∷ []) ∷
    asked 1 "{\"\\u0000\":1,\"a\":2}" (found "$.a" 16 17 ∷ []) ∷
    -- "an escape RFC 8259 has not": the name is read whole
    asked 1 "{\"x\\q\":1,\"a\":2}" (refused "$.a" 30 1 1 ∷ []) ∷
    asked 1 "{\"\\U0061\":1,\"a\":2}" (refused "$.a" 30 1 1 ∷ []) ∷
    asked 1 "{\"\\u006\":1,\"a\":2}" (refused "$.a" 30 1 1 ∷ []) ∷
    asked 1 "{\"\\u00g1\":1,\"a\":2}" (refused "$.a" 30 1 1 ∷ []) ∷
    -- "Pairs of surrogate escapes make one character", at the ends of their ranges too; what lies beside the ranges is none
    asked 1 "{\"\\ud834\\uDD1E\":1,\"a\":2}" (found "$.a" 22 23 ∷ []) ∷
    asked 1 "{\"\\ud800\\udc00\\udbff\\udfff\":1,\"a\":2}" (found "$.a" 34 35 ∷ []) ∷
    asked 1 "{\"\\ud7ff\\ue000\":1,\"a\":2}" (found "$.a" 22 23 ∷ []) ∷
    -- "or an unpaired surrogate": high, low, the wrong way round, not directly behind, another escape behind, two high ones
    asked 1 "{\"\\ud834\":1,\"a\":2}" (refused "$.a" 30 1 1 ∷ []) ∷
    asked 1 "{\"\\udd1e\":1,\"a\":2}" (refused "$.a" 30 1 1 ∷ []) ∷
    asked 1 "{\"\\udd1e\\ud834\":1,\"a\":2}" (refused "$.a" 30 1 1 ∷ []) ∷
    asked 1 "{\"\\ud834x\\udd1e\":1,\"a\":2}" (refused "$.a" 30 1 1 ∷ []) ∷
    asked 1 "{\"\\ud834\\n\":1,\"a\":2}" (refused "$.a" 30 1 1 ∷ []) ∷
    asked 1 "{\"\\ud834\\ud834\\udd1e\":1,\"a\":2}" (refused "$.a" 30 1 1 ∷ []) ∷
    -- "those written by escapes": raw bytes stand for themselves
    asked 1 "{\"í\u{a0}\u{80}ÿ\u{1}\":1,\"a\":2}" (found "$.a" 15 16 ∷ []) ∷
    -- "after 28, before 29", and after 27
    asked 1 "{\"a\\q\":}" (refused "$.a" 30 1 1 ∷ []) ∷
    asked 1 "{x\"\\q\":1}" (refused "$.a" 28 1 1 ∷ []) ∷
    asked 1 "{\"\\q\"}" (refused "$.a" 27 1 1 ∷ []) ∷
    -- "only for items a name step reaches"
    asked 1 "{\"a\":1,\"\\q\":2}" (found "$.a" 5 6 ∷ refused "$.b" 30 1 7 ∷ []) ∷
    asked 1 "[\"\\q\",1]" (found "$[0]" 1 5 ∷ found "$[1]" 6 7 ∷ []) ∷
    -- told with the step and where the item begins
    asked 2 "{\"b\":{\"c\":1, \"\\q\":2}}" (refused "$.b.d" 30 2 12 ∷ found "$.b.c" 10 11 ∷ []) ∷
    []

-- words of one level that no job made: quotes, mask, colons and commas. "a backslash at the name's end (damaged words)", and digits cut off
pub damaged_rows : List Damaged
damaged_rows =
    (record { text = bytes "{\"a\\\":1}"; words = 18 ∷ 0 ∷ 32 ∷ 0 ∷ []; paths = refused "$.a" 30 1 1 ∷ [] }) ∷
    (record { text = bytes "{\"\\u0061\":1}"; words = 66 ∷ 0 ∷ 128 ∷ 0 ∷ []; paths = refused "$.a" 30 1 1 ∷ [] }) ∷
    []

pub reports : T (all_right rows && all_answered damaged_rows)
unfolding all_right all_answered rows damaged_rows odd count word word_at bit is has run_before escaped quote_bit in_string mask_bit plain opener closer at_depth level_bit closes_none opens_over at_end fault_from fault_of width_of size_of row bitmap_of address cell bit_in bit_of listed laid index byte_in first_in first_at past_last_in past_last is_blank hex_of four_of unit_of short_of spelt spell_from spelling same matched value_at quoted keyed item_at first_item_in first_item item_no is_digit is_head is_tail decimal step_at read_from read_path large framed filled name_step number_step walk_from walk answer_of
reports = tt
