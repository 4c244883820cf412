-- What a query answers, on all inputs, and the number, place and step that document 01 and One give each case.
use Rattle.std.specs.Prelude.{ℕ, ◌-◌, not, ◌&&◌, List, length, take, drop, ltb, leb, eqb}
use Rattle.rules.specs.Word.{pick}
use Rattle.rules.specs.Layout.{width_of, size_of}
use Rattle.query.specs.Items.{lent}
use Rattle.paths.specs.Path.{Reading, good, bad, read_path, large}
use Rattle.query.specs.Walk.{on_found, walk}
use Rattle.query.specs.declared.types.Miss.{Miss}
use Rattle.query.specs.declared.types.Miss.TheVariants.{NotObject, NotArray, NoName, NoNumber}
use Rattle.query.specs.declared.types.Cause.{Cause}
use Rattle.query.specs.declared.types.Cause.TheVariants.{NoColon, BadName, EmptyValue, BadEscape}
use Rattle.query.specs.declared.types.Refusal.{Refusal}
use Rattle.query.specs.declared.types.Refusal.TheVariants.{EmptyRecord, LongRecord, BadLevels, BadBuffer, BadPath, TooLarge, TooDeep, Missed, Broken}
use Rattle.query.specs.Answer.{Answer, Refused}

-- ---- the numbers

-- 23 to 26
abbrev pub miss_number : Miss → ℕ
miss_number NotObject = 23
miss_number NotArray = 24
miss_number NoName = 25
miss_number NoNumber = 26

-- "27 no colon, 28 bad name, 29 empty value"
abbrev pub cause_number : Cause → ℕ
cause_number NoColon = 27
cause_number BadName = 28
cause_number EmptyValue = 29
cause_number BadEscape = 30

abbrev pub refusal_number : Refusal → ℕ
refusal_number EmptyRecord = 1
refusal_number LongRecord = 2
refusal_number BadLevels = 3
refusal_number BadBuffer = 4
refusal_number (BadPath p) = 20
refusal_number TooLarge = 21
refusal_number TooDeep = 22
refusal_number (Missed why k p) = miss_number why
refusal_number (Broken why k p) = cause_number why

-- 20 tells a place in the path, 23 to 29 "a place in the record"
abbrev pub refusal_place : Refusal → ℕ
refusal_place EmptyRecord = 0
refusal_place LongRecord = 0
refusal_place BadLevels = 0
refusal_place BadBuffer = 0
refusal_place (BadPath p) = p
refusal_place TooLarge = 0
refusal_place TooDeep = 0
refusal_place (Missed why k p) = p
refusal_place (Broken why k p) = p

-- 23 to 29 "also tell the path step, from 1"
abbrev pub refusal_step : Refusal → ℕ
refusal_step EmptyRecord = 0
refusal_step LongRecord = 0
refusal_step BadLevels = 0
refusal_step BadBuffer = 0
refusal_step (BadPath p) = 0
refusal_step TooLarge = 0
refusal_step TooDeep = 0
refusal_step (Missed why k p) = k
refusal_step (Broken why k p) = k

abbrev pub number_of : Answer → ℕ
number_of r = on_found r (λ s e. 0) refusal_number

-- where the part begins, or the place that the refusal tells
abbrev pub place_of : Answer → ℕ
place_of r = on_found r (λ s e. s) refusal_place

-- the path step that the refusal tells
abbrev pub step_of : Answer → ℕ
step_of r = on_found r (λ s e. 0) refusal_step

-- ---- the part: "Every refused query gives the empty part: the first zero bytes of the record"

abbrev pub start_of : Answer → ℕ
start_of r = on_found r (λ s e. s) (λ why. 0)

abbrev pub end_of : Answer → ℕ
end_of r = on_found r (λ s e. e) (λ why. 0)

abbrev pub part_of : List ℕ → Answer → List ℕ
part_of text r = take (end_of r - start_of r) (drop (start_of r) text)

-- ---- the answer

-- "20, number size (21), 22, then walks"
abbrev pub after_reading : List ℕ → List ℕ → ℕ → Reading → Answer
after_reading text words levels (bad p) = Refused (BadPath p)
after_reading text words levels (good ss) =
    pick (large ss) (Refused TooLarge)
    (pick (ltb levels (length ss)) (Refused TooDeep)
    (walk text (lent words levels (width_of (length text))) ss))

-- "A query checks 1, 2, 3, 4, path length (21)," and so on
unfoldable pub answer_of : List ℕ → List ℕ → ℕ → List ℕ → Answer
unfolding read_path large walk
answer_of text words levels path =
    pick (eqb (length text) 0) (Refused EmptyRecord)
    (pick (ltb 16777216 (length text)) (Refused LongRecord)
    (pick (not (leb 1 levels && leb levels 16)) (Refused BadLevels)
    (pick (not (eqb (length words) (size_of levels (length text)))) (Refused BadBuffer)
    (pick (ltb 1024 (length path)) (Refused TooLarge)
    (after_reading text words levels (read_path path))))))
