-- Demand 2 of a line: indexed by one call, then asked for paths over its bytes and the front of the words.
use Rattle.std.specs.Prelude.{ℕ, ◌≤◌, ◌≡◌, List, length}
use Rattle.texts.specs.Grammar.{In}
use Rattle.paths.specs.Grammar.{Selector}
use Rattle.query.specs.Answers.{answer_of}
use Rattle.jsonpath.specs.Select.{select}
use Rattle.jsonpath.specs.Demand2.{Obeys, root, Within, Selects}
use Rattle.lines.specs.Jobs.{line_of, line_answer, line_words}
use Rattle.lines.specs.declared.LineAnswer.TheVariants as line
use Rattle.linewise.specs.Answers.{Room, front_of}

-- whatever the text about the line, the table, and the first contents of the words
abbrev pub LineDemand2 : Type 0
LineDemand2 = (text table words : List ℕ) (i levels : ℕ) (t : Obeys (line_of text table i)) → length (line_of text table i) ≤ 16777216 → In 1 16 levels → Room (line_of text table i) levels words
    → (line_answer text table i levels (length words) ≡ line.Done)
    × ((path : List ℕ) (ss : List Selector) → Within levels path ss
    → Selects (line_of text table i) (select ss (root t)) (answer_of (line_of text table i) (front_of (line_of text table i) levels (line_words text table i levels words)) levels path))
