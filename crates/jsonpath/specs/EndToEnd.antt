-- Demand 2 of the calls that a user makes: an opening, any calls in any order, a close, then a query over the words that the close left.
use Rattle.std.specs.Prelude.{ℕ, ◌≡◌, List}
use Rattle.index.specs.declared.Answer.{Answer}
use Rattle.index.specs.declared.Answer.TheVariants.{Done}
use Rattle.runs.specs.Runs.{ClosedRun}
use Rattle.paths.specs.Grammar.{Selector}
use Rattle.query.specs.Answers.{answer_of}
use Rattle.jsonpath.specs.Select.{select}
use Rattle.jsonpath.specs.Demand2.{Obeys, root, Within, Selects}

-- whatever the cuts, the guesses, the order and the first contents of the words: the run closes Done, and a query over its words finds exactly the
-- value that RFC 9535 selects, and none when it selects none
abbrev pub Demand2 : Type 0
Demand2 = (text : List ℕ) (t : Obeys text) (levels : ℕ) (a : Answer) (after : List ℕ) → ClosedRun text levels a after
    → (a ≡ Done) × ((path : List ℕ) (ss : List Selector) → Within levels path ss → Selects text (select ss (root t)) (answer_of text after levels path))
