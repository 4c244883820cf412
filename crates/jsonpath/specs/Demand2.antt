-- Demand 2, of paths: the statement. RFC 8259 decides what a text is, RFC 9535 what a path selects; `answer_of` is what a query answers.
use Rattle.std.specs.Prelude.{ℕ, ◌+◌, ◌≤◌, ◌≡◌, false, List, [], ◌∷◌, length}
use Rattle.rules.specs.Faults.{sound, fault_of}
use Rattle.rules.specs.Layout.{Promise}
use Rattle.paths.specs.Grammar.{Selector, Path}
use Rattle.paths.specs.Path.{large}
use Rattle.query.specs.Answers.{refusal_number, number_of, part_of, answer_of}
use Rattle.query.specs.Answer.{Answer, Found, Refused}
use Rattle.query.specs.declared.types.Refusal.{Refusal}
use Rattle.texts.specs.Grammar.{In, Text}
use Rattle.texts.specs.Nodes.{Json, value_of, first_of, bytes_of, deep}
use Rattle.jsonpath.specs.Select.{select, Fair}

-- a text that obeys RFC 8259, brackets at most 64 deep, each object's names unrepeated by their characters and without unpaired surrogate
pub record Obeys (text : List ℕ) : Type 0 where
  pub json : Text text
  pub shallow : deep (value_of json.derivation) ≤ 64
  pub fair : Fair (value_of json.derivation)

-- its value
abbrev pub root : {text : List ℕ} → Obeys text → Json
root t = value_of t.json.derivation

-- a path of the subset within its limits, with a level for each step
pub record Within (levels : ℕ) (path : List ℕ) (ss : List Selector) : Type 0 where
  pub short : length path ≤ 1024
  pub derived : Path path ss
  pub small : large ss ≡ false
  pub enough : length ss ≤ levels

-- and a text within the size, with words as close promises them
pub record AskedWith (text words : List ℕ) (levels : ℕ) (path : List ℕ) (ss : List Selector) : Type 0 where
  pub size : length text ≤ 16777216
  pub range : In 1 16 levels
  pub promised : Promise text levels words
  pub within : Within levels path ss

-- a nodelist and an answer: one node, its places, and the part is exactly its bytes; or no node, and 23 to 26
pub data Selects (text : List ℕ) : List Json → Answer → Type 0 where
  one : (t : Json) → part_of text (Found (first_of t) (first_of t + length (bytes_of t))) ≡ bytes_of t
      → Selects text (t ∷ []) (Found (first_of t) (first_of t + length (bytes_of t)))
  none : {why : Refusal} → In 23 26 (refusal_number why) → Selects text [] (Refused why)

-- an answer that tells of no broken item but for 30: not 27, 28 or 29
abbrev pub Unbroken : Answer → Type 0
Unbroken r = In 27 29 (number_of r) → ⊥

-- what is proved, for every derivation of the text: a query finds what RFC 9535 selects; whatever the names, no query gives 27, 28 or
-- 29, and with names as demanded none gives 30; and such a text is sound
pub record Claim : Type 0 where
  pub selected : (text words : List ℕ) (levels : ℕ) (path : List ℕ) (ss : List Selector) (t : Obeys text) → AskedWith text words levels path ss
      → Selects text (select ss (root t)) (answer_of text words levels path)
  pub unbroken : (text words : List ℕ) (levels : ℕ) (path : List ℕ) (t : Text text) → deep (value_of t.derivation) ≤ 64 → Promise text levels words
      → Unbroken (answer_of text words levels path)
  pub read : (text words : List ℕ) (levels : ℕ) (path : List ℕ) → Obeys text → Promise text levels words → number_of (answer_of text words levels path) ≡ 30 → ⊥
  pub taken : (text : List ℕ) (t : Text text) → deep (value_of t.derivation) ≤ 64 → fault_of text ≡ sound
