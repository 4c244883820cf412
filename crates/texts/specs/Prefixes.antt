-- The first byte that no text could have there: what the bytes up to a place begin, said by the grammar alone.
use Rattle.std.specs.Prelude.{ℕ, suc, ◌≤◌, ◌<◌, List, ◌++◌, length, take}
use Rattle.texts.specs.Grammar.{Text}
use Rattle.texts.specs.Nodes.{deep, value_of}

-- a text of RFC 8259 with so many brackets in one another at most
pub record Shallow (limit : ℕ) (text : List ℕ) : Type 0 where
  pub json : Text text
  pub within : deep (value_of json.derivation) ≤ limit

-- the bytes begin such a text, or are one
pub record Prefix (Whole : List ℕ → Type 0) (bs : List ℕ) : Type 0 where
  pub rest : List ℕ
  pub whole : Whole (bs ++ rest)

-- "the first byte that no JSON text could have there (n if the text only stops too soon)": the bytes before place p begin a text within
-- the limit, those up to it begin none at all, and if there is no byte at p the whole is none
pub record Impossible (limit : ℕ) (text : List ℕ) (p : ℕ) : Type 0 where
  pub fits : p ≤ length text
  pub before : Prefix (Shallow limit) (take p text)
  pub after : p < length text → ¬ (Prefix Text (take (suc p) text))
  pub short : ¬ (Text text)

-- "an opener too deep": the bytes before place p begin a text within the limit, those up to it begin some text, and none within the limit
pub record Over (limit : ℕ) (text : List ℕ) (p : ℕ) : Type 0 where
  pub fits : p < length text
  pub before : Prefix (Shallow limit) (take p text)
  pub some : Prefix Text (take (suc p) text)
  pub none : ¬ (Prefix (Shallow limit) (take (suc p) text))
