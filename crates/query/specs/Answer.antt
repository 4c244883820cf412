-- What a query answers: the part that was found, from where on and up to where, or why it was refused.
use Rattle.std.specs.Prelude.{ℕ, Result, Ok, Err}
use Rattle.query.specs.declared.types.Part.{Part}
use Rattle.query.specs.declared.types.Refusal.{Refusal}

abbrev pub Answer : Type 0
Answer = Result Part Refusal

abbrev pub Found : ℕ → ℕ → Answer
Found s e = Ok (record { start = s; end = e })

pattern abbrev pub Refused : Refusal → Answer
Refused why = Err why
