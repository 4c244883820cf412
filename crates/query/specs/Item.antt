-- What an item is to a step: the value that was asked for, another's, or broken, from that place on.
use Rattle.std.specs.Prelude.{ℕ, Result, Ok, Err, Option, Some, None}
use Rattle.query.specs.declared.types.Cause.{Cause}
use Rattle.query.specs.declared.types.Part.{Part}
use Rattle.query.specs.declared.items.Broken as Kind

abbrev pub Item : Type 0
Item = Result (Option Part) Kind.Broken

abbrev pub Found : ℕ → ℕ → Item
Found s e = Ok (Some (record { start = s; end = e }))

pattern abbrev pub Other : Item
Other = Ok None

abbrev pub Broken : Cause → ℕ → Item
Broken why p = Err (record { why = why; place = p })

-- the value of an item, or what is wrong with it
abbrev pub as_item : Result Part Kind.Broken → Item
as_item (Ok part) = Ok (Some part)
as_item (Err b) = Err b
