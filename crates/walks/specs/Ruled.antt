-- The bits of a walk that the rules set.
use Rattle.std.specs.Prelude.{ℕ, List}
use Rattle.rules.specs.Layout.{quotes, colons, commas, bit_of}
use Rattle.query.specs.Items.{Bits}

abbrev pub ruled : List ℕ → Bits
ruled text = record { quote = bit_of text quotes; colon = λ k. bit_of text (colons k); comma = λ k. bit_of text (commas k) }
