-- What the contracts of private functions cite: a name that is another's already, and whose rest is only read.
use Rattle.std.specs.Prelude.{false, Ok, Err}
use Rattle.names.specs.Spelling.{Spelling, spelled, wrong, no_escape, Match}

abbrev pub another : Spelling → Match
another (spelled us) = Ok false
another wrong = Err no_escape
