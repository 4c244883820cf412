-- std's digits are these.
use Rattle.names.proofs.SpellingLaws.{digit_told}
use Rattle.names.proofs.hex_of.Goals as goal

pub returns : goal.returns
returns c = digit_told c.args.b c.to_digit.result c.to_digit.ensures.value
