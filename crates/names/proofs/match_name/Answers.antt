-- Without a backslash a name's characters are its bytes.
use mathlib.Core.Path.{sym, ◌∙◌}
use Rattle.names.specs.Spelling.{matched}
use Rattle.names.proofs.Comparing.{same_is}
use Rattle.names.proofs.SpellingLaws.{plain_any, plain_spelling}
use Rattle.names.proofs.match_name.Goals as goal

pub returns-else-contains : goal.returns-else-contains
unfolding matched
returns-else-contains c = rw (plain_spelling c.args.name.now (plain_any c.args.name.now (sym c.contains.ensures.value ∙ c.if-contains.false)), same_is, c.eq.ensures)
