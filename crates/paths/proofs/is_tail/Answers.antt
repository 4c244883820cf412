-- By the two classes that it joins.
use Rattle.paths.specs.Path.{is_tail}
use Rattle.paths.proofs.PathLaws.{digit_is}
use Rattle.paths.proofs.is_tail.Goals as goal

pub returns-then-is_head : goal.returns-then-is_head
unfolding is_tail
returns-then-is_head c = rw (← c.is_head.ensures, c.if-is_head.true)

pub returns-else-is_head : goal.returns-else-is_head
unfolding is_tail
returns-else-is_head c = rw (← c.is_head.ensures, c.if-is_head.false, digit_is) c.is_ascii_digit.ensures.value
