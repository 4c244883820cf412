-- The std's classes joined are the class.
use Rattle.paths.proofs.PathLaws.{head_is}
use Rattle.paths.proofs.is_head.Goals as goal

pub returns-then-is_ascii_alphabetic : goal.returns-then-is_ascii_alphabetic
returns-then-is_ascii_alphabetic c = rw (head_is, ← c.is_ascii_alphabetic.ensures.value, c.if-is_ascii_alphabetic.true)

pub returns-else-is_ascii_alphabetic : goal.returns-else-is_ascii_alphabetic
returns-else-is_ascii_alphabetic c = rw (head_is, ← c.is_ascii_alphabetic.ensures.value, c.if-is_ascii_alphabetic.false)
