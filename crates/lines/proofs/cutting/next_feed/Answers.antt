-- By the first LF of what lies from a on.
use Rattle.std.proofs.Common.{rules, length, arith}
use lib.Dec.{eqb}
use Rattle.query.proofs.Parts.{first_in_part, none_in_part}
use Rattle.lines.specs.Lines.{line_end, feed_at}
use Rattle.lines.proofs.cutting.next_feed.Goals as goal

pub returns-in-Some : goal.returns-in-Some
unfolding line_end feed_at
returns-in-Some c = let a = c.args in
    first_in_part a.text.now a.a (length a.text.now) (λ b. eqb b 10) c.in-Some.i (search rules) (search rules) (search rules)

pub returns-in-None : goal.returns-in-None
unfolding line_end feed_at
returns-in-None c = let a = c.args in
    none_in_part a.text.now a.a (length a.text.now) (λ b. eqb b 10) (omega arith) (search rules)
