-- An LF at a is the first one; and a line's end lies within the text.
use Rattle.std.proofs.Common.{sym, ◌∙◌, ◌+◌, length, arith, eq-eqb}
use Rattle.paths.specs.Places.{byte_in}
use Rattle.paths.proofs.PlaceLaws.{first_here}
use Rattle.lines.specs.Lines.{feed_at, line_end}
use Rattle.lines.proofs.LineLaws.{end_within}
use Rattle.lines.proofs.cutting.line_end.Goals as goal

pub returns-then-text-a-eq10-clause-value : goal.returns-then-text-a-eq10-clause-value
unfolding line_end feed_at byte_in
returns-then-text-a-eq10-clause-value c = let text = c.args.text.now in let a = c.args.a in sym (first_here (feed_at text) a (length text) (omega arith) (eq-eqb (byte_in text a) 10 c.if-text-a-eq10.true))

pub returns-in-Some-clause-within : goal.returns-in-Some-clause-within
returns-in-Some-clause-within c = let l = c.loop-at in
    end_within c.args.text.now c.args.a (l.at + c.in-Some.i) c.requires (c.in-Some.ensures.1 ∙ sym l.invariant.1)

pub returns-clause-within : goal.returns-clause-within
returns-clause-within c = end_within c.args.text.now c.args.a c.next_feed.result c.requires (c.next_feed.ensures ∙ sym c.loop-at.invariant.1)
