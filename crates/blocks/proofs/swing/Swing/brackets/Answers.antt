-- `brackets` meets its contract: what was passed so far has swung as the places before `at` do, and the next set bit is the next bracket.
use Rattle.std.proofs.Common.{ℕ, ◌+◌, sym, ap, ◌∙◌, subst, arith}
use lib.Count.{count_trailing_zeros}
use Rattle.rules.specs.Word.{bit}
use Rattle.rules.proofs.BitWalk.{standing_low, standing_next, standing_none}
use Rattle.blocks.specs.Swinging.{past, Small}
use Rattle.blocks.proofs.SwingLaws.{small_past, bracket_next, brackets_end}
use Rattle.blocks.proofs.swing.Swing.brackets.Goals as goal

pub loop-place-preserved : goal.loop-place-preserved
unfolding bit
loop-place-preserved c =
    let s = c.in-Some.ensures.steps in
    let inv = c.loop-place.invariant in
    let at = c.loop-place.place-iterator.at in
    let n = count_trailing_zeros 64 c.loop-place.place-iterator.left in
    let l = standing_low inv.standing s.0 in
    let d = bit c.args.opens (at + n) in
    let is = c.passed-swing.ensures ∙ ap (λ (p : ℕ). past c.loop-place.swing (bit c.args.opens p)) s.1 in
    rw (s.2, s.3)
    (rw s.1
    (record {
      standing = standing_next inv.standing n l.0;
      small = subst (Small (16777216 + (at + n + 1))) (sym is) (small_past {m = 16777216 + at} {k = 16777216 + (at + n + 1)} d (omega arith) inv.small);
      so_far = λ o d i b e. is ∙ bracket_next b at n (inv.so_far o d i b e) l.0 l.1 l.2;
    }))

pub returns : goal.returns
returns c = λ o d i b e.
    let s = c.in-None.ensures.steps in
    let at = c.loop-place.place-iterator.at in
    brackets_end b at (c.loop-place.invariant.so_far o d i b e) c.loop-place.invariant.standing.within (standing_none c.loop-place.invariant.standing s.0)
