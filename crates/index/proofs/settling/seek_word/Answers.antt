-- `seek_word` meets its contract: what is left of the walk is the whole walk, as long as no fault was met.
use Rattle.std.specs.Prelude.{Err}
use mathlib.Core.Path.{sym, ap, ◌∙◌}
use mathlib.Core.Bool.{Bool, true, false}
use Prim.Native.Nat.{ℕ, ◌+◌, ◌-◌, ◌≤◌}
use native.Mathlib.Omega.{arith}
use lib.Count.{count_trailing_zeros}
use Rattle.rules.specs.Word.{bit}
use Rattle.rules.proofs.BitWalk.{standing_low, standing_next, standing_none}
use Rattle.index.specs.Settling.{limit_of, fault_of_bracket, depth_past, seek}
use Rattle.index.proofs.SeekLaws.{word_fault, word_past, word_end}
use Rattle.index.proofs.settling.seek_word.Goals as goal

past_le : (b : Bool) (d : ℕ) → depth_past b d ≤ d + 1
past_le true d = omega arith
past_le false d = omega arith

pub returns-then-d-limit : goal.returns-then-d-limit
unfolding bit
returns-then-d-limit c = λ o d b.
    let s = c.in-Some.ensures.steps in
    let inv = c.loop-place.invariant in
    let l = standing_low inv.standing s.0 in
    let at = c.loop-place.place-iterator.at in
    let n = count_trailing_zeros 64 c.loop-place.place-iterator.left in
    let is = c.fault_at.ensures ∙ ap (λ (p : ℕ). fault_of_bracket (bit c.args.opens p) (c.args.base + p)) s.1 in
    ap Err is ∙ word_fault b c.args.depth c.loop-place.d at n (inv.so_far o d b) l.0 l.1 l.2 (c.if-d-limit.true ∙ c.limit.ensures ∙ ap (λ (p : ℕ). limit_of (bit c.args.opens p)) s.1)

pub loop-place-preserved : goal.loop-place-preserved
unfolding bit
loop-place-preserved c =
    let s = c.in-Some.ensures.steps in
    let inv = c.loop-place.invariant in
    let l = standing_low inv.standing s.0 in
    let at = c.loop-place.place-iterator.at in
    let n = count_trailing_zeros 64 c.loop-place.place-iterator.left in
    let opener = bit c.args.opens (at + n) in
    let is = c.moved-d.ensures ∙ ap (λ (p : ℕ). depth_past (bit c.args.opens p) c.loop-place.d) s.1 in
    rw (s.2, s.3)
    (rw s.1
    (record {
      standing = standing_next inv.standing n l.0;
      small = omega (arith, is, past_le opener c.loop-place.d, inv.small);
      so_far = λ o d b.
          word_past b c.args.depth c.loop-place.d at n (inv.so_far o d b) l.0 l.1 l.2 (λ e. c.if-d-limit.false (e ∙ sym (c.limit.ensures ∙ ap (λ (p : ℕ). limit_of (bit c.args.opens p)) s.1)))
          ∙ ap (λ (x : ℕ). seek o d x (c.args.base + (at + n + 1)) (64 - (at + n + 1))) (sym is);
    }))

pub returns : goal.returns
returns c = λ o d b.
    let inv = c.loop-place.invariant in
    word_end b c.args.depth c.loop-place.d c.loop-place.place-iterator.at (inv.so_far o d b) inv.standing.within (standing_none inv.standing c.in-None.ensures.steps.0)
