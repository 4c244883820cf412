-- The loop keeps that the calls that are left give what all of them gave from the start.
use Rattle.std.proofs.Common.{sym, ap, ◌∙◌, arith}
use Rattle.runs.specs.Runs.{Call, act}
use Rattle.runs.specs.Whole.{held}
use Rattle.whole.proofs.Turns.{call_turn, calls_done}
use Rattle.whole.proofs.make_calls.Goals as goal

pub loop-byte-preserved : goal.loop-byte-preserved
loop-byte-preserved c = let l = c.loop-byte in
    let m = c.make_call-job in
    let made = m.ensures ∙ ap (λ (x : Call). act c.args.text.now x (held l.job l.words)) c.from.ensures in
    call_turn _ _ _ _ l.job m.result l.byte-index (omega arith) made ∙ l.invariant

pub returns : goal.returns
returns c = sym (calls_done _ _ _ _ c.loop-byte.byte-index (omega arith)) ∙ c.loop-byte.invariant
