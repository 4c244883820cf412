-- The loop keeps that the steps that are left give what all of them gave from the start.
use Rattle.std.proofs.Common.{sym, ◌∙◌, arith}
use Rattle.whole.proofs.Turns.{finish_turn, finishes_done}
use Rattle.whole.proofs.finish_all.Goals as goal

pub loop-k-preserved : goal.loop-k-preserved
loop-k-preserved c = let s = c.settle-settled in
    finish_turn _ _ _ _ c.loop-k.job s.result c.level.result c.loop-k.k _ (omega arith) s.ensures c.level.ensures ∙ c.loop-k.invariant

pub returns : goal.returns
returns c = sym (finishes_done _ _ _ c.loop-k.k _ (omega arith)) ∙ c.loop-k.invariant
