-- The loop keeps that the steps that are left give what all of them gave from the start.
use Rattle.std.proofs.Common.{◌≡◌, ◌-◌}
use Rattle.runs.specs.Runs.{run}
use Rattle.runs.specs.Whole.{held, finishes}
use Rattle.whole.proofs.finish_all.Given as goal

abbrev pub invariant-loop-k : goal.invariant-loop-k
invariant-loop-k l = run l.text (finishes l.k (l.chunks - l.k)) (held l.job l.words) ≡ run l.text (finishes 0 l.chunks) (held l.initial.job l.initial.words)
