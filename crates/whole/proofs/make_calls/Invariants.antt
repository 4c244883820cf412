-- The loop keeps that the calls that are left give what all of them gave from the start.
use Rattle.std.proofs.Common.{◌≡◌, drop}
use Rattle.runs.specs.Runs.{run}
use Rattle.runs.specs.Whole.{held}
use Rattle.whole.specs.Calls.{calls_of}
use Rattle.whole.proofs.make_calls.Given as goal

abbrev pub invariant-loop-byte : goal.invariant-loop-byte
invariant-loop-byte l = run l.text (calls_of (drop l.byte-index l.calls)) (held l.job l.words) ≡ run l.text (calls_of l.calls) (held l.initial.job l.initial.words)
