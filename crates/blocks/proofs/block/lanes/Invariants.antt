-- `lanes` meets its contract: after j turns the sum is the lanes of j codes.
use Rattle.std.proofs.Common.{◌≡◌, ℕ}
use Rattle.blocks.specs.Coding.{Code}
use Rattle.blocks.specs.Block.{Codes, lanes_of}
use Rattle.blocks.proofs.block.lanes.Given as goal

abbrev pub invariant-loop-j : goal.invariant-loop-j
invariant-loop-j l = (k : ℕ → Code) → Codes l.t l.text l.at 8 k → l.sum ≡ lanes_of k l.j
