-- `put_row` meets its contract: after j turns the entries before from + j are filled.
use Rattle.std.proofs.Common.{◌≡◌, ℕ, ◌+◌, ◌<◌, ◌≤◌, length, get_or}
use Rattle.blocks.specs.Coding.{Filled}
use Rattle.blocks.proofs.classes.put_row.Given as goal

abbrev pub invariant-loop-j : goal.invariant-loop-j
invariant-loop-j l = (l.j ≤ 16) × (length l.t ≡ 256) × ((f : ℕ → ℕ) → Filled f l.from l.initial.t → ((i : ℕ) → i < 16 → get_or l.row i 0 ≡ f (l.from + i)) → Filled f (l.from + l.j) l.t)
