-- `first_bad` meets its contract: what is left of the search is the whole search, as long as no bad cut was met.
use Rattle.std.proofs.Common.{◌≡◌, ℕ, ◌-◌, List, length}
use Rattle.index.specs.Opening.{bad_cut, first, first_bad}
use Rattle.index.proofs.OpenLaws.{cut_before}
use Rattle.index.proofs.opening.first_bad.Given as goal

abbrev pub Left : ℕ → List ℕ → ℕ → Type 0
Left n cuts i = first_bad n cuts ≡ first (bad_cut n cuts) i (length cuts - i)

abbrev pub invariant-loop-i : goal.invariant-loop-i
invariant-loop-i l = record { before : l.before ≡ cut_before l.cuts l.i; left : Left l.n l.cuts l.i }
