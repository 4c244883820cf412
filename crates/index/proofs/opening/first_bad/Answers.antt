-- `first_bad` meets its contract: what is left of the search is the whole search, as long as no bad cut was met.
use Rattle.std.proofs.Common.{◌≡◌, ℕ, ◌<◌, ◌≤◌, true, List, length, Some, None, refl, ◌∙◌, add-one, lt-ltb, le-ltb, arith}
use native.Mathlib.Nat.{sub-zero}
use Rattle.rules.specs.Word.{below}
use Rattle.index.specs.Opening.{bad_cut, first_bad}
use Rattle.index.proofs.OpenLaws.{first_hit, first_miss, first_end, bad_part, bad_late, bad_low, good_cut}
use Rattle.index.proofs.opening.first_bad.Invariants.{Left}
use Rattle.index.proofs.opening.first_bad.Goals.{then-cut-ne0-via-then-cut-ne0, then-cut-ne0-via-else-cut-ne0+then-n-cut, then-cut-ne0-via-else-cut-ne0+else-n-cut+then-cut-before}
use Rattle.index.proofs.opening.first_bad.Goals as goal

-- a bad cut, met first
found : (n : ℕ) (cuts : List ℕ) (i : ℕ) → i < length cuts → Left n cuts i → bad_cut n cuts i ≡ true → Some i ≡ below (length cuts) (first_bad n cuts)
found n cuts i h e b =
    let is : first_bad n cuts ≡ i = e ∙ first_hit (bad_cut n cuts) (length cuts) i h b in
    rw (is, lt-ltb i (length cuts) h)

none : (n : ℕ) (cuts : List ℕ) (i : ℕ) → length cuts ≤ i → Left n cuts i → None ≡ below (length cuts) (first_bad n cuts)
none n cuts i h e = rw (e ∙ first_end (bad_cut n cuts) (length cuts) i h, le-ltb i (length cuts) h)

pub loop-i-init : goal.loop-i-init
unfolding first_bad
loop-i-init c = record { before = refl; left = rw sub-zero }

pub returns-then-cut-ne0 : goal.returns-then-cut-ne0
returns-then-cut-ne0 c = let l = c.loop-i in let a = c.args in
    let bad : bad_cut a.n a.cuts.now l.i ≡ true =
    elim c.then-cut-ne0.branch [
      | then-cut-ne0-via-then-cut-ne0 w ↦ bad_part a.n a.cuts.now l.i w.if-cut-ne0.true
      | then-cut-ne0-via-else-cut-ne0+then-n-cut w ↦ bad_late a.n a.cuts.now l.i (omega (arith, w.if-n-cut.true))
      | then-cut-ne0-via-else-cut-ne0+else-n-cut+then-cut-before w ↦ bad_low a.n a.cuts.now l.i (rw l.invariant.before at w.if-cut-before.true)
    ] in
    found a.n a.cuts.now l.i c.loop-i-test.true l.invariant.left bad

pub loop-i-preserved : goal.loop-i-preserved
loop-i-preserved c = let l = c.loop-i in let a = c.args in
    let good = good_cut a.n a.cuts.now l.i c.if-cut-ne0.false c.if-n-cut.false (rw l.invariant.before at c.if-cut-before.false) in
    record { before = rw add-one; left = l.invariant.left ∙ first_miss (bad_cut a.n a.cuts.now) (length a.cuts.now) l.i c.loop-i-test.true good }

pub returns : goal.returns
returns c = none c.args.n c.args.cuts.now c.loop-i.i c.loop-i-test.false c.loop-i.invariant.left
