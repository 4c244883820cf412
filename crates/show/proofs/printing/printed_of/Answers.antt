-- The words and cuts that are lent are the first of those that stand ready.
use Prim.Native.Nat.{ℕ, ◌+◌, ◌*◌, ◌-◌, ◌/◌, ◌≤◌}
use mathlib.Core.Path.{◌≡◌, ◌∙◌}
use mathlib.Core.List.{List}
use native.Mathlib.Omega.{arith}
use lib.ListN.{length, take}
use Rattle.rules.specs.Layout.{width_of, size_of}
use Rattle.show.specs.Running.{multiples, cuts_of}
use Rattle.show.specs.Printing.{zeros, printed_in, printed_of}
use Rattle.show.proofs.Inputs.{take_multiples, take_zeros, take_fits, zeros_long, multiples_long}
use Rattle.show.proofs.printing.printed_of.Goals as goal

lent : (text path : List ℕ) → length text ≤ 16384 → {count size : ℕ} {words cuts : List ℕ} → count ≡ (length text - 1) / 1024 → size ≡ size_of 4 (length text) → words ≡ zeros 2560 → cuts ≡ multiples 15
    → printed_in text (take size words) (take count cuts) path ≡ printed_of text path
unfolding printed_of cuts_of size_of width_of
lent text path l ec es ew eu =
    rw (ec, es, ew, eu, take_zeros (10 * ((length text + 63) / 64)) 2560 (omega arith), take_multiples ((length text - 1) / 1024) 15 (omega arith))

pub slice_bounds-printed_in-end : goal.slice_bounds-printed_in-end
unfolding size_of width_of
slice_bounds-printed_in-end c = let w = c.all_words-space in rw w.ensures (take_fits _ (zeros_long 2560) (omega arith))

pub slice_bounds-printed_in-end-2 : goal.slice_bounds-printed_in-end-2
slice_bounds-printed_in-end-2 c = let w = c.all_cuts-cuts in rw w.ensures (take_fits _ (multiples_long 15) (omega arith))

pub returns : goal.returns
returns c = let a = c.args in
    c.printed_in.ensures ∙ lent a.text.now a.path.now c.requires c.cut_count-count.ensures c.size_of-size.ensures c.all_words-space.ensures c.all_cuts-cuts.ensures
