-- A text of RFC 8259 with brackets at most 64 deep is sound: the machine reads it whole, and finds no fault on the way.
use mathlib.Core.Path.{◌≡◌, refl, sym, ap, ◌∙◌}
use mathlib.Core.Bool.{true}
use mathlib.Core.Option.{some}
use mathlib.Core.List.{List}
use Prim.Native.Nat.{ℕ, zero, suc, ◌+◌, ◌≤◌}
use native.Mathlib.Nat.{add-zero, add-suc, suc-add}
use native.Mathlib.Omega.{arith}
use borrow.Author.Tests.{eq-eqb}
use lib.ListN.{length}
use Rattle.rules.specs.Word.{count}
use Rattle.rules.specs.Bits.{opener, closer, at_depth}
use Rattle.rules.specs.Faults.{sound, closes_none, opens_over, at_end, fault_from, fault_of}
use Rattle.texts.specs.Grammar.{Text}
use Rattle.texts.specs.Nodes.{deep, value_of}
use Rattle.texts.proofs.Padded.{Pad, pad_bytes, padded, padded_text, text_same_bytes, text_same_tree}
use Rattle.jsonpath.proofs.Machine.{out, go}
use Rattle.jsonpath.proofs.Derive.{pad_run}
use Rattle.jsonpath.proofs.Trace.{At, at_start, Never, trace}
use Rattle.jsonpath.proofs.Stretches.{seg_self}

no_fault : (text : List ℕ) (i n : ℕ) → Never (closes_none text) i n → Never (opens_over text) i n → fault_from text i n ≡ at_end text (i + n)
unfolding fault_from
no_fault text i zero u o = ap (at_end text) (sym (add-zero i))
no_fault text i (suc n) u o =
    rw (u i (omega arith) (omega arith), o i (omega arith) (omega arith))
    (no_fault text (suc i) n (λ j l m. u j (omega arith) (omega arith)) (λ j l m. o j (omega arith) (omega arith)) ∙ ap (at_end text) (suc-add i n ∙ sym (add-suc i n)))

ends_well : (text : List ℕ) (i : ℕ) → At text i (out 0) → at_end text i ≡ sound
unfolding at_end at_depth
ends_well text i h = rw (h.within, eq-eqb (count (opener text) i) (count (closer text) i + 0) h.depth) refl

pub text_sound : (text : List ℕ) (t : Text text) → deep (value_of t.derivation) ≤ 64 → fault_of text ≡ sound
unfolding fault_of
text_sound text t d =
    let p : Pad = padded_text t.derivation in
    let whole : pad_bytes p ≡ text = text_same_bytes t.derivation ∙ t.derives in
    let low : deep (padded 0 p) + 0 ≤ 64 = rw (add-zero, text_same_tree t.derivation) d in
    let run : go true 0 (out 0) text ≡ some (out 0) = rw whole at (pad_run 0 0 0 p low (omega arith)) in
    let x = trace text 0 true 0 (out 0) (out 0) text (seg_self text) (at_start text) run in
    no_fault text 0 (length text) x.under x.over ∙ ends_well text (0 + length text) x.after
