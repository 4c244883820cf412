-- Demand 2, end to end: such a text is sound, so a run over it can close with no fault, and its words are as promised.
use mathlib.Core.Path.{◌≡◌, refl, sym, ◌∙◌}
use mathlib.Core.List.{List}
use Prim.Native.Nat.{ℕ}
use Rattle.index.specs.declared.Answer.{Answer}
use Rattle.index.specs.declared.Answer.TheVariants.{Done}
use Rattle.runs.specs.Runs.{Ends, ClosedRun}
use Rattle.runs.proofs.Theorems.{was_good, sound_faulty, bits, fault_named}
use Rattle.paths.specs.Grammar.{Selector}
use Rattle.query.specs.Answers.{answer_of}
use Rattle.jsonpath.specs.Select.{select}
use Rattle.jsonpath.specs.Demand2.{root, Within, AskedWith, Selects}
use Rattle.jsonpath.specs.EndToEnd.{Demand2}
use Rattle.jsonpath.proofs.Paths.{claim}

pub demand_2 : Demand2
demand_2 text t levels a after c = go a c.ends c
  where
    go : (a : Answer) → Ends a → ClosedRun text levels a after
        → (a ≡ Done) × ((path : List ℕ) (ss : List Selector) → Within levels path ss → Selects text (select ss (root t)) (answer_of text after levels path))
    go a Ends.done x = (refl, λ path ss w. claim.selected text after levels path ss t (asked x path ss w))
      where
        asked : ClosedRun text levels Done after → (path : List ℕ) (ss : List Selector) → Within levels path ss → AskedWith text after levels path ss
        asked x path ss w = let g = (was_good x).shape in record { size = g.small; range = record { low = g.some; high = g.few }; promised = bits x; within = w }
    go a (Ends.fault f) x = sound_faulty f (sym (claim.taken text t.json t.shallow) ∙ fault_named x)
