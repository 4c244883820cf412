-- `chunk_fault` meets its contract.
use Rattle.std.proofs.Common.{◌≡◌, Bool, Option, Some, None, length, refl, sym, ap, ap₂, ◌∙◌}
use Rattle.std.specs.Option.{option_or}
use Rattle.rules.specs.Word.{pick}
use Rattle.index.specs.declared.Fault.{Fault}
use Rattle.index.specs.Settling.{end_fault, or_found}
use Rattle.index.proofs.SettleLaws.{fault_sought}
use Rattle.index.proofs.settling.chunk_fault.Goals as goal

or_none : (x : Option Fault) → x ≡ or_found x None
or_none None = refl
or_none (Some f) = refl

or_is : (x y : Option Fault) → option_or x y ≡ or_found x y
or_is None y = refl
or_is (Some f) y = refl

pub returns-then-last : goal.returns-then-last
returns-then-last c = let a = c.args in
    c.or.ensures ∙ or_is c.sought_fault-found.result c.end_fault.result
    ∙ ap₂ (λ (x : Option Fault) (l : Bool). or_found c.sought_fault-found.result (pick l x None)) c.end_fault.ensures (sym c.if-last.true)
    ∙ sym (fault_sought a.c a.text.now a.words.now a.levels a.s a.last _ (sym c.sought_fault-found.ensures))

pub returns-else-last : goal.returns-else-last
returns-else-last c = let a = c.args in
    or_none _ ∙ ap (λ (l : Bool). or_found c.sought_fault-found.result (pick l (end_fault a.c (length a.text.now)) None)) (sym c.if-last.false)
    ∙ sym (fault_sought a.c a.text.now a.words.now a.levels a.s a.last _ (sym c.sought_fault-found.ensures))
