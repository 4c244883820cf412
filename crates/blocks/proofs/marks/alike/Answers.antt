-- `alike` meets its contract.
use Rattle.std.proofs.Common.{◌-◌, ◌*◌, ◌^◌, Bool, sym, ap}
use Rattle.rules.specs.Word.{digit}
use Rattle.rules.proofs.WordLaws.{word_each}
use Rattle.blocks.proofs.marks.alike.Goals as goal

pub returns-then-b : goal.returns-then-b
returns-then-b c = word_each 64 _ (ap (λ (b : Bool). digit b * (2 ^ 64 - 1)) (sym c.if-b.true))

pub returns-else-b : goal.returns-else-b
returns-else-b c = word_each 64 _ (ap (λ (b : Bool). digit b * (2 ^ 64 - 1)) (sym c.if-b.false))
