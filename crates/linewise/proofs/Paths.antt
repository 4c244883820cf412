-- Demand 2 for a line, end to end: such a line is sound, so its call answers Done and its front is its index; and over that a query finds what RFC
-- 9535 selects.
use Prim.Native.Nat.{ℕ}
use mathlib.Core.Path.{◌≡◌, refl, sym, ap, ◌∙◌, subst}
use mathlib.Core.List.{List}
use mathlib.Core.Logic.{inl}
use lib.ListN.{length}
use Rattle.rules.specs.Faults.{sound, fault_of}
use Rattle.rules.specs.Layout.{index, Promise}
use Rattle.rules.proofs.LayoutLaws.{index_holds}
use Rattle.index.specs.declared.Answer.TheVariants.{Done}
use Rattle.jsonpath.proofs.Paths.{value_some, claim}
use Rattle.lines.specs.Jobs.{line_of, numbered, line_answer, line_words, line_number}
use Rattle.lines.specs.declared.LineAnswer.TheVariants as line
use Rattle.lines.proofs.VerdictLaws.{Judged, front_made}
use Rattle.linewise.specs.Answers.{front_of}
use Rattle.linewise.specs.Paths.{LineDemand2}
use Rattle.linewise.proofs.Answers.{line_front}

pub line_paths : LineDemand2
unfolding line_answer
line_paths text table words i levels t small range room =
    (done, λ path ss w. claim.selected bytes (front_of bytes levels (line_words text table i levels words)) levels path ss t (record { size = small; range = range; promised = promised; within = w }))
  where
    bytes : List ℕ
    bytes = line_of text table i

    well : fault_of bytes ≡ sound
    well = claim.taken bytes t.json t.shallow

    judged : Judged bytes levels Done (index bytes levels)
    judged = rw well (refl, refl)

    done : line_answer text table i levels (length words) ≡ line.Done
    done = ap (numbered i) (sym (front_made bytes levels words (value_some bytes t.json) small range.low range.high room judged).0)

    promised : Promise bytes levels (front_of bytes levels (line_words text table i levels words))
    promised = subst (Promise bytes levels) (sym (line_front text table words i levels (inl (ap line_number done)) ∙ rw well)) (index_holds bytes levels)
