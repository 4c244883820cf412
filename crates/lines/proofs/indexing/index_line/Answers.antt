-- A line that lies nowhere is the empty one.
use mathlib.Core.Path.{sym, ◌∙◌}
use Rattle.lines.proofs.VerdictLaws.{line_nowhere}
use Rattle.lines.proofs.indexing.index_line.Goals as goal

pub returns-in_default : goal.returns-in_default
returns-in_default c = let a = c.args in
    let all = line_nowhere a.text.now a.table.now a.words.now a.i a.levels (sym c.line_at.ensures.value ∙ c.in_default.is) in
    record { value = all.0; words_after = all.1 }
