-- In balance: the line is sound, and one scan and one level make its index. Else the whole run tells.
use mathlib.Core.Path.{sym, ◌∙◌}
use Rattle.lines.proofs.VerdictLaws.{made_judged, plain_judged}
use borrow.Author.Rules.{rules}
use Rattle.lines.proofs.indexing.make_index.Goals as goal

pub returns-then-is_balanced : goal.returns-then-is_balanced
returns-then-is_balanced c = let a = c.args in
    let all = made_judged a.line.now a.levels a.words.now _ _ c.width_of.result c.scan_words-swept.result c.width_of.ensures
    c.scan_words-swept.ensures.value c.scan_words-swept.ensures.words_after (sym c.is_balanced.ensures ∙ c.if-is_balanced.true) c.level_words.ensures in
    record { value = all.0; words_after = all.1 }

pub returns : goal.returns
returns c = let a = c.args in
    let p = c.plain in
    let all = plain_judged a.line.now a.levels c.scan_words-swept.new.words
    (record { some = search rules; small = search rules; low = search rules; high = search rules; long = search rules }) p.result p.new.words p.ensures.value p.ensures.words_after in
    record { value = all.0; words_after = all.1 }
