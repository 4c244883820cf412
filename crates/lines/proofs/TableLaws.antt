-- A table filled entry by entry holds the entries in its front, and the numbers behind as they were; and the answers, check by check.
use Prim.Native.Nat.{ℕ, suc, ◌+◌, ◌*◌, ◌≤◌, ◌<◌}
use mathlib.Core.Path.{◌≡◌, refl, sym, ap, ◌∙◌}
use mathlib.Core.List.{List, [], ◌∷◌, ◌++◌}
use native.Mathlib.Omega.{arith}
use lib.ListN.{length, set, drop, length-set}
use lib.Seq.{sets, sets-eq}
use borrow.Author.Tests.{eq-eqb, ne_eqb, lt-ltb, le-ltb}
use Rattle.lines.specs.Lines.{Entry, lines, lines_from}
use Rattle.lines.specs.Tables.{entries_of, entries, table_with, table_answer, table_after}
use Rattle.lines.proofs.LineLaws.{Listed}
use Rattle.lines.specs.declared.TableRefusal.{TableRefusal}
use Rattle.lines.specs.declared.TableRefusal.TheVariants.{Empty, TooLong, ManyLines}
use Rattle.lines.specs.Tables as tabled

pub length_entries : (es : List Entry) → length (entries es) ≡ 2 * length es
unfolding entries
length_entries [] = refl
length_entries (e ∷ later) = omega (arith, length_entries later)

sets_filled : (es : List Entry) (table : List ℕ) → 2 * length es ≤ length table → sets table 0 (entries es) ≡ table_with es table
unfolding table_with
sets_filled es table l =
    let n = length_entries es in
    let m : 0 + length (entries es) ≡ 2 * length es = omega (arith, n) in
    sets-eq (entries es) table 0 (omega (arith, n)) ∙ ap (λ (k : ℕ). entries es ++ drop k table) m

-- what is left to be set from here gives what all gave from the start, and there is room for it
pub record Filling (text first table : List ℕ) (i at : ℕ) : Type 0 where
  pub same : sets table i (entries (lines_from text at)) ≡ sets first 0 (entries (lines text))
  pub room : i + 2 * length (lines_from text at) ≤ length table
  pub long : length table ≡ length first
  pub few : i ≤ 2 * at

-- a turn: the next line's two numbers
pub filling_turn : (text first table : List ℕ) (i at s e : ℕ) → Filling text first table i at → Listed text at s e → Filling text first (set (set table i s) (i + 1) e) (i + 2) (e + 1)
unfolding entries
filling_turn text first table i at s e f d =
    let one : i + 1 ≡ suc i = omega arith in
    let two : i + 2 ≡ suc (suc i) = omega arith in
    let long = length-set (set table i s) (i + 1) e ∙ length-set table i s in
    record {
      same = rw (one, two) (ap (λ (es : List Entry). sets table i (entries es)) (sym d.listed) ∙ f.same);
      room = omega (arith, f.room, ap length d.listed, long);
      long = long ∙ f.long;
      few = omega (arith, f.few, d.behind, d.some);
    }

-- no line is left
pub filling_done : (text first table : List ℕ) (i at : ℕ) → Filling text first table i at → lines_from text at ≡ [] → 2 * length (lines text) ≤ length first → table ≡ table_with (lines text) first
unfolding entries
filling_done text first table i at f e l = ap (λ (es : List Entry). sets table i (entries es)) (sym e) ∙ f.same ∙ sets_filled (lines text) first l

-- ---- the answers

module _ (text table : List ℕ) where
  abbrev Left : TableRefusal → Type 0
  Left r = (tabled.Refused r ≡ table_answer text table) × (table ≡ table_after text table)

  left : (r : TableRefusal) → table_answer text table ≡ tabled.Refused r → Left r
  unfolding table_after
  left r e = rw e (refl, refl)

  pub table_empty : length text ≡ 0 → Left Empty
  unfolding table_answer
  table_empty e = left Empty (rw (eq-eqb (length text) 0 e))

  pub table_long : 16777216 < length text → Left TooLong
  unfolding table_answer
  table_long l = left TooLong (rw (ne_eqb (length text) 0 (omega arith), lt-ltb 16777216 (length text) l))

  module _ (some : 1 ≤ length text) (small : length text ≤ 16777216) where
    pub table_many : entries_of table < length (lines text) → Left ManyLines
    unfolding table_answer
    table_many l = left ManyLines (rw (ne_eqb (length text) 0 (omega arith), le-ltb 16777216 (length text) small, lt-ltb (entries_of table) (length (lines text)) l))

    made : length (lines text) ≤ entries_of table → table_answer text table ≡ tabled.Lines (length (lines text))
    unfolding table_answer
    made l = rw (ne_eqb (length text) 0 (omega arith), le-ltb 16777216 (length text) small, le-ltb (entries_of table) (length (lines text)) l)

    pub table_made : length (lines text) ≤ entries_of table → {after : List ℕ} → after ≡ table_with (lines text) table
        → (tabled.Lines (length (lines text)) ≡ table_answer text table) × (after ≡ table_after text table)
    unfolding table_after
    table_made l e = rw (made l) (refl, e)
