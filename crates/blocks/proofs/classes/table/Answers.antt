-- `table` meets its contract: the test of its rows is computed before the first turn, and after i turns i of them are laid.
use Rattle.std.proofs.Common.{◌≡◌, ℕ, ◌+◌, ◌*◌, ◌<◌, ◌||◌, T, eqb, List, [], get_or, sym, subst, ap₂, arith, rules}
use Rattle.rules.specs.Word.{bit}
use Rattle.rules.specs.Bytes.{is}
use Rattle.blocks.specs.Coding.{beside, entry, code_of, coded, square, Filled, TableOf}
use Rattle.blocks.proofs.ClassLaws.{tested, class_at, code_right, kind_right, class_right}
use Rattle.blocks.proofs.classes.table.Goals as goal

row_entry : (rows : List (List ℕ)) (i j : ℕ) → j < 16 → get_or (get_or rows i []) j 0 ≡ class_at rows (16 * i + j)
unfolding class_at
row_entry rows i j l = ap₂ (λ (x y : ℕ). get_or (get_or rows x []) y 0) (omega arith) (omega arith)

made : (rows : List (List ℕ)) (t : List ℕ) → T (tested rows) → Filled (class_at rows) 256 t → TableOf t
made rows t passed laid =
    record {
      codes = λ b l. subst (λ (x : ℕ). x ≡ entry (code_of x)) (sym (laid b l)) (code_right rows passed b l);
      classes_are = λ b l c. subst (λ (x : ℕ). coded c (code_of x) ≡ is c b) (sym (laid b l)) (class_right rows passed b l c);
      kinds_are = λ b l. subst (λ (x : ℕ). square (code_of x) ≡ (eqb b 91 || eqb b 93)) (sym (laid b l)) (kind_right rows passed b l);
    }

-- here the test of all 256 entries is computed
pub loop-i-init : goal.loop-i-init
unfolding is bit coded square beside entry code_of tested
loop-i-init c = (tt, search rules, search rules, λ b l. absurd (omega arith))

pub put_row-requires : goal.put_row-requires
put_row-requires c = (c.loop-i.invariant.2, omega arith)

pub loop-i-preserved : goal.loop-i-preserved
loop-i-preserved c = let loop = c.loop-i in
    let put = c.put_row.ensures in
    (loop.invariant.0, search rules, put.t_len, λ b l. put.by_index (class_at _) loop.invariant.3 (λ j m. row_entry _ loop.i j m) b (omega arith))

pub returns : goal.returns
returns c = made _ _ c.loop-i.invariant.0 (λ b l. c.loop-i.invariant.3 b (omega arith))
