-- `put_row` meets its contract: after j turns the entries before from + j are filled.
use Rattle.std.proofs.Common.{ℕ, ◌+◌, get_or, set, subst, arith, length-set, rules}
use Rattle.blocks.specs.Coding.{Filled}
use Rattle.blocks.proofs.Filling.{fill_next}
use Rattle.blocks.proofs.classes.put_row.Goals as goal

pub loop-j-init : goal.loop-j-init
loop-j-init c = (search rules, search rules, λ f filled row b l. filled b (omega arith))

pub loop-j-preserved : goal.loop-j-preserved
loop-j-preserved c = let loop = c.loop-j in
    let from = c.args.from in (
      search rules,
      simp length-set loop.invariant.1,
      λ f filled row. subst (λ (n : ℕ). Filled f n (set loop.t (from + loop.j) (get_or c.args.row.now loop.j 0))) (omega arith)
          (fill_next f (from + loop.j) loop.t (loop.invariant.2 f filled row) (omega arith) (row loop.j (omega arith))),
    )

pub returns : goal.returns
returns c = let i = c.loop-j.invariant in
    record { t_len = i.1; by_index = λ f filled row b l. i.2 f filled row b (omega arith) }
