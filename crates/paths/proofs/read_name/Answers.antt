-- By the class of its first byte.
use mathlib.Core.Path.{◌≡◌, sym, ◌∙◌}
use mathlib.Core.Bool.{false}
use lib.ListN.{get_or}
use Rattle.paths.specs.Path.{is_head}
use Rattle.paths.specs.Helpers.{told}
use Rattle.paths.proofs.PathLaws.{name_some, name_none, head_behind}
use Rattle.paths.proofs.read_name.Goals as goal
use Rattle.paths.proofs.read_name.Goals.{else-from-path-via-then-from-path+else-is_head, else-from-path-via-else-from-path}

pub returns-then-is_head : goal.returns-then-is_head
unfolding told
returns-then-is_head c = let a = c.args in rw (name_some a.path.now a.from (sym c.is_head.ensures ∙ c.if-is_head.true), c.name_end-end.ensures)

pub returns-else-from-path : goal.returns-else-from-path
unfolding told
returns-else-from-path c = let a = c.args in
    let n : is_head (get_or a.path.now a.from 0) ≡ false =
    elim c.else-from-path.branch [
      | else-from-path-via-then-from-path+else-is_head w ↦ sym w.is_head.ensures ∙ w.if-is_head.false
      | else-from-path-via-else-from-path w ↦ head_behind a.path.now a.from w.if-from-path.false
    ] in
    rw (name_none a.path.now a.from n)
