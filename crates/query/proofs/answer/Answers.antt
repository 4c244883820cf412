-- Past the checks, a path that is fine is walked.
use mathlib.Core.Path.{◌≡◌, sym, ◌∙◌}
use native.Mathlib.Omega.{arith}
use Rattle.std.proofs.Common.{Ok}
use Rattle.paths.specs.Path.{read_path}
use Rattle.paths.specs.Helpers.{path_check}
use Rattle.query.proofs.Answering.{walk_read, passed, by_walk}
use Rattle.query.proofs.answer.Goals as goal

pub returns : goal.returns
returns c =
    let a = c.args in
    let fine : path_check a.path.now a.levels ≡ Ok tt = sym c.check_path.ensures ∙ c.in_ok-check_path.was in
    let w : c.walk_record.result ≡ walk_read a.text.now a.words.now a.levels a.path.now (read_path a.path.now) =
    by_walk a.text.now a.words.now a.levels a.path.now c.new-shape.ensures.wide fine (rw c.new-shape.ensures.levels_kept at c.walk_record.ensures) in
    grind (arith, passed)
