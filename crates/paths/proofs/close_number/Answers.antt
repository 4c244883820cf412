-- Test by test, as the definition.
use Prim.Native.Nat.{min}
use mathlib.Core.Path.{◌≡◌, refl}
use mathlib.Core.Bool.{false}
use native.Mathlib.Omega.{arith}
use lib.Dec.{eqb}
use lib.ListN.{get_or}
use borrow.Author.Tests.{ne_eqb}
use Rattle.paths.specs.Helpers.{told}
use Rattle.paths.proofs.PathLaws.{behind}
use Rattle.paths.proofs.close_number.Goals as goal
use Rattle.paths.proofs.close_number.Goals.{else-end-path-via-then-end-path+else-path-end-eq93, else-end-path-via-else-end-path}

pub returns-then-path-end-eq93 : goal.returns-then-path-end-eq93
unfolding told
returns-then-path-end-eq93 c = let m : min c.args.value 16777216 ≡ c.args.value = omega arith in rw (c.if-path-end-eq93.true, m)

pub returns-else-end-path : goal.returns-else-end-path
unfolding told
returns-else-end-path c = let a = c.args in
    let n : eqb (get_or a.path.now a.end 0) 93 ≡ false =
    elim c.else-end-path.branch [
      | else-end-path-via-then-end-path+else-path-end-eq93 w ↦ ne_eqb _ _ w.if-path-end-eq93.false
      | else-end-path-via-else-end-path w ↦ behind (λ b. eqb b 93) refl a.path.now a.end w.if-end-path.false
    ] in
    rw n
