-- Byte by byte, as the definition; behind the end of the name there is no digit.
use mathlib.Core.Path.{◌≡◌}
use Rattle.names.specs.Spelling.{unit_of}
use Rattle.names.proofs.SpellingLaws.{unit_short, unit_first, unit_second, unit_digits}
use Rattle.names.proofs.unit_at.Goals as goal
use Rattle.names.proofs.unit_at.Goals.{then-name-lt6-via-then-name-lt6, then-name-lt6-via-else-name-lt6+then-name-ne92, then-name-lt6-via-else-name-lt6+else-name-ne92+then-name-ne117}

pub returns-then-name-lt6 : goal.returns-then-name-lt6
returns-then-name-lt6 c = let n = c.args.name.now in
    let e : unit_of n ≡ 0x10000 =
    elim c.then-name-lt6.branch [
      | then-name-lt6-via-then-name-lt6 w ↦ unit_short n w.if-name-lt6.true
      | then-name-lt6-via-else-name-lt6+then-name-ne92 w ↦ unit_first n w.if-name-ne92.true
      | then-name-lt6-via-else-name-lt6+else-name-ne92+then-name-ne117 w ↦ unit_second n w.if-name-ne117.true
    ] in
    rw e

pub returns : goal.returns
returns c = rw (unit_digits c.args.name.now c.if-name-ne92.false c.if-name-ne117.false) c.four_digits.ensures
