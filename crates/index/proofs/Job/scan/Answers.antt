-- `Job::scan` meets its contract.
use Rattle.std.proofs.Common.{sym, ap, ap₂, ◌∙◌}
use Rattle.index.specs.declared.Step.TheVariants.{Scan}
use Rattle.index.specs.Checks.{with_chunk}
use Rattle.index.specs.Scanning.{scanned, scanned_words}
use Rattle.index.proofs.StepLaws.{fitted, handed, check_refused, check_passed, as_done}
use Rattle.index.proofs.Job.scan.Goals as goal

pub returns-in-Err : goal.returns-in-Err
unfolding scanned scanned_words
returns-in-Err c = let no = check_refused c.in-Err.is c.check.ensures in record { hands = rw no c.refused.ensures; leaves = rw no }

pub scan_chunk-c-requires : goal.scan_chunk-c-requires
scan_chunk-c-requires c = fitted Scan _ _ _ c.args.k (check_passed c.in_default.not-Err c.check.ensures)

pub returns : goal.returns
unfolding scanned scanned_words
returns c = let a = c.args in
    let done = check_passed c.in_default.not-Err c.check.ensures in
    record {
      hands = ap₂ handed (sym done) (c.with_chunk.ensures ∙ ap (with_chunk a.self a.k) c.scan_chunk-c.ensures.value ∙ as_done done _ _);
      leaves = c.scan_chunk-c.ensures.words_after ∙ as_done done _ _;
    }
