-- The first LF parts them: before it lies the path, and behind it the record.
use Prim.Native.Nat.{◌<◌}
use mathlib.Core.Path.{sym, ◌∙◌}
use native.Mathlib.Omega.{arith}
use lib.ListN.{length, drop_of_length-le}
use Rattle.std.proofs.lemmas.List.{take_all, take_rest, length-take-le}
use Rattle.show.proofs.Inputs.{feed_found, feed_unfound}
use Rattle.show.proofs.printing.parts.Goals as goal

pub returns-in-Some : goal.returns-in-Some
returns-in-Some c = let input = c.args.input.now in
    let e = feed_found input c.in-Some.at c.in-Some.ensures in
    let inside : c.in-Some.at < length input = c.in-Some.ensures.0.high in
    record { path = rw e; path_long = length-take-le _ input (omega arith) ∙ sym e; «record» = rw e (take_rest input _) }

pub returns-in-None : goal.returns-in-None
returns-in-None c = let input = c.args.input.now in
    let e = feed_unfound input c.in-None.ensures in
    record {
      path = rw e (sym (take_all _ input (omega arith)));
      path_long = sym e;
      «record» = rw e (take_rest input _ ∙ drop_of_length-le input (omega arith) ∙ sym (drop_of_length-le input (omega arith)));
    }
