-- Fifteen numbers, by computing them.
use Prim.Native.Nat.{ℕ, ◌+◌, ◌*◌, ◌<◌}
use mathlib.Core.Path.{◌≡◌, refl, ◌∙◌}
use lib.ListN.{length, get_or}
use borrow.Author.Rules.{rules}
use Rattle.rules.specs.Layout.{listed}
use Rattle.std.proofs.lemmas.List.FromFn.{fill_by_all}
use Rattle.show.specs.Running.{multiples}
use Rattle.show.proofs.printing.all_cuts.Goals as goal

pub returns : goal.returns
unfolding multiples listed
returns c =
    let long : length c.from_fn.result ≡ 15 = c.from_fn.ensures.items.long in
    let each : (k : ℕ) → k < 15 → get_or c.from_fn.result k 0 ≡ 1024 * (k + 1) = λ k l. let h = (c.from_fn.ensures.items.at k 0 l).2 in search rules in
    fill_by_all (λ i. 1024 * (i + 1)) c.from_fn.result 15 0 long each ∙ refl
