-- `run_odd` meets its contract: the backslashes that end the bytes before `at` are those taken from behind.
use Rattle.std.proofs.Common.{◌≡◌, ℕ, zero, suc, ◌≤◌, Bool, true, false, cond, ◌+◌, ◌%◌, List, [], ◌∷◌, length, get_or, take, reverse, eqb, refl, ap, ◌∙◌, arith, rules, tests, not}
use Rattle.std.proofs.Math.Seq.{take-suc}
use Rattle.std.proofs.lemmas.List.{reverse-append}
use Rattle.std.proofs.lemmas.List.Folds.{length-prefix_len}
use Rattle.std.proofs.lemmas.Iterator.Adapters.{YieldsList-from_rev_slice}
use Rattle.std.proofs.lemmas.Iterator.Search.{YieldsList-from_take_while}
use Rattle.std.proofs.lemmas.Iterator.Consumers.{count_from_yields_List}
use Rattle.std.proofs.lemmas.Bool.Decides.{nat_tests}
use Rattle.std.specs.List.{prefix_len}
use Rattle.std.specs.Iterator.Adapters.{take_while_source}
use Rattle.rules.specs.Word.{odd}
use Rattle.rules.specs.Bytes.{is, has}
use Rattle.rules.specs.Bits.{grow, run_before, escaped}
use Rattle.blocks.proofs.marking.run_odd.Goals as goal

abbrev slash : ℕ → Bool
slash b = eqb b 92

grow_or_not : (b : Bool) {m n : ℕ} → m ≡ n → cond b (1 + m) 0 ≡ grow b n
grow_or_not true e = omega (arith, e)
grow_or_not false e = refl

run_from_behind : (text : List ℕ) (i : ℕ) → i ≤ length text → prefix_len slash (reverse (take i text)) ≡ run_before text i
unfolding run_before has is
run_from_behind text zero h = refl
run_from_behind text (suc i) h =
    let ih = run_from_behind text i (omega arith) in
    let e : reverse (take (suc i) text) ≡ get_or text i 0 ∷ reverse (take i text) = ap reverse (take-suc text i 0 h) ∙ reverse-append (take i text) (get_or text i 0 ∷ []) in
    rw e (grow_or_not (slash (get_or text i 0)) ih)

odd_parity : (n : ℕ) → eqb (n % 2) 1 ≡ odd n
unfolding odd
odd_parity zero = refl
odd_parity (suc n) =
    let ih = odd_parity n in
    let step : eqb (suc n % 2) 1 ≡ not (eqb (n % 2) 1) = grind (arith, nat_tests) in step ∙ ap not ih

pub returns : goal.returns
unfolding escaped
returns c =
    let before = take c.args.at c.args.text.now in
    let behind = YieldsList-from_rev_slice {s = take_while_source c.take_while.result} before (rw (c.take_while.ensures.source, c.rev.ensures.source) c.iter.ensures.rest) in
    let e =
    count_from_yields_List c.take_while.result c.count-run.result c.count-run.ensures.ran
    (YieldsList-from_take_while _ slash behind c.take_while.ensures.closure c.take_while.ensures.done (λ x b q k. search (rules, tests))) in
    odd_parity c.count-run.result ∙ ap odd (e ∙ length-prefix_len slash (reverse before) ∙ run_from_behind c.args.text.now c.args.at c.requires)
