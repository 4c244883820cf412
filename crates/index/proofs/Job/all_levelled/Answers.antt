-- `Job::all_levelled` meets its contract.
use Rattle.std.proofs.Common.{◌≡◌, ℕ, zero, suc, ◌≤◌, ◌&&◌, length, take, refl, sym, ap, ◌∙◌, arith, add-one, rules, tests}
use Rattle.std.specs.List.{list_all}
use Rattle.std.specs.Iterator.Adapters.{take_source}
use Rattle.std.proofs.lemmas.List.Folds.{list_all_more}
use Rattle.std.proofs.lemmas.Iterator.{YieldsList-from_slice, YieldsList-from_take}
use Rattle.std.proofs.lemmas.Iterator.Search.{all_from_yields_List}
use Rattle.index.specs.declared.Chunk.{Chunk}
use Rattle.index.specs.declared.Job.{Job}
use Rattle.index.specs.Checks.{chunk_at, fresh}
use Rattle.index.specs.Closing.{every, all_levelled}
use Rattle.index.proofs.CheckLaws.{chunks_few}
use Rattle.index.proofs.Job.all_levelled.Goals as goal

all_every : (j : Job) (m : ℕ) → m ≤ length j.chunks → list_all (λ (c : Chunk). c.levelled) (take m j.chunks) ≡ every (λ k. (chunk_at j k).levelled) m
unfolding every
all_every j zero h = refl
all_every j (suc m) h =
    ap (λ (n : ℕ). list_all (λ (c : Chunk). c.levelled) (take n j.chunks)) (sym (add-one m)) ∙ list_all_more (λ (c : Chunk). c.levelled) j.chunks m (fresh 0) (omega arith)
    ∙ ap (λ b. b && (chunk_at j m).levelled) (all_every j m (omega arith))

pub returns : goal.returns
unfolding all_levelled
returns c =
    let long : length c.args.self.now.chunks ≡ 64 = search rules in
    let chunks = YieldsList-from_slice {s = take_source c.take.result} c.args.self.now.chunks (rw c.take.ensures.source c.iter.ensures.rest) in
    let e = all_from_yields_List (λ (x : Chunk). x.levelled) _ _ c.all.result c.all.ensures.ran (YieldsList-from_take c.chunks.result chunks c.take.ensures.count) (λ x b q k. search (rules, tests)) in
    e ∙ all_every c.args.self.now c.chunks.result (omega (arith, long, c.chunks.ensures, chunks_few c.args.self.now)) ∙ ap (every _) c.chunks.ensures
