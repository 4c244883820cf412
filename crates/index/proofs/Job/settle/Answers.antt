-- `Job::settle` meets its contract: refused, nothing; accepted, by what was found.
use Rattle.std.specs.Prelude.{Option}
use mathlib.Core.Path.{◌≡◌, sym, ap, ap₂, ◌∙◌}
use mathlib.Core.Bool.{Bool}
use mathlib.Core.List.{List}
use Prim.Native.Nat.{ℕ}
use lib.ListN.{length}
use Rattle.index.specs.declared.Fault.{Fault}
use Rattle.index.specs.declared.Answer.TheVariants.{Done, Faulty}
use Rattle.index.specs.declared.State.TheVariants.{Stopped}
use Rattle.index.specs.declared.Step.TheVariants.{Settle}
use Rattle.index.specs.declared.Chunk.{Chunk}
use Rattle.index.specs.declared.Job.{Job}
use Rattle.chunks.specs.declared.Span.{Span}
use Rattle.index.specs.Checks.{with_chunk, with_state, span_of, is_last, refusal}
use Rattle.index.specs.Stepping.{Fitting}
use Rattle.chunks.specs.Writing.{Lent}
use Rattle.index.specs.Settling.{settle_words, settle_chunk, chunk_fault, found_answer, found_job, found_by, settled, settled_words}
use Rattle.index.proofs.StepLaws.{fitted, lent_chunk, handed, check_refused, check_passed, as_done}
use Rattle.index.proofs.Job.settle.Goals as goal

-- the words left are as long as those lent
lent_after : (j : Job) (text words after : List ℕ) (k : ℕ) {s : Span} → Fitting j (length text) (length words) → length after ≡ length words → s ≡ span_of j (length text) k → Lent text after j.levels s.to
lent_after j text words after k {s} f e es =
    let l = lent_chunk j text words k f in
    record { small = l.small; few = l.few; long = e ∙ l.long; within = rw es l.within }

-- an accepted settle, by what it found
module _ (j : Job) (text words : List ℕ) (k : ℕ) (done : refusal Settle j (length text) (length words) k ≡ Done) {after : List ℕ} {d : Chunk} {s : Span} {last : Bool} {f : Option Fault}
    (ea : after ≡ settle_words j text words k) (ed : d ≡ settle_chunk j text after k) (es : s ≡ span_of j (length text) k) (el : last ≡ is_last j k)
    (ef : f ≡ chunk_fault d text after j.levels s last) where
  found_is : f ≡ found_by j text (settle_words j text words k) k
  unfolding found_by
  found_is =
      ef ∙ ap₂ (λ (x : Chunk) (y : Span). chunk_fault x text after j.levels y last) ed es
      ∙ ap (λ (b : Bool). chunk_fault (settle_chunk j text after k) text after j.levels (span_of j (length text) k) b) el
      ∙ ap (λ (x : List ℕ). chunk_fault (settle_chunk j text x k) text x j.levels (span_of j (length text) k) (is_last j k)) ea

  job_is : with_chunk j k d ≡ with_chunk j k (settle_chunk j text (settle_words j text words k) k)
  job_is = ap (with_chunk j k) (ed ∙ ap (λ (x : List ℕ). settle_chunk j text x k) ea)

  ended : handed (found_answer f) (found_job f (with_chunk j k d)) ≡ settled j text words k
  unfolding settled
  ended =
      ap₂ handed (ap found_answer found_is ∙ as_done done _ _) (ap₂ found_job found_is job_is ∙ as_done done _ _)

  left : after ≡ settled_words j text words k
  unfolding settled_words
  left = ea ∙ as_done done _ _

pub returns-in-Err : goal.returns-in-Err
unfolding settled settled_words
returns-in-Err c = let no = check_refused c.in-Err.is c.check.ensures in record { hands = rw no c.refused.ensures; leaves = rw no }

pub settle_chunk-c-requires : goal.settle_chunk-c-requires
settle_chunk-c-requires c = fitted Settle _ _ _ c.args.k (check_passed c.in_default.not-Err c.check.ensures)

pub span-s-requires : goal.span-s-requires
span-s-requires c = (fitted Settle _ _ _ c.args.k (check_passed c.in_default.not-Err c.check.ensures)).short

pub chunk_fault-requires : goal.chunk_fault-requires
chunk_fault-requires c = let a = c.args in
    lent_after a.self a.text.now a.words.now c.settle_chunk-c.new.words a.k (fitted Settle _ _ _ a.k (check_passed c.in_default.not-Err c.check.ensures)) c.settle_chunk-c.auto.words c.span-s.ensures

pub returns-in-None : goal.returns-in-None
returns-in-None c = let a = c.args in
    let done = check_passed c.in_default.not-Err c.check.ensures in
    let e = c.settle_chunk-c.ensures in
    let found = sym c.in-None.is ∙ c.chunk_fault.ensures in
    record {
      hands = ap (handed Done) c.with_chunk-job.ensures ∙ ended a.self a.text.now a.words.now a.k done e.words_after e.value c.span-s.ensures c.is_last.ensures found;
      leaves = left a.self a.text.now a.words.now a.k done e.words_after e.value c.span-s.ensures c.is_last.ensures found;
    }

pub returns-in-Some : goal.returns-in-Some
returns-in-Some c = let a = c.args in
    let done = check_passed c.in_default.not-Err c.check.ensures in
    let e = c.settle_chunk-c.ensures in
    let found = sym c.in-Some.is ∙ c.chunk_fault.ensures in
    record {
      hands =
          ap (handed (Faulty _)) (c.with_state.ensures ∙ ap (λ (j : Job). with_state j (Stopped c.in-Some.f)) c.with_chunk-job.ensures)
          ∙ ended a.self a.text.now a.words.now a.k done e.words_after e.value c.span-s.ensures c.is_last.ensures found;
      leaves = left a.self a.text.now a.words.now a.k done e.words_after e.value c.span-s.ensures c.is_last.ensures found;
    }
