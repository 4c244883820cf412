-- What an accepted step may rely on, and what the two ways of every step come to: accepted, it does its work; refused, nothing.
use Rattle.std.specs.Prelude.{Result, Ok, Err}
use mathlib.Core.Path.{◌≡◌, refl, sym, ap, ◌∙◌}
use mathlib.Core.List.{List}
use mathlib.Core.Bool.{Bool}
use Prim.Native.Nat.{ℕ, ◌*◌, ◌-◌, ◌<◌}
use native.Mathlib.Omega.{arith}
use lib.ListN.{length}
use Rattle.index.specs.declared.Answer.{Answer}
use Rattle.index.specs.declared.Answer.TheVariants.{Done, Refused}
use Rattle.index.specs.declared.Refusal.{Refusal}
use Rattle.index.specs.declared.Step.{Step}
use Rattle.index.specs.declared.Job.{Job}
use Rattle.index.specs.Answers.{on_done, answered}
use Rattle.index.specs.Checks.{span_of, refusal}
use Rattle.index.specs.Stepping.{Fitting}
use Rattle.blocks.specs.Swinging.{Small}
use Rattle.chunks.specs.Writing.{Lent}
use Rattle.chunks.specs.Sweeping.{swing_by}
unfoldable pub use Rattle.index.proofs.AnswerLaws.{handed}
use Rattle.index.proofs.AnswerLaws.{not_done}
use Rattle.blocks.proofs.SwingLaws.{swing_small}
use Rattle.chunks.proofs.ScanLaws.{width_few}
use Rattle.index.proofs.CheckLaws.{chunks_few, span_within, lengths, accepted}

pub fitting : (s : Step) (j : Job) (n w k : ℕ) → refusal s j n w k ≡ Done → Fitting j n w × (k < 64)
fitting s j n w k e =
    let a = accepted s j n w k e in
    let l = lengths j n w a.same in
    (record { short = l.short; few = l.few; total = sym l.total }, omega (arith, a.chunk, chunks_few j))

-- of which the code asks the first alone
pub fitted : (s : Step) (j : Job) (n w k : ℕ) → refusal s j n w k ≡ Done → Fitting j n w
fitted s j n w k e = (fitting s j n w k e).0

-- the words of the chunk lie in the buffer
pub lent_chunk : (j : Job) (text words : List ℕ) (k : ℕ) → Fitting j (length text) (length words) → Lent text words j.levels (span_of j (length text) k).to
lent_chunk j text words k f = record { small = f.short; few = f.few; long = f.total; within = (span_within j (length text) k).1 }

-- so few places that every count of them is small
pub small_swing : (by : ℕ → Bool) (text words : List ℕ) (levels from to : ℕ) → Lent text words levels to → Small 16777216 (swing_by by text (64 * from) (64 * (to - from)))
unfolding swing_by
small_swing by text words levels from to l = swing_small _ _ (64 * (to - from)) 16777216 (omega (arith, l.within, width_few (length text) l.small))

-- what a check's result says of the answer
pub check_refused : {r : Result (Unit {0}) Refusal} {why : Refusal} {a : Answer} → r ≡ Err why → answered r ≡ a → a ≡ Refused why
check_refused e f = sym f ∙ ap answered e

pub check_passed : {r : Result (Unit {0}) Refusal} {a : Answer} → ((why : Refusal) → r ≡ Err why → ⊥) → answered r ≡ a → a ≡ Done
check_passed {r} n f = sym f ∙ go r n
  where
    go : (x : Result (Unit {0}) Refusal) → ((why : Refusal) → x ≡ Err why → ⊥) → answered x ≡ Done
    go (Ok done) m = refl
    go (Err why) m = absurd (m why refl)

-- any answer but Done
abbrev pub Other : Answer → Type 0
Other a = a ≡ Done → ⊥

module _ {A : Type 0} {r : Answer} where
  -- r is what the checks answer, and a what the call got
  pub as_refused : {a : Answer} → a ≡ r → Other a → (x y : A) → y ≡ on_done r x y
  as_refused e h x y = sym (not_done r x y (rw e at h))

  pub as_done : r ≡ Done → (x y : A) → x ≡ on_done r x y
  as_done e x y = rw e
