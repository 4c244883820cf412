-- What settle does, test by test: the state at the border, the fault that is announced, the fault at the end, and the step itself.
use Rattle.std.specs.Prelude.{Option, Some, None}
use mathlib.Core.Path.{◌≡◌, refl, ap}
use mathlib.Core.Bool.{Bool, true, false}
use mathlib.Core.List.{List}
use Prim.Native.Nat.{ℕ, zero, suc, ◌-◌, ◌≤◌, ◌<◌}
use native.Mathlib.Omega.{arith}
use borrow.Author.Tests.{lt-ltb, le-ltb}
use lib.ListN.{length}
use lib.IntN.{pos, ◌+ℤ◌}
use Rattle.rules.specs.Word.{pick, xor}
use Rattle.index.specs.declared.Fault.{Fault}
use Rattle.index.specs.declared.Fault.TheVariants.{InString, InBracket}
use Rattle.index.specs.declared.Chunk.{Chunk}
use Rattle.index.specs.declared.Job.{Job}
use Rattle.chunks.specs.declared.Span.{Span}
use Rattle.index.specs.Checks.{chunk_at}
use Rattle.index.specs.Depth.{clamp_depth}
use Rattle.index.specs.Settling.{inside_of, start_depth, of_sought, announced, seek_in, sought_fault, end_fault, or_found, chunk_fault}

-- ---- the state at the border

module _ (j : Job) where
  pub inside_first : (k : ℕ) → k ≡ 0 → inside_of j k ≡ false
  unfolding inside_of
  inside_first k e = rw e

  pub inside_next : (k : ℕ) → (k ≡ 0 → ⊥) → inside_of j k ≡ xor (chunk_at j (k - 1)).inside (chunk_at j (k - 1)).kept.odd
  unfolding inside_of
  inside_next zero n = absurd (n refl)
  inside_next (suc k) n = let e : suc k - 1 ≡ k = omega arith in rw e

  pub start_first : (k : ℕ) → k ≡ 0 → start_depth j k ≡ 0
  unfolding start_depth
  start_first k e = rw e

  pub start_next : (k : ℕ) → (k ≡ 0 → ⊥) → start_depth j k ≡ clamp_depth (pos (chunk_at j (k - 1)).start +ℤ (chunk_at j (k - 1)).kept.net)
  unfolding start_depth
  start_next zero n = absurd (n refl)
  start_next (suc k) n = let e : suc k - 1 ≡ k = omega arith in rw e

-- ---- the fault of a settled chunk

module _ (c : Chunk) (n : ℕ) where
  pub end_string : xor c.inside c.kept.odd ≡ true → end_fault c n ≡ Some (InString n)
  unfolding end_fault
  end_string e = rw e

  module _ (e : xor c.inside c.kept.odd ≡ false) where
    pub end_bracket : 0 < clamp_depth (pos c.start +ℤ c.kept.net) → end_fault c n ≡ Some (InBracket n)
    unfolding end_fault
    end_bracket l = rw (e, lt-ltb _ _ l)

    pub end_none : clamp_depth (pos c.start +ℤ c.kept.net) ≤ 0 → end_fault c n ≡ None
    unfolding end_fault
    end_none l = rw (e, le-ltb _ _ l)

module _ (c : Chunk) (text words : List ℕ) (levels : ℕ) (s : Span) where
  pub not_announced : announced c ≡ false → sought_fault c text words levels s ≡ None
  unfolding sought_fault
  not_announced e = rw e

  pub is_announced : announced c ≡ true → sought_fault c text words levels s ≡ of_sought (seek_in text words levels s.from s.to c.start)
  unfolding sought_fault
  is_announced e = rw e

  module _ (last : Bool) where
    pub fault_sought : (f : Option Fault) → sought_fault c text words levels s ≡ f → chunk_fault c text words levels s last ≡ or_found f (pick last (end_fault c (length text)) None)
    unfolding chunk_fault
    fault_sought f e = ap (λ (x : Option Fault). or_found x (pick last (end_fault c (length text)) None)) e
