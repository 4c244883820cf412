-- Where the walk along a path stands: the walk from here is the walk from the start, and the selectors that are left are those read from here on.
use Prim.Native.Nat.{ℕ, zero, suc, ◌+◌, ◌-◌, ◌≤◌, min}
use mathlib.Core.Path.{◌≡◌, refl, sym, ap, ◌∙◌, subst}
use mathlib.Core.Bool.{Bool, true, false, ◌||◌}
use mathlib.Core.List.{List, [], ◌∷◌}
use native.Mathlib.Omega.{arith}
use lib.Dec.{eqb, ltb}
use lib.ListN.{length, get_or, take, drop}
use borrow.Author.Tests.{ltb-false}
use Rattle.rules.specs.Word.{pick}
use Rattle.rules.proofs.Booleans.{impossible}
use Rattle.paths.specs.Places.{byte_in, between}
use Rattle.paths.specs.Grammar.{Selector, name, number}
use Rattle.paths.specs.Path.{StepAt, step_at, Reading, good, bad, before, read_from, read_path, large}
use Rattle.paths.specs.Helpers.{told, path_check}
use Rattle.query.specs.Items.{lent}
use Rattle.query.specs.Walk.{name_step, number_step, step_by, walk_from}
use Rattle.layout.specs.declared.Shape.{Shape}
use Rattle.paths.specs.declared.PathStep.{PathStep}
use Rattle.paths.specs.declared.PathStep.TheVariants as Kind
use Rattle.std.proofs.Common.{Some, Ok}
use Rattle.query.specs.declared.types.Refusal.{Refusal}
use Rattle.query.specs.Answer.{Found, Refused}
use Rattle.paths.proofs.PathLaws.{name_told, number_told}
use Rattle.paths.proofs.Checking.{read_name, read_number, fits_fine}
use Rattle.query.proofs.Inside.{InRecord, step_in}
use Rattle.paths.proofs.PlaceLaws.{between_is}

pub record Going (text words : List ℕ) (s : Shape) (path : List ℕ) (from to a e at k : ℕ) : Type 0 where
  pub fuel : ℕ
  pub left : List Selector
  pub reads : read_from fuel path at ≡ good left
  pub same : (ss : List Selector) → read_path path ≡ good ss
      → walk_from (byte_in text) (lent words s.levels s.width) 1 ss from to ≡ walk_from (byte_in text) (lent words s.levels s.width) k left a e
  pub small : large left ≡ false
  pub few : k + length left ≤ suc s.levels
  pub level : 1 ≤ k
  pub order : a ≤ e
  pub inside : e ≤ length text

-- a path that was found fine begins with `$`
pub going_start : {text words : List ℕ} {s : Shape} {path : List ℕ} {from to : ℕ} → from ≤ to → to ≤ length text → path_check path s.levels ≡ Ok tt
    → Going text words s path from to from to 1 1
unfolding read_path
going_start {text} {words} {s} {path} {from} {to} o i h =
    let f = fits_fine path s.levels h in
    record {
      fuel = length path;
      left = f.selectors;
      reads = starts (eqb (get_or path 0 0) 36) f.reads;
      same = λ ss r. ap (λ (ss : List Selector). walk_from (byte_in text) (lent words s.levels s.width) 1 ss from to) (let q : ss ≡ f.selectors = cc (r, f.reads) in q);
      small = f.small;
      few = omega (arith, f.few);
      level = omega arith;
      order = o;
      inside = i;
    }
  where
    starts : {ss : List Selector} (b : Bool) → pick b (read_from (length path) path 1) (bad 0) ≡ good ss → read_from (length path) path 1 ≡ good ss
    starts true e = e
    starts false e = impossible (cc)

-- ---- one selector

-- the first of those that are left, and how the others are read
record Next (path : List ℕ) (x : ℕ) (one : Selector) (left : List Selector) : Type 0 where
  fuel : ℕ
  rest : List Selector
  is : left ≡ one ∷ rest
  reads : read_from fuel path x ≡ good rest

next : {path : List ℕ} {x : ℕ} {one : Selector} {left : List Selector} (c : ℕ) (r : Reading) → read_from c path x ≡ r → before one r ≡ good left → Next path x one left
next c (good ss) q e = record { fuel = c; rest = ss; is = cc; reads = q }
next c (bad p) q e = impossible (cc)

next_name : {path : List ℕ} (at : ℕ) {b f x : ℕ} {left : List Selector} (c : ℕ) → read_from c path at ≡ good left → step_at path at ≡ StepAt.Name b f x
    → Next path x (name (between (byte_in path) b f)) left
unfolding read_from
next_name at zero r e = impossible (cc)
next_name {path} at {b} {f} {x} (suc c) r e = next c (read_from c path x) refl (sym (read_name path at c e) ∙ r)

next_number : {path : List ℕ} (at : ℕ) {v x : ℕ} {left : List Selector} (c : ℕ) → read_from c path at ≡ good left → step_at path at ≡ StepAt.Number v x → Next path x (number v) left
unfolding read_from
next_number at zero r e = impossible (cc)
next_number {path} at {v} {x} (suc c) r e = next c (read_from c path x) refl (sym (read_number path at c e) ∙ r)

large_first : (v : ℕ) (ss : List Selector) → large (number v ∷ ss) ≡ false → v ≤ 16777215
unfolding large
large_first v ss e = ltb-false 16777215 v (or_left (ltb 16777215 v) (large ss) e)
  where
    or_left : (a b : Bool) → (a || b) ≡ false → a ≡ false
    or_left true b e = e
    or_left false b e = refl

large_rest : (one : Selector) (ss : List Selector) → large (one ∷ ss) ≡ false → large ss ≡ false
unfolding large
large_rest (name n) ss e = e
large_rest (number v) ss e = or_right (ltb 16777215 v) (large ss) e
  where
    or_right : (a b : Bool) → (a || b) ≡ false → b ≡ false
    or_right true b e = impossible (cc)
    or_right false b e = e

-- ---- the ways on

module _ {text words : List ℕ} {s : Shape} {path : List ℕ} {from to a e at k : ℕ} (g : Going text words s path from to a e at k) where
  -- a step that is found, and one that is refused
  module _ {x : ℕ} {one : Selector} (n : Next path x one g.left) where
    level_in : k ≤ s.levels
    level_in = omega (arith, g.few, ap length n.is)

    found : {b f : ℕ} → step_by (byte_in text) (lent words s.levels s.width) k one a e ≡ Found b f → Going text words s path from to b f x (k + 1)
    unfolding walk_from
    found {b} {f} q =
        let i = subst (InRecord (length text)) q (step_in (byte_in text) (lent words s.levels s.width) (length text) k one a e g.inside) in
        record {
          fuel = n.fuel;
          left = n.rest;
          reads = n.reads;
          same = λ ss r. g.same ss r ∙ rw (n.is, q);
          small = large_rest one n.rest (sym (ap large n.is) ∙ g.small);
          few = omega (arith, g.few, ap length n.is);
          level = omega arith;
          order = omega (arith, i);
          inside = i.1;
        }

    stopped : {why : Refusal} → step_by (byte_in text) (lent words s.levels s.width) k one a e ≡ Refused why
        → (ss : List Selector) → read_path path ≡ good ss → walk_from (byte_in text) (lent words s.levels s.width) 1 ss from to ≡ Refused why
    unfolding walk_from
    stopped q ss r = g.same ss r ∙ rw (n.is, q)

  -- by a name
  module _ {b f x : ℕ} (t : told (step_at path at) ≡ Ok (Some (Kind.Name b f x))) where
    named : Next path x (name (between (byte_in path) b f)) g.left
    named = next_name at g.fuel g.reads (name_told path at t).0

    pub level_name : k ≤ s.levels
    level_name = level_in named

    -- the name as the code has it, a part of the path
    slice : take (f - b) (drop b path) ≡ between (byte_in path) b f
    slice = let n = name_told path at t in sym (between_is path b f (omega arith))

    pub going_name : {c d : ℕ} → name_step (byte_in text) (lent words s.levels s.width) k (take (f - b) (drop b path)) a e ≡ Found c d → Going text words s path from to c d x (k + 1)
    going_name q = found named (rw slice at q)

    pub stop_name : {why : Refusal} → name_step (byte_in text) (lent words s.levels s.width) k (take (f - b) (drop b path)) a e ≡ Refused why
        → (ss : List Selector) → read_path path ≡ good ss → walk_from (byte_in text) (lent words s.levels s.width) 1 ss from to ≡ Refused why
    stop_name q = stopped named (rw slice at q)

  -- by a number, which is small, so that the code holds it
  module _ {m x : ℕ} (t : told (step_at path at) ≡ Ok (Some (Kind.Number m x))) where
    numbered : Next path x (number m) g.left
    numbered =
        let h = number_told path at t in
        let n = next_number at g.fuel g.reads h.1 in
        let l = large_first h.0 n.rest (sym (ap large n.is) ∙ g.small) in
        let q : h.0 ≡ m = omega (arith, h.2) in
        subst (λ (v : ℕ). Next path x (number v) g.left) q n

    pub level_number : k ≤ s.levels
    level_number = level_in numbered

    pub going_number : {c d : ℕ} → number_step (byte_in text) (lent words s.levels s.width) k m a e ≡ Found c d → Going text words s path from to c d x (k + 1)
    going_number q = found numbered q

    pub stop_number : {why : Refusal} → number_step (byte_in text) (lent words s.levels s.width) k m a e ≡ Refused why
        → (ss : List Selector) → read_path path ≡ good ss → walk_from (byte_in text) (lent words s.levels s.width) 1 ss from to ≡ Refused why
    stop_number q = stopped numbered q

  -- no step is left
  pub stop_end : ((st : PathStep) → told (step_at path at) ≡ Ok (Some st) → ⊥)
      → (ss : List Selector) → read_path path ≡ good ss → walk_from (byte_in text) (lent words s.levels s.width) 1 ss from to ≡ Found a e
  unfolding read_from walk_from told
  stop_end no_step ss r = g.same ss r ∙ ap (λ (l : List Selector). walk_from (byte_in text) (lent words s.levels s.width) k l a e) (none g.fuel g.reads (step_at path at) refl)
    where
      none : (c : ℕ) → read_from c path at ≡ good g.left → (st : StepAt) → step_at path at ≡ st → g.left ≡ []
      none zero r st q = impossible (cc)
      none (suc c) r (StepAt.Name b f x) q = absurd (no_step (Kind.Name b f x) (ap told q))
      none (suc c) r (StepAt.Number v x) q = absurd (no_step (Kind.Number (min v 16777216) x) (ap told q))
      none (suc c) r StepAt.End q = let e : ◌≡◌ {A = Reading} (good []) (good g.left) = rw q at r in cc
      none (suc c) r (StepAt.Refused p) q = let e : ◌≡◌ {A = Reading} (bad p) (good g.left) = rw q at r in impossible (cc)
