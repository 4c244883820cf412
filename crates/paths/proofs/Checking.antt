-- The check of a path, step by step: what was seen so far, and the reading of the rest. By the reading's own recursion.
use Prim.Native.Nat.{ℕ, zero, suc, ◌+◌, ◌-◌, ◌≤◌, ◌<◌, min}
use mathlib.Core.Path.{◌≡◌, refl, sym, ap, ◌∙◌}
use mathlib.Core.Bool.{Bool, true, false, ◌||◌}
use mathlib.Core.List.{List}
use Rattle.std.proofs.Common.{Some, None, Result, Ok, Err}
use native.Mathlib.Omega.{arith}
use native.Mathlib.Nat.{add-zero, zero-add}
use lib.Dec.{ltb, eqb}
use lib.ListN.{length, get_or}
use borrow.Author.Tests.{le-ltb, lt-ltb, ltb-true, ltb-false, eq-eqb}
use Rattle.rules.specs.Word.{pick}
use Rattle.rules.proofs.Booleans.{impossible}
use Rattle.paths.specs.Places.{byte_in, between}
use Rattle.paths.specs.Grammar.{Selector, name, number}
use Rattle.paths.specs.Path.{StepAt, step_at, Reading, good, bad, before, read_from, read_path, large}
use Rattle.paths.specs.Helpers.{told, limits_of, checked_reading, path_check}
use Rattle.paths.specs.declared.PathStep.TheVariants as Held
use Rattle.paths.specs.declared.BadPath.{BadPath}
use Rattle.paths.specs.declared.PathRefusal.{PathRefusal}
use Rattle.paths.specs.declared.PathRefusal.TheVariants.{Bad, TooLarge, TooDeep}
use Rattle.paths.proofs.PathLaws.{or_or, name_told, number_told, end_told, bad_told, inside}

-- the check of what is read, after so many steps and perhaps a large number
abbrev rest : Bool → ℕ → ℕ → Reading → Result (Unit {0}) PathRefusal
rest big steps levels (good ss) = limits_of (big || large ss) (steps + length ss) levels
rest big steps levels (bad p) = Err (Bad p)

rest_name : (big : Bool) (steps levels : ℕ) (n : List ℕ) (r : Reading) → rest big steps levels (before (name n) r) ≡ rest big (steps + 1) levels r
unfolding large
rest_name big steps levels n (good ss) = ap (λ (c : ℕ). limits_of (big || large ss) c levels) (omega arith)
rest_name big steps levels n (bad p) = refl

rest_number : (big : Bool) (steps levels v : ℕ) (r : Reading) → rest big steps levels (before (number v) r) ≡ rest (big || ltb 16777215 v) (steps + 1) levels r
unfolding large
rest_number big steps levels v (good ss) = rw or_or (ap (λ (c : ℕ). limits_of ((big || ltb 16777215 v) || large ss) c levels) (omega arith))
rest_number big steps levels v (bad p) = refl

pub record Checking (path : List ℕ) (levels at : ℕ) (big : Bool) (steps : ℕ) : Type 0 where
  pub within : at ≤ length path
  pub short : length path ≤ 1024
  pub count : steps < at
  pub fuel : ℕ
  pub enough : length path - at < fuel
  pub same : path_check path levels ≡ rest big steps levels (read_from fuel path at)

pub checking_start : (path : List ℕ) (levels : ℕ) → length path ≤ 1024 → get_or path 0 0 ≡ 36 → Checking path levels 1 false 0
unfolding path_check read_path
checking_start path levels l h =
    let i : 0 < length path = inside (λ b. eqb b 36) refl path 0 (eq-eqb _ _ h) in
    record { within = omega arith; short = l; count = omega arith; fuel = length path; enough = omega arith; same = rw (le-ltb 1024 (length path) l, h) (start (read_from (length path) path 1)) }
  where
    start : (r : Reading) → checked_reading levels r ≡ rest false 0 levels r
    start (good ss) = ap (λ (c : ℕ). limits_of (large ss) c levels) (sym (zero-add (length ss)))
    start (bad p) = refl

-- a number that the code holds is large where the number is
large_told : (v m : ℕ) → m ≡ min v 16777216 → ltb 16777215 v ≡ ltb 16777215 m
large_told v m e = go (ltb 16777215 m) refl
  where
    go : (b : Bool) → ltb 16777215 m ≡ b → ltb 16777215 v ≡ ltb 16777215 m
    go true h = lt-ltb 16777215 v (omega (arith, ltb-true 16777215 m h)) ∙ sym h
    go false h = le-ltb 16777215 v (omega (arith, ltb-false 16777215 m h)) ∙ sym h

-- the rest is read behind the step
pub read_name : (path : List ℕ) (at : ℕ) {b f x : ℕ} (c : ℕ) → step_at path at ≡ StepAt.Name b f x → read_from (suc c) path at ≡ before (name (between (byte_in path) b f)) (read_from c path x)
unfolding read_from
read_name path at c e = rw e

pub read_number : (path : List ℕ) (at : ℕ) {v x : ℕ} (c : ℕ) → step_at path at ≡ StepAt.Number v x → read_from (suc c) path at ≡ before (number v) (read_from c path x)
unfolding read_from
read_number path at c e = rw e

module _ {path : List ℕ} {levels at : ℕ} {big : Bool} {steps : ℕ} (i : Checking path levels at big steps) where
  pub checking_name : {b f x : ℕ} → told (step_at path at) ≡ Ok (Some (Held.Name b f x)) → (at < x) × Checking path levels x big (steps + 1)
  checking_name {b} {f} {x} e = go i.fuel i.enough i.same
    where
      go : (c : ℕ) → length path - at < c → path_check path levels ≡ rest big steps levels (read_from c path at) → (at < x) × Checking path levels x big (steps + 1)
      go zero l q = absurd (omega arith)
      go (suc c) l q =
          let n = name_told path at e in (
            n.3,
            record {
              within = n.4;
              short = i.short;
              count = omega (arith, i.count);
              fuel = c;
              enough = omega arith;
              same = q ∙ ap (rest big steps levels) (read_name path at c n.0) ∙ rest_name big steps levels (between (byte_in path) b f) (read_from c path x);
            },
          )

  pub checking_number : {m x : ℕ} → told (step_at path at) ≡ Ok (Some (Held.Number m x)) → (at < x) × Checking path levels x (big || ltb 16777215 m) (steps + 1)
  checking_number {m} {x} e = go i.fuel i.enough i.same
    where
      go : (c : ℕ) → length path - at < c → path_check path levels ≡ rest big steps levels (read_from c path at) → (at < x) × Checking path levels x (big || ltb 16777215 m) (steps + 1)
      go zero l q = absurd (omega arith)
      go (suc c) l q =
          let n = number_told path at e in (
            n.3,
            record {
              within = n.4;
              short = i.short;
              count = omega (arith, i.count);
              fuel = c;
              enough = omega arith;
              same =
                  q ∙ ap (rest big steps levels) (read_number path at c n.1) ∙ rest_number big steps levels n.0 (read_from c path x)
                  ∙ ap (λ (b : Bool). rest b (steps + 1) levels (read_from c path x)) (ap (λ (b : Bool). big || b) (large_told n.0 m n.2));
            },
          )

  pub checking_end : told (step_at path at) ≡ Ok None → path_check path levels ≡ limits_of big steps levels
  unfolding read_from large
  checking_end e = go i.fuel i.enough i.same
    where
      none : (b : Bool) → (b || false) ≡ b
      none true = refl
      none false = refl

      go : (c : ℕ) → length path - at < c → path_check path levels ≡ rest big steps levels (read_from c path at) → path_check path levels ≡ limits_of big steps levels
      go zero l q = absurd (omega arith)
      go (suc c) l q = q ∙ rw (end_told path at e, none, add-zero)

  pub checking_bad : {bad : BadPath} → told (step_at path at) ≡ Err bad → path_check path levels ≡ Err (Bad bad.place)
  unfolding read_from
  checking_bad {bad} e = go i.fuel i.enough i.same
    where
      go : (c : ℕ) → length path - at < c → path_check path levels ≡ rest big steps levels (read_from c path at) → path_check path levels ≡ Err (Bad bad.place)
      go zero l q = absurd (omega arith)
      go (suc c) l q = q ∙ rw (bad_told path at e)

-- ---- a path that is found fine

-- is read whole, has no large number, and no more steps than there are levels
pub record Fits (path : List ℕ) (levels : ℕ) : Type 0 where
  pub selectors : List Selector
  pub reads : read_path path ≡ good selectors
  pub small : large selectors ≡ false
  pub few : length selectors ≤ levels

fine_limits : (b c : Bool) → ◌≡◌ {A = Result (Unit {0}) PathRefusal} (pick b (Err TooLarge) (pick c (Err TooDeep) (Ok tt))) (Ok tt) → (b ≡ false) × (c ≡ false)
fine_limits true c e = impossible (cc)
fine_limits false true e = impossible (cc)
fine_limits false false e = (refl, refl)

pub fits_fine : (path : List ℕ) (levels : ℕ) → path_check path levels ≡ Ok tt → Fits path levels
unfolding path_check
fits_fine path levels e = go (ltb 1024 (length path)) (read_path path) refl e
  where
    go : (b : Bool) (r : Reading) → read_path path ≡ r → pick b (Err TooLarge) (checked_reading levels r) ≡ Ok tt → Fits path levels
    go true r q e = impossible (cc)
    go false (bad p) q e = impossible (cc)
    go false (good ss) q e =
        let v = fine_limits (large ss) (ltb levels (length ss)) e in
        record { selectors = ss; reads = q; small = v.0; few = ltb-false levels (length ss) v.1 }
