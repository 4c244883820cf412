-- What the tests of items say of places, and an item by the place of the comma before it.
use Prim.Native.Nat.{ℕ, zero, suc, ◌+◌, ◌-◌, ◌≤◌, ◌<◌}
use mathlib.Core.Path.{◌≡◌, refl, sym, ◌∙◌}
use mathlib.Core.Bool.{Bool, true, false}
use native.Mathlib.Omega.{arith}
use lib.Dec.{ltb}
use borrow.Author.Tests.{ltb-true, lt-ltb, le-ltb}
use Rattle.rules.specs.Word.{pick}
use Rattle.paths.specs.Places.{first_at, nth_at}
use Rattle.query.specs.Items.{solid, quoted, item_no}
use Rattle.query.specs.Walk.{framed, filled}
use Rattle.query.specs.Item.{Other}
use Rattle.paths.proofs.PlaceLaws.{first_ge}
use Rattle.paths.proofs.PathLaws.{both_true}

-- a quoted part has two bytes
pub quoted_long : (quote : ℕ → Bool) (p q : ℕ) → quoted quote p q ≡ true → p + 1 < q
unfolding quoted
quoted_long quote p q h = ltb-true (p + 1) q (both_true (ltb (p + 1) q) _ h).0

-- so has a framed one
pub framed_long : (byte : ℕ → ℕ) (head tail a e : ℕ) → framed byte head tail a e ≡ true → a + 1 < e
unfolding framed
framed_long byte head tail a e h = ltb-true (a + 1) e (both_true (ltb (a + 1) e) _ h).0

pub filled_some : (byte : ℕ → ℕ) (a e : ℕ) → a + 1 < e → filled byte a e ≡ true → a + 1 < e - 1
unfolding filled
filled_some byte a e l h = omega (arith, first_ge (solid byte) (a + 1) (e - 1) (omega arith), ltb-true _ (e - 1) h)

module _ (byte : ℕ → ℕ) (comma : ℕ → Bool) (e : ℕ) where
  item_by : (m a : ℕ) → item_no byte comma (suc m) a e ≡ pick (ltb (nth_at comma m a e) e) (item_no byte comma 0 (nth_at comma m a e + 1) e) Other
  unfolding item_no nth_at
  item_by zero a = refl
  item_by (suc m) a = go (ltb (first_at comma a e) e) (item_by m (first_at comma a e + 1))
    where
      go : (b : Bool)
          → item_no byte comma (suc m) (first_at comma a e + 1) e
          ≡ pick (ltb (nth_at comma m (first_at comma a e + 1) e) e) (item_no byte comma 0 (nth_at comma m (first_at comma a e + 1) e + 1) e) Other
          → pick b (item_no byte comma (suc m) (first_at comma a e + 1) e) Other
          ≡ pick (ltb (pick b (nth_at comma m (first_at comma a e + 1) e) e) e) (item_no byte comma 0 (pick b (nth_at comma m (first_at comma a e + 1) e) e + 1) e) Other
      go true ih = ih
      go false ih = rw (le-ltb e e (omega arith))

  by_comma : (m a c : ℕ) → (m ≡ 0 → ⊥) → c ≡ nth_at comma (m - 1) a e → item_no byte comma m a e ≡ pick (ltb c e) (item_no byte comma 0 (c + 1) e) Other
  by_comma zero a c z h = absurd (z refl)
  by_comma (suc m) a c z h =
      let q : suc m - 1 ≡ m = omega arith in
      let k : nth_at comma m a e ≡ c = rw (← q) (sym h) in
      item_by m a ∙ rw k

  pub item_none : (m a c : ℕ) → (m ≡ 0 → ⊥) → c ≡ nth_at comma (m - 1) a e → e ≤ c → item_no byte comma m a e ≡ Other
  item_none m a c z h l = by_comma m a c z h ∙ rw (le-ltb c e l)

  pub item_some : (m a c : ℕ) → (m ≡ 0 → ⊥) → c ≡ nth_at comma (m - 1) a e → c < e → item_no byte comma m a e ≡ item_no byte comma 0 (c + 1) e
  item_some m a c z h l = by_comma m a c z h ∙ rw (lt-ltb c e l)
