-- Signed numbers: sizes of sums, and the bits of a value that fits read back.
use mathlib.Core.Path.{◌≡◌, refl, ap, ◌∙◌}
use mathlib.Core.Bool.{Bool, true, false}
use Prim.Native.Nat.{ℕ, zero, suc, ◌+◌, ◌-◌, ◌≤◌, ◌<◌}
use native.Mathlib.Omega.{arith}
use lib.Dec.{ltb}
use borrow.Author.Tests.{le-ltb}
use lib.IntN.{ℤ, pos, sub_ℕ, ◌-ℤ◌}
use lib.Signed.{mag}
use mir.Syntax.{w32}
use mir.Val.{SFits, to_z, of_z}
use mir.ValLaws.{to_z-of_z, to_z_pos}

mag_sub : (a b : ℕ) → mag (sub_ℕ a (suc b)) ≤ a + b + 1
mag_sub a b = go (ltb a (suc b)) refl
  where
    go : (t : Bool) → ltb a (suc b) ≡ t → mag (sub_ℕ a (suc b)) ≤ a + b + 1
    go true e = rw e (omega arith)
    go false e = rw e (omega arith)

-- a difference of two counts is made once, and fits 32 bits
pub minus : (a b : ℕ) → pos a -ℤ pos b ≡ sub_ℕ a b
minus a zero = let e : a + 0 ≡ a - 0 = omega arith in rw (le-ltb a 0 (omega arith)) (ap pos e)
minus a (suc b) = refl

module _ (a b : ℕ) (ha : a ≤ 16777216) (hb : b ≤ 16777216) where
  pub sub_fits : SFits w32 (sub_ℕ a b)
  sub_fits = go b hb
    where
      go : (b : ℕ) → b ≤ 16777216 → SFits w32 (sub_ℕ a b)
      go zero h = rw (le-ltb a 0 (omega arith)) (record { sfits = omega arith })
      go (suc b) h = record { sfits = omega (arith, mag_sub a b) }

  pub minus_fits : SFits w32 (pos a -ℤ pos b)
  minus_fits = rw minus sub_fits

  pub minus_read : to_z w32 (of_z w32 (pos a -ℤ pos b)) ≡ sub_ℕ a b
  minus_read = to_z-of_z w32 (pos a -ℤ pos b) minus_fits ∙ minus a b

pub count_read : (a : ℕ) → a ≤ 16777216 → to_z w32 a ≡ pos a
count_read a h = to_z_pos w32 a (omega arith)

-- the bits of a number that fits, read back
pub back32 : (z : ℤ) → mag z < 2147483648 → to_z w32 (of_z w32 z) ≡ z
back32 z h = to_z-of_z w32 z (record { sfits = h })
