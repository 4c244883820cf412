-- A machine that reads bytes one after another, for proofs: outside strings, inside, or behind a backslash inside; at some depth of brackets.
-- `go q d s bs` is the state after bs, or none where something stands in the way: a backslash outside a string, a 65th open bracket, a closer
-- that falls below the depth d, a comma or colon at depth d or less, and, if q is false, a quote that is not escaped.
use mathlib.Core.Path.{◌≡◌, refl, ap}
use mathlib.Core.Bool.{Bool, true, false}
use mathlib.Core.Option.{Option, none, some}
use mathlib.Core.Logic.{◌≢◌}
use mathlib.Core.List.{List, [], ◌∷◌, ◌++◌}
use Prim.Native.Nat.{ℕ, zero, suc}
use borrow.Author.Tests.{ne_eqb}
use lib.Dec.{eqb, ltb}
use Rattle.rules.specs.Word.{pick}

-- what a byte does
pub data Sort : Type 0 where
  quote slash up down sep plain : Sort

abbrev pub sort_of : ℕ → Sort
sort_of b =
    pick (eqb b 0x22) quote (pick (eqb b 0x5C) slash (pick (eqb b 0x5B) up (pick (eqb b 0x7B) up
    (pick (eqb b 0x5D) down (pick (eqb b 0x7D) down (pick (eqb b 0x2C) sep (pick (eqb b 0x3A) sep plain)))))))

-- none of the eight bytes
pub record Apart (b : ℕ) : Type 0 where
  pub quote : b ≢ 0x22
  pub slash : b ≢ 0x5C
  pub open_array : b ≢ 0x5B
  pub open_object : b ≢ 0x7B
  pub close_array : b ≢ 0x5D
  pub close_object : b ≢ 0x7D
  pub comma : b ≢ 0x2C
  pub colon : b ≢ 0x3A

pub sort_plain : {b : ℕ} → Apart b → sort_of b ≡ plain
sort_plain {b} a =
    rw (
      ne_eqb b 0x22 a.quote,
      ne_eqb b 0x5C a.slash,
      ne_eqb b 0x5B a.open_array,
      ne_eqb b 0x7B a.open_object,
      ne_eqb b 0x5D a.close_array,
      ne_eqb b 0x7D a.close_object,
      ne_eqb b 0x2C a.comma,
      ne_eqb b 0x3A a.colon,
    )
    refl

pub data State : Type 0 where
  out str esc : ℕ → State

abbrev pub less : ℕ → ℕ
less zero = zero
less (suc k) = k

abbrev pub step : State → Sort → State
step (out k) quote = str k
step (out k) slash = out k
step (out k) up = out (suc k)
step (out k) down = out (less k)
step (out k) sep = out k
step (out k) plain = out k
step (str k) quote = out k
step (str k) slash = esc k
step (str k) up = str k
step (str k) down = str k
step (str k) sep = str k
step (str k) plain = str k
step (esc k) c = str k

abbrev pub ok : Bool → ℕ → State → Sort → Bool
ok q d (out k) quote = q
ok q d (out k) slash = false
ok q d (out k) up = ltb k 64
ok q d (out k) down = ltb d k
ok q d (out k) sep = ltb d k
ok q d (out k) plain = true
ok q d (str k) quote = q
ok q d (str k) slash = true
ok q d (str k) up = true
ok q d (str k) down = true
ok q d (str k) sep = true
ok q d (str k) plain = true
ok q d (esc k) c = true

abbrev pub check : Bool → Option State → Option State
check true x = x
check false x = none

abbrev pub go : Bool → ℕ → State → List ℕ → Option State
go q d s [] = some s
go q d s (b ∷ bs) = check (ok q d s (sort_of b)) (go q d (step s (sort_of b)) bs)

pub passed : (c : Bool) (x : Option State) {t : State} → check c x ≡ some t → (c ≡ true) × (x ≡ some t)
passed true x e = (refl, e)
passed false x e = (cc, cc)

pub go_append : (q : Bool) (d : ℕ) (s : State) (xs ys : List ℕ) {t : State} → go q d s xs ≡ some t → go q d s (xs ++ ys) ≡ go q d t ys
go_append q d s [] ys e = ap {B = Option State} at e
  where
    at : Option State → Option State
    at none = none
    at (some x) = go q d x ys
go_append q d s (x ∷ xs) ys e =
    let h = passed (ok q d s (sort_of x)) (go q d (step s (sort_of x)) xs) e in
    rw h.0 (go_append q d (step s (sort_of x)) xs ys h.1)

-- inside a string only the quote and the backslash matter
pub inside_other : {b : ℕ} (q : Bool) (d k : ℕ) → b ≢ 0x22 → b ≢ 0x5C → (step (str k) (sort_of b) ≡ str k) × (ok q d (str k) (sort_of b) ≡ true)
inside_other {b} q d k f g =
    rw (ne_eqb b 0x22 f, ne_eqb b 0x5C g) (cases (eqb b 0x5B) (eqb b 0x7B) (eqb b 0x5D) (eqb b 0x7D) (eqb b 0x2C) (eqb b 0x3A))
  where
    rest : Bool → Bool → Bool → Bool → Bool → Bool → Sort
    rest a b c d e f = pick a up (pick b up (pick c down (pick d down (pick e sep (pick f sep plain)))))

    cases : (a1 a2 a3 a4 a5 a6 : Bool) → (step (str k) (rest a1 a2 a3 a4 a5 a6) ≡ str k) × (ok q d (str k) (rest a1 a2 a3 a4 a5 a6) ≡ true)
    cases true a2 a3 a4 a5 a6 = (refl, refl)
    cases false true a3 a4 a5 a6 = (refl, refl)
    cases false false true a4 a5 a6 = (refl, refl)
    cases false false false true a5 a6 = (refl, refl)
    cases false false false false true a6 = (refl, refl)
    cases false false false false false true = (refl, refl)
    cases false false false false false false = (refl, refl)
