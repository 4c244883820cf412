-- "A path is `$`, then steps `.name` or `[number]`": the grammar as derivations, each with the bytes it derives. It knows nothing of a reading.
use Rattle.std.specs.Prelude.{ℕ, suc, ◌+◌, ◌-◌, ◌*◌, ◌≤◌, ◌<◌, List, [], ◌∷◌, ◌++◌, length, take}
pub use Rattle.rules.specs.Bytes.{In}

-- what a step selects by: a name's bytes, or a number
pub data Selector : Type 0 where
  name : List ℕ → Selector
  number : ℕ → Selector

-- "an ASCII letter or underscore"
pub data Letter : ℕ → Type 0 where
  upper : {b : ℕ} → In 65 90 b → Letter b
  lower : {b : ℕ} → In 97 122 b → Letter b
  underscore : Letter 95

-- "goes on with those or digits"
pub data Rest : List ℕ → Type 0 where
  none : Rest []
  letter : {b : ℕ} {bs : List ℕ} → Letter b → Rest bs → Rest (b ∷ bs)
  digit : {b : ℕ} {bs : List ℕ} → In 48 57 b → Rest bs → Rest (b ∷ bs)

-- "A name starts with an ASCII letter or underscore and goes on .."
pub data Name : List ℕ → Type 0 where
  starts : {b : ℕ} {bs : List ℕ} → Letter b → Rest bs → Name (b ∷ bs)

-- digits, with the number read so far and the whole number
pub data More : ℕ → List ℕ → ℕ → Type 0 where
  none : {n : ℕ} → More n [] n
  digit : {n b m : ℕ} {bs : List ℕ} → In 48 57 b → More (n * 10 + (b - 48)) bs m → More n (b ∷ bs) m

-- "A number is `0`, or digits without a leading zero"
pub data Numeral : List ℕ → ℕ → Type 0 where
  zero : Numeral (48 ∷ []) 0
  digits : {b m : ℕ} {bs : List ℕ} → In 49 57 b → More (b - 48) bs m → Numeral (b ∷ bs) m

-- "steps `.name` or `[number]`"
pub data Steps : List ℕ → List Selector → Type 0 where
  none : Steps [] []
  dot : {n bs : List ℕ} {ss : List Selector} → Name n → Steps bs ss → Steps (46 ∷ (n ++ bs)) (name n ∷ ss)
  bracket : {d bs : List ℕ} {m : ℕ} {ss : List Selector} → Numeral d m → Steps bs ss → Steps (91 ∷ (d ++ (93 ∷ bs))) (number m ∷ ss)

pub data Path : List ℕ → List Selector → Type 0 where
  root : {bs : List ℕ} {ss : List Selector} → Steps bs ss → Path (36 ∷ bs) ss

-- the bytes begin a path
pub record Begins (bs : List ℕ) : Type 0 where
  pub rest : List ℕ
  pub selectors : List Selector
  pub whole : Path (bs ++ rest) selectors

-- "The place of 20 is the smallest p such that the first p + 1 bytes begin no path, or the path's length if it only stops too soon":
-- the first p bytes begin a path, the first p + 1 do not, and the whole is none
pub record RefusedAt (bs : List ℕ) (p : ℕ) : Type 0 where
  pub fits : p ≤ length bs
  pub before : Begins (take p bs)
  pub after : p < length bs → ¬ (Begins (take (suc p) bs))
  pub short : (ss : List Selector) → Path bs ss → ⊥
