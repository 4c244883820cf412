-- Which bytes spell which characters: RFC 8259, section 7, said without reading. (proofs/Spelled.antt: `spelling` reads exactly this, and `matched`
-- compares so.)
use Rattle.std.specs.Prelude.{ℕ, ◌+◌, ◌*◌, ◌≡◌, true, false, ◌≢◌, Ok, Err, List, [], ◌∷◌}
use Rattle.texts.specs.Grammar.{Hexdig, Short}
use Rattle.texts.specs.Nodes.{is_high, is_low, paired}
use Rattle.names.specs.Spelling.{no_escape, Match}

-- %x5C %x75 4HEXDIG, the 16 bits written, and the bytes behind
pub data Unit4 : List ℕ → ℕ → List ℕ → Type 0 where
  u_xxxx : {a b c d x y z u : ℕ} {bs : List ℕ} → Hexdig a x → Hexdig b y → Hexdig c z → Hexdig d u
      → Unit4 (0x5C ∷ 0x75 ∷ a ∷ b ∷ c ∷ d ∷ bs) (((x * 16 + y) * 16 + z) * 16 + u) bs

pub data Spells : List ℕ → List ℕ → Type 0 where
  none : Spells [] []
  -- any byte but a backslash stands for itself
  plain : {b : ℕ} {bs us : List ℕ} → b ≢ 0x5C → Spells bs us → Spells (b ∷ bs) (b ∷ us)
  short : {a u : ℕ} {bs us : List ℕ} → Short a u → Spells bs us → Spells (0x5C ∷ a ∷ bs) (u ∷ us)
  u_xxxx : {u : ℕ} {bs rest us : List ℕ} → Unit4 bs u rest → is_high u ≡ false → is_low u ≡ false → Spells rest us → Spells bs (u ∷ us)
  -- "Pairs of surrogate escapes make one character"
  pair : {u v : ℕ} {bs mid rest us : List ℕ} → Unit4 bs u mid → is_high u ≡ true → Unit4 mid v rest → is_low v ≡ true → Spells rest us → Spells bs (paired u v ∷ us)

-- what a name of the record is to the name n of a path
pub data Compares (n bs : List ℕ) : Match → Type 0 where
  same : Spells bs n → Compares n bs (Ok true)
  different : {us : List ℕ} → Spells bs us → us ≢ n → Compares n bs (Ok false)
  bad_escape : ((us : List ℕ) → Spells bs us → ⊥) → Compares n bs (Err no_escape)

-- no byte is a backslash
abbrev pub Plain : List ℕ → Type 0
Plain [] = Unit {0}
Plain (b ∷ bs) = (b ≢ 0x5C) × Plain bs
