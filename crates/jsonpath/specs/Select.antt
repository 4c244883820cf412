-- What a path of RFC 9535 selects from the values of a text.
use Rattle.std.specs.Prelude.{◌≡◌, Bool, true, false, ◌||◌, ◌≢◌, List, [], ◌∷◌, ◌++◌, ℕ, zero, suc, Ok, Err}
use Rattle.paths.specs.Grammar.{Selector, name, number}
use Rattle.names.specs.Spelling.{same, no_escape, Match}
use Rattle.texts.specs.Nodes.{is_high, is_low, Json, scalar, array, object, Items, no_items, item, Fields, no_fields, field}

-- ---- RFC 9535: what a selector takes from a node

abbrev pub keep_if : Bool → Json → List Json → List Json
keep_if true t ts = t ∷ ts
keep_if false t ts = ts

-- 2.3.1, the name selector: the member values whose name is that; equal are "identical sequences of Unicode scalar values"
unfoldable pub named : List ℕ → Fields → List Json
named n no_fields = []
named n (field raw us t fs) = keep_if (same us n) t (named n fs)

-- 2.3.3, the index selector: the element of that "zero-based index", or nothing outside "the range of the array"
unfoldable pub nth : ℕ → Items → List Json
nth i no_items = []
nth zero (item t is) = t ∷ []
nth (suc i) (item t is) = nth i is

-- "Nothing is selected from a value that is not an object"; "that is not an array"
unfoldable pub children : Selector → Json → List Json
children (name m) (scalar a bs) = []
children (name m) (array a bs is) = []
children (name m) (object a bs fs) = named m fs
children (number i) (scalar a bs) = []
children (number i) (array a bs is) = nth i is
children (number i) (object a bs fs) = []

-- ---- 2.1.2: a query is the root identifier and then segments, each applied to a nodelist: to every node in turn, what comes of it concatenated

unfoldable pub flat : (Json → List Json) → List Json → List Json
flat f [] = []
flat f (t ∷ ts) = f t ++ flat f ts

unfoldable pub segments : List Selector → List Json → List Json
segments [] ts = ts
segments (s ∷ ss) ts = segments ss (flat (children s) ts)

-- the nodelist of a query over a value: the root identifier gives the nodelist of that value alone
unfoldable pub select : List Selector → Json → List Json
select ss root = segments ss (root ∷ [])

-- ---- the conditions of demand 2

-- "no unpaired surrogate": none is left where pairs are joined
abbrev pub NoneUnpaired : List ℕ → Type 0
NoneUnpaired [] = Unit {0}
NoneUnpaired (u ∷ us) = ((is_high u || is_low u) ≡ false) × NoneUnpaired us

-- none of the fields has that name
abbrev pub Fresh : List ℕ → Fields → Type 0
Fresh us no_fields = Unit {0}
Fresh us (field raw vs t fs) = (us ≢ vs) × Fresh us fs

-- each object's names have no unpaired surrogate and are, by their characters, unrepeated
abbrev mutual
  pub Fair : Json → Type 0
  Fair (scalar a bs) = Unit {0}
  Fair (array a bs is) = FairItems is
  Fair (object a bs fs) = FairFields fs

  pub FairItems : Items → Type 0
  FairItems no_items = Unit {0}
  FairItems (item t is) = Fair t × FairItems is

  pub FairFields : Fields → Type 0
  FairFields no_fields = Unit {0}
  FairFields (field raw us t fs) = NoneUnpaired us × Fresh us fs × Fair t × FairFields fs

-- ---- a name of those characters, for a path's name: "names compare by their characters"; 30 for "an unpaired surrogate"

pub data ByCharacters (us n : List ℕ) : Match → Type 0 where
  that_name : NoneUnpaired us → us ≡ n → ByCharacters us n (Ok true)
  other_name : NoneUnpaired us → us ≢ n → ByCharacters us n (Ok false)
  unpaired : (NoneUnpaired us → ⊥) → ByCharacters us n (Err no_escape)
