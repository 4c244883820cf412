-- Names that are unrepeated and have no unpaired surrogate: the first member whose name is the path's is the one that RFC 9535 selects. By the members
-- of an object.
use Rattle.std.proofs.Common.{Ok}
use mathlib.Core.Path.{◌≡◌, refl, sym, ◌∙◌}
use mathlib.Core.Bool.{Bool, true, false, not-eq-not}
use mathlib.Core.List.{List, [], ◌∷◌}
use Prim.Native.Nat.{ℕ, zero, suc, ◌+◌}
use lib.ListN.{length}
use Rattle.paths.specs.Grammar.{Selector, name, number}
use Rattle.texts.specs.Nodes.{characters, Json, scalar, array, object, Items, no_items, item, Fields, no_fields, field}
use Rattle.names.specs.Spelling.{same, matched, on_match}
use Rattle.names.proofs.Comparing.{same_exactly}
use Rattle.jsonpath.specs.Select.{keep_if, named, nth, children, Fresh, Fair, FairItems, FairFields}
use Rattle.texts.proofs.Padded.{Bare, Entry, Entries, entry_bytes, bare_tree, pad_fields}
use Rattle.jsonpath.proofs.Characters.{Ascii, name_same}

-- ---- what the walk takes: the first member whose name is the one asked for, unless it meets a surrogate alone before

pub data Picked : Type 0 where
  nodes : List Json → Picked
  bad : Picked

abbrev pub first_named : List ℕ → Fields → Picked
first_named n no_fields = nodes []
first_named n (field raw us t fs) = on_match (matched n raw) (nodes (t ∷ [])) (first_named n fs) bad

abbrev pub first_ones : Selector → Json → Picked
first_ones (name n) (scalar a bs) = nodes []
first_ones (name n) (array a bs is) = nodes []
first_ones (name n) (object a bs fs) = first_named n fs
first_ones (number i) (scalar a bs) = nodes []
first_ones (number i) (array a bs is) = nodes (nth i is)
first_ones (number i) (object a bs fs) = nodes []

-- a name that no later field has
fresh_none : (us n : List ℕ) (fs : Fields) → us ≡ n → Fresh us fs → named n fs ≡ []
unfolding named
fresh_none us n no_fields e h = refl
fresh_none us n (field raw vs t fs) e h = rw ((not-eq-not {a = same vs n} {b = false}).0 (λ z. h.0 (e ∙ sym ((same_exactly vs n).0 z)))) (fresh_none us n fs e h.1)

kept : (c : Bool) (t : Json) (later : Picked) (ts : List Json) → later ≡ nodes ts → (c ≡ true → ts ≡ []) → on_match (Ok c) (nodes (t ∷ [])) later bad ≡ nodes (keep_if c t ts)
kept true t later ts e f = rw (f refl)
kept false t later ts e f = e

fields_same : (n : List ℕ) (a : ℕ) (ms : Entries) → Ascii n → FairFields (pad_fields a ms) → first_named n (pad_fields a ms) ≡ nodes (named n (pad_fields a ms))
unfolding named
fields_same n a (Entries.last_entry (Entry.entry {raw} {us} b s b' p)) ac f = rw (name_same n s f.0 ac) (kept (same (characters us) n) _ _ [] refl (λ e. refl))
fields_same n a (Entries.more_entries (Entry.entry {w} {raw} {us} {w'} b s b' p) ms) ac f =
    let next : ℕ = suc (a + length (entry_bytes (Entry.entry b s b' p))) in
    rw (name_same n s f.0 ac)
    (kept (same (characters us) n) _ _ _ (fields_same n next ms ac f.3) (λ e. fresh_none (characters us) n (pad_fields next ms) ((same_exactly (characters us) n).0 e) f.1))

-- a selector's name
abbrev pub PlainName : Selector → Type 0
PlainName (name n) = Ascii n
PlainName (number i) = Unit {0}

pub children_same : (s : Selector) (a : ℕ) (v : Bare) → PlainName s → Fair (bare_tree a v) → first_ones s (bare_tree a v) ≡ nodes (children s (bare_tree a v))
unfolding children named
children_same (name n) a Bare.false h f = refl
children_same (name n) a Bare.null h f = refl
children_same (name n) a Bare.true h f = refl
children_same (name n) a (Bare.num x) h f = refl
children_same (name n) a (Bare.string x) h f = refl
children_same (name n) a (Bare.empty_array x) h f = refl
children_same (name n) a (Bare.array x) h f = refl
children_same (name n) a (Bare.empty_object x) h f = refl
children_same (name n) a (Bare.object ms) h f = fields_same n (suc a) ms h f
children_same (number i) a v h f = other (bare_tree a v)
  where
    other : (t : Json) → first_ones (number i) t ≡ nodes (children (number i) t)
    other (scalar x y) = refl
    other (array x y is) = refl
    other (object x y fs) = refl

-- ---- the nodes that a step takes are as fair as where it takes them

abbrev pub AllFair : List Json → Type 0
AllFair [] = Unit {0}
AllFair (t ∷ ts) = Fair t × AllFair ts

nth_fair : (i : ℕ) (is : Items) → FairItems is → AllFair (nth i is)
unfolding nth
nth_fair i no_items f = tt
nth_fair zero (item t is) f = (f.0, tt)
nth_fair (suc i) (item t is) f = nth_fair i is f.1

named_fair : (n : List ℕ) (fs : Fields) → FairFields fs → AllFair (named n fs)
unfolding named
named_fair n no_fields f = tt
named_fair n (field raw us t fs) f = keep (same us n) (named n fs) f.2 (named_fair n fs f.3)
  where
    keep : (c : Bool) (ts : List Json) → Fair t → AllFair ts → AllFair (keep_if c t ts)
    keep true ts h k = (h, k)
    keep false ts h k = k

pub children_fair : (s : Selector) (t : Json) → Fair t → AllFair (children s t)
unfolding children named nth
children_fair (name n) (scalar a bs) f = tt
children_fair (name n) (array a bs is) f = tt
children_fair (name n) (object a bs fs) f = named_fair n fs f
children_fair (number i) (scalar a bs) f = tt
children_fair (number i) (array a bs is) f = nth_fair i is f
children_fair (number i) (object a bs fs) f = tt
