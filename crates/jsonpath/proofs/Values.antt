-- A value that is derived, in its place in the record: no blank at its ends, and what the walk trims to it.
use mathlib.Core.Path.{◌≡◌, refl, ◌∙◌}
use mathlib.Core.Bool.{true}
use mathlib.Core.List.{List, [], ◌∷◌, ◌++◌}
use Prim.Native.Nat.{ℕ, zero, suc, ◌+◌, ◌≤◌, ◌<◌}
use native.Mathlib.Nat.{add-suc, suc-add, not-suc-le-zero, le_of_suc-le-suc, le_refl}
use native.Mathlib.Numerals.{add-one}
use native.Mathlib.Omega.{arith}
use lib.ListN.{length, get_or, length-append}
use Rattle.paths.specs.Places.{byte_in}
use Rattle.query.specs.Items.{value_at}
use Rattle.query.specs.Item.{Item, Found, Other, Broken}
use Rattle.query.specs.declared.types.Cause.TheVariants.{BadEscape}
use Rattle.texts.specs.Grammar.{Number}
use Rattle.texts.specs.Nodes.{Json, deep}
use Rattle.texts.proofs.Padded.{number_starts, Bare, Pad, bare_bytes, pad_bytes, elems_bytes, entries_bytes, bare_tree, padded}
use Rattle.jsonpath.proofs.Machine.{out}
use Rattle.jsonpath.proofs.Derive.{Solids, number_solids, plains_run, ws_plains}
use Rattle.jsonpath.proofs.Trace.{At, Seg, trace}
use Rattle.jsonpath.proofs.Stretches.{seg_left, seg_right, seg_at}
use Rattle.jsonpath.proofs.Parts.{Ends, solid_here, value_mid}
use Rattle.jsonpath.proofs.Names.{Picked, nodes, bad}

-- ---- the ends of a value

solids_at : (bs : List ℕ) (j : ℕ) → Solids bs → j < length bs → 0x21 ≤ get_or bs j 0
solids_at [] j h l = absurd (not-suc-le-zero l)
solids_at (b ∷ bs) zero h l = h.0.dark
solids_at (b ∷ bs) (suc j) h l = solids_at bs j h.1 (le_of_suc-le-suc l)

pub snoc_length : (xs : List ℕ) (c : ℕ) → length (xs ++ (c ∷ [])) ≡ suc (length xs)
snoc_length xs c = length-append xs (c ∷ []) ∙ add-one (length xs)

module _ (text : List ℕ) where
  solid_ends : (a x : ℕ) (xs : List ℕ) → Solids (x ∷ xs) → Seg text a (x ∷ xs) → Ends text a (suc (length xs))
  solid_ends a x xs h g = record {
    last = length xs;
    size = refl;
    first_solid = solid_here text a x g.0 h.0.dark;
    last_solid = solid_here text (a + length xs) (get_or (x ∷ xs) (length xs) 0) (seg_at text a (x ∷ xs) (length xs) g (le_refl _)) (solids_at (x ∷ xs) (length xs) h (le_refl _));
  }

  pub bracket_ends : (a c c' : ℕ) (xs : List ℕ) → 0x21 ≤ c → 0x21 ≤ c' → Seg text a (c ∷ (xs ++ (c' ∷ []))) → Ends text a (suc (length (xs ++ (c' ∷ []))))
  bracket_ends a c c' xs h h' g = record {
    last = suc (length xs);
    size = rw (snoc_length xs c');
    first_solid = solid_here text a c g.0 h;
    last_solid = rw (add-suc, ← suc-add a (length xs)) (solid_here text (suc a + length xs) c' (seg_right text (suc a) xs (c' ∷ []) g.1).0 h');
  }

  number_ends : (a : ℕ) (bs : List ℕ) → Number bs → Seg text a bs → Ends text a (length bs)
  number_ends a bs n g =
      let f = number_starts n in
      rw f.whole (solid_ends a f.first f.rest (rw f.whole at (number_solids n)) (rw f.whole at g))

  pub value_ends : (a : ℕ) (v : Bare) → Seg text a (bare_bytes v) → Ends text a (length (bare_bytes v))
  value_ends a Bare.false g = solid_ends a 0x66 (0x61 ∷ 0x6C ∷ 0x73 ∷ 0x65 ∷ []) (omega arith) g
  value_ends a Bare.null g = solid_ends a 0x6E (0x75 ∷ 0x6C ∷ 0x6C ∷ []) (omega arith) g
  value_ends a Bare.true g = solid_ends a 0x74 (0x72 ∷ 0x75 ∷ 0x65 ∷ []) (omega arith) g
  value_ends a (Bare.num {bs} n) g = number_ends a bs n g
  value_ends a (Bare.string {raw} s) g = bracket_ends a 0x22 0x22 raw (omega arith) (omega arith) g
  value_ends a (Bare.empty_array {w} b) g = bracket_ends a 0x5B 0x5D w (omega arith) (omega arith) g
  value_ends a (Bare.array es) g = bracket_ends a 0x5B 0x5D (elems_bytes es) (omega arith) (omega arith) g
  value_ends a (Bare.empty_object {w} b) g = bracket_ends a 0x7B 0x7D w (omega arith) (omega arith) g
  value_ends a (Bare.object ms) g = bracket_ends a 0x7B 0x7D (entries_bytes ms) (omega arith) (omega arith) g

-- ---- a value in its place: below k brackets, at place a

pub record Good (text : List ℕ) (k a : ℕ) (v : Bare) : Type 0 where
  pub seg : Seg text a (bare_bytes v)
  pub at : At text a (out k)
  pub shallow : deep (bare_tree a v) + k ≤ 64

-- a part of the record is a value's
pub record Hit (text : List ℕ) (k : ℕ) (t : Json) (x : Item) : Type 0 where
  pub place : ℕ
  pub value : Bare
  pub is_tree : t ≡ bare_tree place value
  pub is_part : x ≡ Found place (place + length (bare_bytes value))
  pub good : Good text k place value

-- what is taken from a node, and the item that the walk makes of it
pub data Taken (text : List ℕ) (k : ℕ) (ts : Picked) (x : Item) : Type 0 where
  none : ts ≡ nodes [] → x ≡ Other → Taken text k ts x
  one : (t : Json) → ts ≡ nodes (t ∷ []) → Hit text k t x → Taken text k ts x
  unpaired : (place : ℕ) → ts ≡ bad → x ≡ Broken BadEscape place → Taken text k ts x

module _ (text : List ℕ) (k : ℕ) where
  pub pad_hit : (place a : ℕ) (p : Pad) → Seg text a (pad_bytes p) → At text a (out k) → deep (padded a p) + k ≤ 64
      → Hit text k (padded a p) (value_at (byte_in text) place a (a + length (pad_bytes p)))
  pad_hit place a (Pad.pad {w} {w'} b v b') g h d =
      let s : Seg text (a + length w) (bare_bytes v) = seg_left text (a + length w) (bare_bytes v) w' (seg_right text a w (bare_bytes v ++ w') g) in
      let t = trace text a true 0 (out k) (out k) w (seg_left text a w (bare_bytes v ++ w') g) h (plains_run true 0 k w (ws_plains b)) in
      record {
        place = a + length w;
        value = v;
        is_tree = refl;
        is_part = value_mid text place a (bare_bytes v) b b' g (value_ends text (a + length w) v s);
        good = record { seg = s; at = t.after; shallow = d };
      }
