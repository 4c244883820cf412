-- Derivations with the blanks around values and names and not around structural characters: so a value's bytes have none at their ends.
-- Every derivation of RFC 8259 has such a form, with the same bytes and the same nodes; by regrouping the blanks.
use mathlib.Core.Path.{◌≡◌, refl, ap, ap₂, ◌∙◌}
use mathlib.Core.List.{List, [], ◌∷◌, ◌++◌, append_assoc, append-nil}
use Prim.Native.Nat.{ℕ, suc, ◌+◌, ◌≤◌}
use native.Mathlib.Nat.{add-zero}
use native.Mathlib.Omega.{arith}
use lib.ListN.{length, length-append}
use Rattle.texts.specs.Grammar.{Opt, Int, Minus, Ws, Structural, Number, Chars, string_bytes, Value, Object, Members, Member, Array, Values, JsonText, ahead, behind, structural, value_bytes, object_bytes, members_bytes, member_bytes, array_bytes, values_bytes, text_bytes}
use Rattle.texts.specs.Nodes.{characters, Json, Items, no_items, item, Fields, no_fields, field, tree, object_tree, fields, with_member, array_tree, items, value_of}

mutual
  -- a value without blanks at its ends
  pub data Bare : Type 0 where
    false null true : Bare
    num : {bs : List ℕ} → Number bs → Bare
    string : {raw us : List ℕ} → Chars raw us → Bare
    empty_array : {w : List ℕ} → Ws w → Bare
    array : Elems → Bare
    empty_object : {w : List ℕ} → Ws w → Bare
    object : Entries → Bare

  -- and with them
  pub data Pad : Type 0 where
    pad : {w w' : List ℕ} → Ws w → Bare → Ws w' → Pad

  pub data Elems : Type 0 where
    last : Pad → Elems
    more : Pad → Elems → Elems

  pub data Entry : Type 0 where
    entry : {w raw us w' : List ℕ} → Ws w → Chars raw us → Ws w' → Pad → Entry

  pub data Entries : Type 0 where
    last_entry : Entry → Entries
    more_entries : Entry → Entries → Entries

abbrev mutual
  pub bare_bytes : Bare → List ℕ
  bare_bytes Bare.false = 0x66 ∷ 0x61 ∷ 0x6C ∷ 0x73 ∷ 0x65 ∷ []
  bare_bytes Bare.null = 0x6E ∷ 0x75 ∷ 0x6C ∷ 0x6C ∷ []
  bare_bytes Bare.true = 0x74 ∷ 0x72 ∷ 0x75 ∷ 0x65 ∷ []
  bare_bytes (Bare.num {bs} n) = bs
  bare_bytes (Bare.string {raw} s) = string_bytes raw
  bare_bytes (Bare.empty_array {w} b) = 0x5B ∷ (w ++ (0x5D ∷ []))
  bare_bytes (Bare.array es) = 0x5B ∷ (elems_bytes es ++ (0x5D ∷ []))
  bare_bytes (Bare.empty_object {w} b) = 0x7B ∷ (w ++ (0x7D ∷ []))
  bare_bytes (Bare.object ms) = 0x7B ∷ (entries_bytes ms ++ (0x7D ∷ []))

  pub pad_bytes : Pad → List ℕ
  pad_bytes (Pad.pad {w} {w'} b v b') = w ++ (bare_bytes v ++ w')

  pub elems_bytes : Elems → List ℕ
  elems_bytes (Elems.last p) = pad_bytes p
  elems_bytes (Elems.more p es) = pad_bytes p ++ (0x2C ∷ elems_bytes es)

  pub entry_bytes : Entry → List ℕ
  entry_bytes (Entry.entry {w} {raw} {us} {w'} b s b' p) = (w ++ (string_bytes raw ++ w')) ++ (0x3A ∷ pad_bytes p)

  pub entries_bytes : Entries → List ℕ
  entries_bytes (Entries.last_entry m) = entry_bytes m
  entries_bytes (Entries.more_entries m ms) = entry_bytes m ++ (0x2C ∷ entries_bytes ms)

-- the nodes, the bytes beginning at place a
abbrev mutual
  pub bare_tree : ℕ → Bare → Json
  bare_tree a Bare.false = Json.scalar a (bare_bytes Bare.false)
  bare_tree a Bare.null = Json.scalar a (bare_bytes Bare.null)
  bare_tree a Bare.true = Json.scalar a (bare_bytes Bare.true)
  bare_tree a (Bare.num {bs} n) = Json.scalar a bs
  bare_tree a (Bare.string {raw} s) = Json.scalar a (string_bytes raw)
  bare_tree a (Bare.empty_array {w} b) = Json.array a (0x5B ∷ (w ++ (0x5D ∷ []))) no_items
  bare_tree a (Bare.array es) = Json.array a (0x5B ∷ (elems_bytes es ++ (0x5D ∷ []))) (pad_items (suc a) es)
  bare_tree a (Bare.empty_object {w} b) = Json.object a (0x7B ∷ (w ++ (0x7D ∷ []))) no_fields
  bare_tree a (Bare.object ms) = Json.object a (0x7B ∷ (entries_bytes ms ++ (0x7D ∷ []))) (pad_fields (suc a) ms)

  pub padded : ℕ → Pad → Json
  padded a (Pad.pad {w} b v b') = bare_tree (a + length w) v

  pub pad_items : ℕ → Elems → Items
  pad_items a (Elems.last p) = item (padded a p) no_items
  pad_items a (Elems.more p es) = item (padded a p) (pad_items (suc (a + length (pad_bytes p))) es)

  pub with_entry : ℕ → Entry → Fields → Fields
  with_entry a (Entry.entry {w} {raw} {us} {w'} b s b' p) fs = field raw (characters us) (padded (suc (a + length (w ++ (string_bytes raw ++ w')))) p) fs

  pub pad_fields : ℕ → Entries → Fields
  pad_fields a (Entries.last_entry m) = with_entry a m no_fields
  pad_fields a (Entries.more_entries m ms) = with_entry a m (pad_fields (suc (a + length (entry_bytes m))) ms)

-- ---- the form of a derivation

ws_append : {w w' : List ℕ} → Ws w → Ws w' → Ws (w ++ w')
ws_append Ws.none b = b
ws_append (Ws.blank x b) b' = Ws.blank x (ws_append b b')

ahead_ws : {c : ℕ} (s : Structural c) → Ws (ahead s)
ahead_ws (Structural.around b b') = b

behind_ws : {c : ℕ} (s : Structural c) → Ws (behind s)
behind_ws (Structural.around b b') = b'

abbrev tight : Bare → Pad
tight v = Pad.pad Ws.none v Ws.none

abbrev extend : Pad → {w w' : List ℕ} → Ws w → Ws w' → Pad
extend (Pad.pad c v c') b b' = Pad.pad (ws_append b c) v (ws_append c' b')

abbrev mutual
  normal : Value → Pad
  normal Value.false = tight Bare.false
  normal Value.null = tight Bare.null
  normal Value.true = tight Bare.true
  normal (Value.object o) = normal_object o
  normal (Value.array x) = normal_array x
  normal (Value.number n) = tight (Bare.num n)
  normal (Value.string s) = tight (Bare.string s)

  normal_object : Object → Pad
  normal_object (Object.no_members b e) = Pad.pad (ahead_ws b) (Bare.empty_object (ws_append (behind_ws b) (ahead_ws e))) (behind_ws e)
  normal_object (Object.members b ms e) = Pad.pad (ahead_ws b) (Bare.object (normal_members ms (behind_ws b) (ahead_ws e))) (behind_ws e)

  normal_members : Members → {w w' : List ℕ} → Ws w → Ws w' → Entries
  normal_members (Members.one_member m) b b' = Entries.last_entry (normal_member m b b')
  normal_members (Members.more_members m s ms) b b' = Entries.more_entries (normal_member m b (ahead_ws s)) (normal_members ms (behind_ws s) b')

  normal_member : Member → {w w' : List ℕ} → Ws w → Ws w' → Entry
  normal_member (Member.member c s v) b b' = Entry.entry b c (ahead_ws s) (extend (normal v) (behind_ws s) b')

  normal_array : Array → Pad
  normal_array (Array.no_values b e) = Pad.pad (ahead_ws b) (Bare.empty_array (ws_append (behind_ws b) (ahead_ws e))) (behind_ws e)
  normal_array (Array.values b vs e) = Pad.pad (ahead_ws b) (Bare.array (normal_values vs (behind_ws b) (ahead_ws e))) (behind_ws e)

  normal_values : Values → {w w' : List ℕ} → Ws w → Ws w' → Elems
  normal_values (Values.one_value v) b b' = Elems.last (extend (normal v) b b')
  normal_values (Values.more_values v s vs) b b' = Elems.more (extend (normal v) b (ahead_ws s)) (normal_values vs (behind_ws s) b')

-- ---- it derives the same bytes

extend_bytes : {w w' : List ℕ} (p : Pad) (b : Ws w) (b' : Ws w') → pad_bytes (extend p b b') ≡ w ++ (pad_bytes p ++ w')
extend_bytes (Pad.pad c v c') b b' = simp append_assoc

mutual
  unfolding value_bytes

  same_bytes : (v : Value) → pad_bytes (normal v) ≡ value_bytes v
  same_bytes Value.false = refl
  same_bytes Value.null = refl
  same_bytes Value.true = refl
  same_bytes (Value.object o) = same_object o
  same_bytes (Value.array x) = same_array x
  same_bytes (Value.number {bs} n) = append-nil bs
  same_bytes (Value.string {raw} s) = append-nil (string_bytes raw)

  same_object : (o : Object) → pad_bytes (normal_object o) ≡ object_bytes o
  same_object (Object.no_members b e) = simp append_assoc
  same_object (Object.members b ms e) = rw (same_members ms (behind_ws b) (ahead_ws e)) (simp append_assoc)

  same_members : (ms : Members) {w w' : List ℕ} (b : Ws w) (b' : Ws w') → entries_bytes (normal_members ms b b') ≡ w ++ (members_bytes ms ++ w')
  same_members (Members.one_member m) b b' = same_member m b b'
  same_members (Members.more_members m s ms) b b' = rw (same_member m b (ahead_ws s), same_members ms (behind_ws s) b') (simp append_assoc)

  same_member : (m : Member) {w w' : List ℕ} (b : Ws w) (b' : Ws w') → entry_bytes (normal_member m b b') ≡ w ++ (member_bytes m ++ w')
  same_member (Member.member c s v) b b' = rw (extend_bytes (normal v) (behind_ws s) b', same_bytes v) (simp append_assoc)

  same_array : (x : Array) → pad_bytes (normal_array x) ≡ array_bytes x
  same_array (Array.no_values b e) = simp append_assoc
  same_array (Array.values b vs e) = rw (same_values vs (behind_ws b) (ahead_ws e)) (simp append_assoc)

  same_values : (vs : Values) {w w' : List ℕ} (b : Ws w) (b' : Ws w') → elems_bytes (normal_values vs b b') ≡ w ++ (values_bytes vs ++ w')
  same_values (Values.one_value v) b b' = rw (extend_bytes (normal v) b b', same_bytes v) refl
  same_values (Values.more_values v s vs) b b' =
      rw (extend_bytes (normal v) b (ahead_ws s), same_bytes v, same_values vs (behind_ws s) b') (simp append_assoc)

-- ---- it has the same nodes at the same places

extend_tree : {w w' : List ℕ} (a : ℕ) (p : Pad) (b : Ws w) (b' : Ws w') → padded a (extend p b b') ≡ padded (a + length w) p
extend_tree {w} a (Pad.pad {w = x} c v c') b b' = ap (λ (i : ℕ). bare_tree i v) (omega (arith, length-append w x))

module _ {c : ℕ} (s : Structural c) where
  structural_length : length (structural s) ≡ suc (length (ahead s) + length (behind s))
  structural_length = omega (arith, length-append (ahead s) (c ∷ behind s))

mutual
  unfolding value_bytes tree

  same_tree : (a : ℕ) (v : Value) → padded a (normal v) ≡ tree a v
  same_tree a Value.false = ap (λ (i : ℕ). Json.scalar i (value_bytes Value.false)) (add-zero a)
  same_tree a Value.null = ap (λ (i : ℕ). Json.scalar i (value_bytes Value.null)) (add-zero a)
  same_tree a Value.true = ap (λ (i : ℕ). Json.scalar i (value_bytes Value.true)) (add-zero a)
  same_tree a (Value.object o) = same_object_tree a o
  same_tree a (Value.array x) = same_array_tree a x
  same_tree a (Value.number {bs} n) = ap (λ (i : ℕ). Json.scalar i bs) (add-zero a)
  same_tree a (Value.string {raw} s) = ap (λ (i : ℕ). Json.scalar i (string_bytes raw)) (add-zero a)

  same_object_tree : (a : ℕ) (o : Object) → padded a (normal_object o) ≡ object_tree a o
  same_object_tree a (Object.no_members b e) = simp append_assoc
  same_object_tree a (Object.members b ms e) =
      rw (same_members ms (behind_ws b) (ahead_ws e), same_fields (suc (a + length (ahead b))) ms (behind_ws b) (ahead_ws e))
      (ap₂ (λ (bs : List ℕ) (i : ℕ). Json.object (a + length (ahead b)) (0x7B ∷ bs) (fields i ms)) (simp append_assoc) (omega (arith, structural_length b)))

  same_fields : (a : ℕ) (ms : Members) {w w' : List ℕ} (b : Ws w) (b' : Ws w') → pad_fields a (normal_members ms b b') ≡ fields (a + length w) ms
  same_fields a (Members.one_member m) b b' = same_field a m b b' no_fields
  same_fields a (Members.more_members m s ms) {w} b b' =
      same_field a m b (ahead_ws s) _
      ∙ ap (with_member (a + length w) m)
      (same_fields _ ms (behind_ws s) b'
      ∙ ap (λ (i : ℕ). fields i ms)
      (rw (same_member m b (ahead_ws s))
      (omega (arith, structural_length s, length-append w (member_bytes m ++ ahead s), length-append (member_bytes m) (ahead s)))))

  same_field : (a : ℕ) (m : Member) {w w' : List ℕ} (b : Ws w) (b' : Ws w') (fs : Fields) → with_entry a (normal_member m b b') fs ≡ with_member (a + length w) m fs
  same_field a (Member.member {raw} {us} c s v) {w} b b' fs =
      ap (λ (t : Json). field raw (characters us) t fs)
      (extend_tree _ (normal v) (behind_ws s) b' ∙ same_tree _ v
      ∙ ap (λ (i : ℕ). tree i v) (omega (arith, structural_length s, length-append w (string_bytes raw ++ ahead s), length-append (string_bytes raw) (ahead s))))

  same_array_tree : (a : ℕ) (x : Array) → padded a (normal_array x) ≡ array_tree a x
  same_array_tree a (Array.no_values b e) = simp append_assoc
  same_array_tree a (Array.values b vs e) =
      rw (same_values vs (behind_ws b) (ahead_ws e), same_items (suc (a + length (ahead b))) vs (behind_ws b) (ahead_ws e))
      (ap₂ (λ (bs : List ℕ) (i : ℕ). Json.array (a + length (ahead b)) (0x5B ∷ bs) (items i vs)) (simp append_assoc) (omega (arith, structural_length b)))

  same_items : (a : ℕ) (vs : Values) {w w' : List ℕ} (b : Ws w) (b' : Ws w') → pad_items a (normal_values vs b b') ≡ items (a + length w) vs
  same_items a (Values.one_value v) {w} b b' = ap (λ (t : Json). item t no_items) (extend_tree a (normal v) b b' ∙ same_tree (a + length w) v)
  same_items a (Values.more_values v s vs) {w} b b' =
      ap₂ item (extend_tree a (normal v) b (ahead_ws s) ∙ same_tree (a + length w) v)
      (same_items _ vs (behind_ws s) b'
      ∙ ap (λ (i : ℕ). items i vs)
      (rw (extend_bytes (normal v) b (ahead_ws s), same_bytes v)
      (omega (arith, structural_length s, length-append w (value_bytes v ++ ahead s), length-append (value_bytes v) (ahead s)))))

-- ---- a whole text

pub padded_text : JsonText → Pad
padded_text (JsonText.text b v b') = extend (normal v) b b'

pub text_same_bytes : (t : JsonText) → pad_bytes (padded_text t) ≡ text_bytes t
unfolding padded_text text_bytes value_bytes
text_same_bytes (JsonText.text b v b') = rw (extend_bytes (normal v) b b', same_bytes v) refl

pub text_same_tree : (t : JsonText) → padded 0 (padded_text t) ≡ value_of t
unfolding padded_text value_of tree
text_same_tree (JsonText.text {w} b v b') = extend_tree 0 (normal v) b b' ∙ same_tree _ v ∙ ap (λ (i : ℕ). tree i v) (omega arith)

-- ---- a number begins with a minus or a digit

pub record Starts (bs : List ℕ) : Type 0 where
  pub first : ℕ
  pub rest : List ℕ
  pub whole : bs ≡ first ∷ rest
  pub low : 0x2D ≤ first
  pub high : first ≤ 0x39

int_starts : {i : List ℕ} (xs : List ℕ) → Int i → Starts (i ++ xs)
int_starts xs Int.zero = record { first = 0x30; rest = xs; whole = refl; low = omega arith; high = omega arith }
int_starts xs (Int.digits {b} {bs} h d) = record { first = b; rest = bs ++ xs; whole = refl; low = omega arith; high = omega arith }

pub number_starts : {bs : List ℕ} → Number bs → Starts bs
number_starts (Number.number {f} {e} Opt.none i c d) = int_starts (f ++ e) i
number_starts (Number.number {i} {f} {e} (Opt.some Minus.minus) j c d) =
    record { first = 0x2D; rest = i ++ (f ++ e); whole = refl; low = omega arith; high = omega arith }
