-- Items behind an opener, put together to the array or the object that they stand in.
use mathlib.Core.Path.{◌≡◌, refl, ◌∙◌}
use mathlib.Core.List.{List, ◌∷◌, ◌++◌, append_assoc}
use Prim.Native.Nat.{ℕ, suc, ◌+◌, ◌≤◌, ◌<◌, max}
use native.Mathlib.Omega.{arith}
use lib.ListN.{length}
use Rattle.texts.specs.Grammar.{Ws, Structural, Value, Object, Members, Member, Array, Values, structural, value_bytes, members_bytes, values_bytes}
use Rattle.texts.specs.Machine.{Bracket, in_array, in_object, opener_of, closer_of}
use Rattle.texts.proofs.DepthLaws.{depth, members_depth, values_depth}
use Rattle.texts.proofs.Languages.{Sequence, and_then, Behind, Item, item_bytes, item_depth, After, Valued, InString, Itemed, Entered}

-- ---- items one behind the other, in an array or in an object

abbrev Items : Bracket → Type 0
Items in_array = Values
Items in_object = Members

abbrev items_bytes : (f : Bracket) → Items f → List ℕ
items_bytes in_array vs = values_bytes vs
items_bytes in_object ms = members_bytes ms

abbrev items_depth : (f : Bracket) → Items f → ℕ
items_depth in_array vs = values_depth vs
items_depth in_object ms = members_depth ms

-- one item; and an item ahead of others
record One (f : Bracket) (i : Item f) : Type 0 where
  items : Items f
  bytes : items_bytes f items ≡ item_bytes f i
  deep : items_depth f items ≡ item_depth f i

one_item : (f : Bracket) (i : Item f) → One f i
unfolding value_bytes depth
one_item in_array v = record { items = Values.one_value v; bytes = refl; deep = refl }
one_item in_object m = record { items = Members.one_member m; bytes = refl; deep = refl }

record More (f : Bracket) (i : Item f) (s : Structural 0x2C) (is : Items f) : Type 0 where
  items : Items f
  bytes : items_bytes f items ≡ item_bytes f i ++ (structural s ++ items_bytes f is)
  deep : items_depth f items ≡ max (item_depth f i) (items_depth f is)

more_items : (f : Bracket) (i : Item f) (s : Structural 0x2C) (is : Items f) → More f i s is
unfolding value_bytes depth
more_items in_array v s vs = record { items = Values.more_values v s vs; bytes = refl; deep = refl }
more_items in_object m s ms = record { items = Members.more_members m s ms; bytes = refl; deep = refl }

-- the items from one on, the blanks and the closer behind them, and what stands behind that
record Gathered (limit : ℕ) (f : Bracket) (st : List Bracket) (bs : List ℕ) : Type 0 where
  items : Items f
  room : items_depth f items + suc (length st) ≤ limit
  blanks : List ℕ
  are : Ws blanks
  rest : List ℕ
  bytes : bs ≡ items_bytes f items ++ (blanks ++ (closer_of f ∷ rest))
  next : After limit st rest

gather : {limit : ℕ} {f : Bracket} {st : List Bracket} {bs : List ℕ} (i : Item f) → item_depth f i + suc (length st) ≤ limit → After limit (f ∷ st) bs
    → Gathered limit f st (item_bytes f i ++ bs)
gather {f} i h (After.close {w} {bs} b a) =
    let o = one_item f i in
    record { items = o.items; room = rw o.deep h; blanks = w; are = b; rest = bs; bytes = rw o.bytes refl; next = a }
gather {f} i h (After.item b b' i' h' a) =
    let g = gather i' h' a in
    let m = more_items f i (Structural.around b b') g.items in
    record {
      items = m.items;
      room = rw m.deep (omega (arith, g.room));
      blanks = g.blanks;
      are = g.are;
      rest = g.rest;
      bytes = rw (m.bytes, g.bytes) (simp append_assoc);
      next = g.next;
    }

-- ---- a whole bracket

record Closed (f : Bracket) (inner : List ℕ) (d : ℕ) : Type 0 where
  value : Value
  bytes : (rest : List ℕ) → value_bytes value ++ rest ≡ opener_of f ∷ (inner ++ (closer_of f ∷ rest))
  deep : depth value ≡ suc d

empty_bracket : (f : Bracket) {w : List ℕ} → Ws w → Closed f w 0
unfolding value_bytes depth
empty_bracket in_array b =
    record { value = Value.array (Array.no_values (Structural.around Ws.none b) (Structural.around Ws.none Ws.none)); bytes = λ rest. simp append_assoc; deep = refl }
empty_bracket in_object b =
    record { value = Value.object (Object.no_members (Structural.around Ws.none b) (Structural.around Ws.none Ws.none)); bytes = λ rest. simp append_assoc; deep = refl }

full_bracket : (f : Bracket) {w w' : List ℕ} → Ws w → (is : Items f) → Ws w' → Closed f (w ++ (items_bytes f is ++ w')) (items_depth f is)
unfolding value_bytes depth
full_bracket in_array b vs b' =
    record { value = Value.array (Array.values (Structural.around Ws.none b) vs (Structural.around b' Ws.none)); bytes = λ rest. simp append_assoc; deep = refl }
full_bracket in_object b ms b' =
    record { value = Value.object (Object.members (Structural.around Ws.none b) ms (Structural.around b' Ws.none)); bytes = λ rest. simp append_assoc; deep = refl }

-- an item, apart from what stands behind it
pub data Parted (limit : ℕ) (f : Bracket) (st : List Bracket) : List ℕ → Type 0 where
  part : {bs : List ℕ} (i : Item f) → item_depth f i + suc (length st) ≤ limit → After limit (f ∷ st) bs → Parted limit f st (item_bytes f i ++ bs)

pub parted : (f : Bracket) {limit : ℕ} {st : List Bracket} {bs : List ℕ} → Itemed limit f st bs → Parted limit f st bs
unfolding value_bytes depth
parted in_array (Valued.value v h a) = Parted.part v h a
parted in_object {limit} {st} (Behind.byte (InString.string {raw} s (and_then {cs = w} b (Behind.byte (and_then {cs = w'} b' (Valued.value {bs} v h a)))))) =
    let m : Member = Member.member s (Structural.around b b') v in
    let p : Parted limit in_object st (item_bytes in_object m ++ bs) = Parted.part m h a in
    let q : item_bytes in_object m ++ bs ≡ 0x22 ∷ (raw ++ (0x22 ∷ (w ++ (0x3A ∷ (w' ++ (value_bytes v ++ bs)))))) = simp append_assoc in
    rw q at p

-- a value and what stands behind it, however their bytes are written
pub valued : {limit : ℕ} {st : List Bracket} (v : Value) {bs xs : List ℕ} → value_bytes v ++ bs ≡ xs → depth v + length st ≤ limit → After limit st bs → Valued limit st xs
valued v e h a = rw (← e) (Valued.value v h a)

-- an opener, and what the machine wants behind it
pub bracket_back : (f : Bracket) {limit : ℕ} {st : List Bracket} {bs : List ℕ} → length st < limit → Sequence Ws (Entered limit f st) bs
    → Valued limit st (opener_of f ∷ bs)
bracket_back f l (and_then {cs = w} b (Entered.empty {bs} a)) = let v = empty_bracket f b in valued v.value (v.bytes bs) (omega (arith, v.deep)) a
bracket_back f {limit} {st} l (and_then {cs = w} b (Entered.items i)) = go (parted f i)
  where
    go : {bs : List ℕ} → Parted limit f st bs → Valued limit st (opener_of f ∷ (w ++ bs))
    go (Parted.part i h a) =
        let g = gather {f = f} i h a in
        let v = full_bracket f b g.items g.are in
        valued v.value (v.bytes g.rest ∙ rw g.bytes (simp append_assoc)) (omega (arith, v.deep, g.room)) g.next
