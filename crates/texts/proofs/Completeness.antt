-- Every text of the grammar, with no more brackets in one another than allowed, the machine reads to its end. By the derivation, each part
-- of it from its end backwards: if what follows is accepted behind the part, then the part and what follows are accepted before it.
use mathlib.Core.Path.{◌≡◌, refl}
use mathlib.Core.List.{List, [], ◌∷◌, ◌++◌, append_assoc}
use Prim.Native.Nat.{ℕ, suc, ◌+◌, ◌≤◌}
use native.Mathlib.Nat.{le-max_right}
use native.Mathlib.Omega.{arith}
use borrow.Author.Tests.{ne_eqb}
use lib.ListN.{length}
use Rattle.texts.specs.Grammar.{Ws, Structural, string_bytes, Value, Object, Members, Member, Array, Values, JsonText, structural, value_bytes, object_bytes, members_bytes, member_bytes, array_bytes, values_bytes, text_bytes}
use Rattle.texts.specs.Nodes.{tree, object_tree, fields, array_tree, items, with_member, Fields, no_fields, value_of, deep, deep_items, deep_fields}
use Rattle.texts.specs.Prefixes.{Shallow}
use Rattle.texts.specs.Machine.{is_ws, is_digit, is_e, within, fits, Bracket, in_array, in_object, a_name, a_value, Mode, want, done, key, colon, entered, chars, closer_of, item_mode, item_stack, begin, after, item_first, move, yes, read_on, judge}
use Rattle.texts.proofs.MachineLaws.{dark_no_ws, Leads, Accepted, Blanks, moves, enters, step, blanks, want_blanks, done_blanks, key_blanks, colon_blanks, entered_blanks, fitting}
use Rattle.texts.proofs.CompleteTokens.{Delimiter, Follows, blank_delimiter, Wants, numbers, strings}

-- ---- structural characters, with their blanks

structural_follows : {c : ℕ} (s : Structural c) (bs : List ℕ) → Delimiter c → Follows (structural s ++ bs)
structural_follows (Structural.around Ws.none b') bs d = d
structural_follows (Structural.around (Ws.blank x b) b') bs d = blank_delimiter x

ws_follows : {w : List ℕ} → Ws w → Follows w
ws_follows Ws.none = tt
ws_follows (Ws.blank x b) = blank_delimiter x

comma_delimits : Delimiter 0x2C
unfolding is_digit within is_e
comma_delimits = record { no_digit = refl; no_point = refl; no_e = refl }

end_array_delimits : Delimiter 0x5D
unfolding is_digit within is_e
end_array_delimits = record { no_digit = refl; no_point = refl; no_e = refl }

end_object_delimits : Delimiter 0x7D
unfolding is_digit within is_e
end_object_delimits = record { no_digit = refl; no_point = refl; no_e = refl }

-- the members behind one
fields_deep : (a : ℕ) (m : Member) (fs : Fields) → deep_fields fs ≤ deep_fields (with_member a m fs)
unfolding tree deep
fields_deep a (Member.member c s v) fs = le-max_right _ _

module _ {limit : ℕ} where
  passed : {c : ℕ} (s : Structural c) {m m' : Mode} {st st' : List Bracket} {bs : List ℕ} → Blanks limit m st → Leads limit m st c m' st'
      → Blanks limit m' st' → Accepted limit m' st' bs → Accepted limit m st (structural s ++ bs)
  passed {c} (Structural.around {w} {w'} b b') x l y a = rw (append_assoc w (c ∷ w') _) (blanks x b (step l (blanks y b' a)))

  -- the closer behind the opener, the closer behind an item, the comma behind an item
  emptied : (f : Bracket) (e : Structural (closer_of f)) (st : List Bracket) {bs : List ℕ} → Accepted limit done st bs
      → Accepted limit (entered f) st (structural e ++ bs)
  unfolding move is_ws
  emptied in_array e st a = passed e (entered_blanks in_array st) (moves refl) (done_blanks st) a
  emptied in_object e st a = passed e (entered_blanks in_object st) (moves refl) (done_blanks st) a

  closed : (f : Bracket) (e : Structural (closer_of f)) (st : List Bracket) {bs : List ℕ} → Accepted limit done st bs
      → Accepted limit done (f ∷ st) (structural e ++ bs)
  unfolding move after is_ws
  closed in_array e st a = passed e (done_blanks (in_array ∷ st)) (moves refl) (done_blanks st) a
  closed in_object e st a = passed e (done_blanks (in_object ∷ st)) (moves refl) (done_blanks st) a

  separated : (f : Bracket) (s : Structural 0x2C) (st : List Bracket) {bs : List ℕ} → Accepted limit (item_mode f) (item_stack f st) bs
      → Accepted limit done (f ∷ st) (structural s ++ bs)
  unfolding move after is_ws
  separated in_array s st a = passed s (done_blanks (in_array ∷ st)) (moves refl) (want_blanks (in_array ∷ st)) a
  separated in_object s st a = passed s (done_blanks (in_object ∷ st)) (moves refl) (key_blanks st) a

  -- ---- where a value may begin, and where a name

  want_wants : (st : List Bracket) → Wants limit want st st
  unfolding move
  want_wants st = record { blank = want_blanks st; begins = λ b h n. rw (dark_no_ws b h) refl }

  entered_wants : (st : List Bracket) → Wants limit (entered in_array) st (in_array ∷ st)
  unfolding move item_first
  entered_wants st = record { blank = entered_blanks in_array st; begins = λ b h n. rw (dark_no_ws b h, ne_eqb b 0x5D n) refl }

  key_names : (st : List Bracket) → Leads limit key st 0x22 (chars a_name) st
  unfolding move item_first is_ws
  key_names st = moves refl

  entered_names : (st : List Bracket) → Leads limit (entered in_object) st 0x22 (chars a_name) st
  unfolding move item_first is_ws
  entered_names st = moves refl

  colon_named : (s : Structural 0x3A) (st : List Bracket) {bs : List ℕ} → Accepted limit want (in_object ∷ st) bs → Accepted limit colon st (structural s ++ bs)
  unfolding move is_ws
  colon_named s st a = passed s (colon_blanks st) (moves refl) (want_blanks (in_object ∷ st)) a

  -- ---- values, the first byte at place a

  mutual
    unfolding value_bytes tree deep begin fits

    value : (a : ℕ) (v : Value) {m : Mode} {st₀ st : List Bracket} {bs : List ℕ} → Wants limit m st₀ st → deep (tree a v) + length st ≤ limit
        → Follows bs → Accepted limit done st bs → Accepted limit m st₀ (value_bytes v ++ bs)
    value a Value.false w h f x = step (moves (w.begins 0x66 (omega arith) (omega arith))) (fitting refl (fitting refl (fitting refl (fitting refl x))))
    value a Value.null w h f x = step (moves (w.begins 0x6E (omega arith) (omega arith))) (fitting refl (fitting refl (fitting refl x)))
    value a Value.true w h f x = step (moves (w.begins 0x74 (omega arith) (omega arith))) (fitting refl (fitting refl (fitting refl x)))
    value a (Value.object o) w h f x = object a o w h x
    value a (Value.array y) w h f x = array a y w h x
    value a (Value.number n) {st} w h f x = numbers st f x w n
    value a (Value.string {raw} s) w h f x =
        rw (append_assoc raw (0x22 ∷ []) _) (step (moves (w.begins 0x22 (omega arith) (omega arith))) (strings a_value s x))

    array : (a : ℕ) (y : Array) {m : Mode} {st₀ st : List Bracket} {bs : List ℕ} → Wants limit m st₀ st → deep (array_tree a y) + length st ≤ limit
        → Accepted limit done st bs → Accepted limit m st₀ (array_bytes y ++ bs)
    array a (Array.no_values b e) {st} w h x =
        rw (append_assoc (structural b) (structural e) _)
        (passed b w.blank (enters (w.begins 0x5B (omega arith) (omega arith)) (omega arith)) (entered_blanks in_array st) (emptied in_array e st x))
    array a (Array.values b vs e) {st} {bs} w h x =
        rw (append_assoc (structural b) (values_bytes vs ++ structural e) bs, append_assoc (values_bytes vs) (structural e) bs)
        (passed b w.blank (enters (w.begins 0x5B (omega arith) (omega arith)) (omega arith)) (entered_blanks in_array st)
        (values _ vs (entered_wants st) h (structural_follows e bs end_array_delimits) (closed in_array e st x)))

    values : (a : ℕ) (vs : Values) {m : Mode} {st₀ st : List Bracket} {bs : List ℕ} → Wants limit m st₀ (in_array ∷ st)
        → suc (deep_items (items a vs)) + length st ≤ limit → Follows bs → Accepted limit done (in_array ∷ st) bs
        → Accepted limit m st₀ (values_bytes vs ++ bs)
    values a (Values.one_value v) w h f x = value a v w (omega arith) f x
    values a (Values.more_values v s vs) {st} {bs} w h f x =
        rw (append_assoc (value_bytes v) (structural s ++ values_bytes vs) bs, append_assoc (structural s) (values_bytes vs) bs)
        (value a v w (omega arith) (structural_follows s (values_bytes vs ++ bs) comma_delimits)
        (separated in_array s st (values (a + length (value_bytes v) + length (structural s)) vs (want_wants (in_array ∷ st)) (omega arith) f x)))

    object : (a : ℕ) (o : Object) {m : Mode} {st₀ st : List Bracket} {bs : List ℕ} → Wants limit m st₀ st → deep (object_tree a o) + length st ≤ limit
        → Accepted limit done st bs → Accepted limit m st₀ (object_bytes o ++ bs)
    object a (Object.no_members b e) {st} w h x =
        rw (append_assoc (structural b) (structural e) _)
        (passed b w.blank (enters (w.begins 0x7B (omega arith) (omega arith)) (omega arith)) (entered_blanks in_object st) (emptied in_object e st x))
    object a (Object.members b ms e) {st} {bs} w h x =
        rw (append_assoc (structural b) (members_bytes ms ++ structural e) bs, append_assoc (members_bytes ms) (structural e) bs)
        (passed b w.blank (enters (w.begins 0x7B (omega arith) (omega arith)) (omega arith)) (entered_blanks in_object st)
        (members _ ms (entered_names st) h (structural_follows e bs end_object_delimits) (closed in_object e st x)))

    members : (a : ℕ) (ms : Members) {m : Mode} {st : List Bracket} {bs : List ℕ} → Leads limit m st 0x22 (chars a_name) st
        → suc (deep_fields (fields a ms)) + length st ≤ limit → Follows bs → Accepted limit done (in_object ∷ st) bs
        → Accepted limit m st (members_bytes ms ++ bs)
    members a (Members.one_member y) q h f x = member a y no_fields q h f x
    members a (Members.more_members y s ms) {st} {bs} q h f x =
        rw (append_assoc (member_bytes y) (structural s ++ members_bytes ms) bs, append_assoc (structural s) (members_bytes ms) bs)
        (let i : ℕ = a + length (member_bytes y) + length (structural s) in
        member a y _ q h (structural_follows s (members_bytes ms ++ bs) comma_delimits)
        (separated in_object s st (members i ms (key_names st) (omega (arith, fields_deep a y (fields i ms))) f x)))

    member : (a : ℕ) (y : Member) (fs : Fields) {m : Mode} {st : List Bracket} {bs : List ℕ} → Leads limit m st 0x22 (chars a_name) st
        → suc (deep_fields (with_member a y fs)) + length st ≤ limit → Follows bs → Accepted limit done (in_object ∷ st) bs
        → Accepted limit m st (member_bytes y ++ bs)
    member a (Member.member {raw} c s v) fs {st} {bs} q h f x =
        let z : List ℕ = structural s ++ value_bytes v in
        rw (append_assoc raw (0x22 ∷ []) z, append_assoc raw (0x22 ∷ z) bs, append_assoc (structural s) (value_bytes v) bs)
        (step q (strings a_name c (colon_named s st (value (a + length (string_bytes raw) + length (structural s)) v (want_wants (in_object ∷ st)) (omega arith) f x))))

-- ---- texts

only_blanks : {limit : ℕ} {w : List ℕ} → Ws w → Accepted limit done [] w
unfolding read_on
only_blanks Ws.none = record { reads = λ i. refl }
only_blanks (Ws.blank b w) = step ((done_blanks []).passes b) (only_blanks w)

whole : (limit : ℕ) (t : JsonText) → deep (value_of t) ≤ limit → Accepted limit want [] (text_bytes t)
unfolding value_of text_bytes
whole limit (JsonText.text {w} b v b') h = blanks (want_blanks []) b (value (length w) v (want_wants []) (omega arith) (ws_follows b') (only_blanks b'))

pub shallow_yes : (limit : ℕ) (text : List ℕ) → Shallow limit text → judge limit text ≡ yes
unfolding judge
shallow_yes limit text s = rw (← s.json.derives) ((whole limit s.json.derivation s.within).reads 0)
