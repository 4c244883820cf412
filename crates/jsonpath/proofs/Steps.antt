-- One step of the walk into a value that is derived: a part with what is taken from its node, or one of 23 to 26 where nothing is, or 30. By cases of
-- the value and the step.
use mathlib.Core.Path.{◌≡◌, refl, ap, ◌∙◌}
use mathlib.Core.Bool.{true, false}
use mathlib.Core.Logic.{◌≢◌}
use mathlib.Core.List.{List, [], ◌∷◌, ◌++◌, append-nil}
use Prim.Native.Nat.{ℕ, suc, ◌+◌, ◌-◌, ◌≤◌, ◌<◌}
use native.Mathlib.Omega.{arith}
use native.Mathlib.Numerals.{add-one}
use borrow.Author.Tests.{ne_eqb, eq-eqb, lt-ltb, le-ltb}
use lib.Dec.{ltb}
use lib.ListN.{length, get_or, length-append}
use Rattle.rules.specs.Layout.{bit_of}
use Rattle.paths.specs.Grammar.{In, Selector, name, number}
use Rattle.paths.specs.Places.{byte_in}
use Rattle.names.specs.Spelling.{matched}
use Rattle.query.specs.Items.{solid, trim_start, item_at, first_item, item_no}
use Rattle.walks.specs.Ruled.{ruled}
use Rattle.query.specs.Walk.{of_item, framed, filled, name_step, number_step, step_by}
use Rattle.query.specs.Answers.{refusal_number}
use Rattle.query.specs.Item.{Item}
use Rattle.query.specs.Answer.{Answer, Found, Refused}
use Rattle.query.specs.declared.types.Refusal.{Refusal}
use Rattle.query.specs.declared.types.Refusal.TheVariants.{Missed, Broken}
use Rattle.query.specs.declared.types.Cause.TheVariants.{BadEscape}
use Rattle.query.specs.declared.types.Miss.TheVariants.{NotObject, NotArray, NoName, NoNumber}
use Rattle.paths.proofs.PlaceLaws.{first_at_is}
use Rattle.texts.specs.Grammar.{Ws, Number, string_bytes}
use Rattle.texts.specs.Nodes.{Json, scalar, deep}
use Rattle.jsonpath.specs.Select.{nth}
use Rattle.texts.proofs.Tests.{and_false}
use Rattle.texts.proofs.Padded.{number_starts, Bare, Pad, Elems, Entry, Entries, bare_bytes, pad_bytes, elems_bytes, entry_bytes, entries_bytes, bare_tree}
use Rattle.jsonpath.proofs.Machine.{up, sort_of, out}
use Rattle.jsonpath.proofs.Trace.{At, Stepped, at_step, Seg}
use Rattle.jsonpath.proofs.Stretches.{seg_left, seg_right}
use Rattle.jsonpath.proofs.Parts.{Ends, ws_blank, all_blank}
use Rattle.jsonpath.proofs.Values.{snoc_length, bracket_ends, value_ends, Good, Taken, none, one, unpaired}
use Rattle.jsonpath.proofs.Elements.{commas_of, number_taken}
use Rattle.jsonpath.proofs.Members.{names_taken}
use Rattle.jsonpath.proofs.Names.{Picked, nodes, bad, first_ones}

-- what is taken from a node, and what the step answers
pub data StepTaken (text : List ℕ) (k : ℕ) (ts : Picked) (x : Answer) : Type 0 where
  miss : (why : Refusal) → In 23 26 (refusal_number why) → ts ≡ nodes [] → x ≡ Refused why → StepTaken text k ts x
  stop : (place : ℕ) → ts ≡ bad → x ≡ Refused (Broken BadEscape k place) → StepTaken text k ts x
  hit : (a : ℕ) (v : Bare) → ts ≡ nodes (bare_tree a v ∷ []) → x ≡ Found a (a + length (bare_bytes v)) → Good text k a v → StepTaken text k ts x

module _ (text : List ℕ) (k : ℕ) where
  of_item_step : (ts : Picked) (x : Item) (why : Refusal) → In 23 26 (refusal_number why) → Taken text (suc k) ts x → StepTaken text (suc k) ts (of_item why (suc k) x)
  of_item_step ts x why h (none e f) = miss why h e (rw f)
  of_item_step ts x why h (unpaired p e f) = stop p e (rw f)
  of_item_step ts x why h (one t e i) = hit i.place i.value (e ∙ ap (λ (t : Json). nodes (t ∷ [])) i.is_tree) (rw i.is_part) i.good

  -- ---- between the brackets

  module _ (c c' a : ℕ) (xs : List ℕ) (g : Seg text a (c ∷ (xs ++ (c' ∷ [])))) where
    abbrev end : ℕ
    end = a + length (c ∷ (xs ++ (c' ∷ [])))

    inner_start : a + 1 ≡ suc a
    inner_start = add-one a

    inner_end : end - 1 ≡ suc a + length xs
    inner_end = omega (arith, snoc_length xs c')

    is_framed : framed (byte_in text) c c' a end ≡ true
    unfolding framed byte_in
    is_framed =
        rw (
          inner_end,
          eq-eqb (get_or text a 0) c g.0,
          eq-eqb (get_or text (suc a + length xs) 0) c' (seg_right text (suc a) xs (c' ∷ []) g.1).0,
          lt-ltb (a + 1) end (omega (arith, snoc_length xs c')),
        ) refl

    is_filled : (b : ℕ) → trim_start (byte_in text) (suc a) (suc a + length xs) ≡ b → b < suc a + length xs → filled (byte_in text) a end ≡ true
    unfolding filled
    is_filled b e l = rw (inner_end, inner_start, e, lt-ltb b (suc a + length xs) l)

    is_empty : Ws xs → filled (byte_in text) a end ≡ false
    unfolding filled
    is_empty b = rw (inner_end, inner_start, all_blank text (suc a) b (seg_left text (suc a) xs (c' ∷ []) g.1), le-ltb (suc a + length xs) (suc a + length xs) (omega arith))

  not_framed : (c c' a e : ℕ) → get_or text a 0 ≢ c → framed (byte_in text) c c' a e ≡ false
  unfolding framed byte_in
  not_framed c c' a e h = rw (ne_eqb (get_or text a 0) c h) (and_false (ltb (a + 1) e))

  no_object : (n : List ℕ) (a e : ℕ) → get_or text a 0 ≢ 0x7B → name_step (byte_in text) (ruled text) (suc k) n a e ≡ Refused (Missed NotObject (suc k) a)
  unfolding name_step
  no_object n a e h = rw (not_framed 0x7B 0x7D a e h)

  no_array : (i a e : ℕ) → get_or text a 0 ≢ 0x5B → number_step (byte_in text) (ruled text) (suc k) i a e ≡ Refused (Missed NotArray (suc k) a)
  unfolding number_step
  no_array i a e h = rw (not_framed 0x5B 0x5D a e h)

  scalar_step : (s : Selector) (a e : ℕ) (bs : List ℕ) → get_or text a 0 ≢ 0x7B → get_or text a 0 ≢ 0x5B
      → StepTaken text (suc k) (first_ones s (scalar a bs)) (step_by (byte_in text) (ruled text) (suc k) s a e)
  scalar_step (name n) a e bs h l = miss (Missed NotObject (suc k) a) (omega arith) refl (no_object n a e h)
  scalar_step (number i) a e bs h l = miss (Missed NotArray (suc k) a) (omega arith) refl (no_array i a e l)

  -- ---- what lies between is no blank where it begins with a value or a name

  record Filled (a e : ℕ) : Type 0 where
    place : ℕ
    is_start : trim_start (byte_in text) a e ≡ place
    below : place < e

  dark : {w : List ℕ} (a e n : ℕ) → Ws w → Seg text a w → Ends text (a + length w) n → a + length w + n ≤ e → Filled a e
  dark {w} a e n b g h l = record {
    place = a + length w;
    is_start = first_at_is (solid (byte_in text)) a (a + length w) e (omega arith) (omega (arith, h.size)) (ws_blank text a b g) h.first_solid;
    below = omega (arith, h.size);
  }

  pad_dark : (a : ℕ) (p : Pad) (ys : List ℕ) → Seg text a (pad_bytes p ++ ys) → Filled a (a + length (pad_bytes p ++ ys))
  pad_dark a (Pad.pad {w} {w'} b v b') ys g =
      let h = seg_left text a (w ++ (bare_bytes v ++ w')) ys g in
      dark a _ (length (bare_bytes v)) b (seg_left text a w (bare_bytes v ++ w') h)
      (value_ends text (a + length w) v (seg_left text (a + length w) (bare_bytes v) w' (seg_right text a w (bare_bytes v ++ w') h)))
      (omega (arith, length-append (w ++ (bare_bytes v ++ w')) ys, length-append w (bare_bytes v ++ w'), length-append (bare_bytes v) w'))

  entry_dark : (a : ℕ) (m : Entry) (ys : List ℕ) → Seg text a (entry_bytes m ++ ys) → Filled a (a + length (entry_bytes m ++ ys))
  entry_dark a (Entry.entry {w} {raw} {us} {w'} b s b' p) ys g =
      let xs : List ℕ = w ++ (string_bytes raw ++ w') in
      let h = seg_left text a xs (0x3A ∷ pad_bytes p) (seg_left text a (xs ++ (0x3A ∷ pad_bytes p)) ys g) in
      dark a _ (length (string_bytes raw)) b (seg_left text a w (string_bytes raw ++ w') h)
      (bracket_ends text (a + length w) 0x22 0x22 raw (omega arith) (omega arith) (seg_left text (a + length w) (string_bytes raw) w' (seg_right text a w (string_bytes raw ++ w') h)))
      (omega (arith, length-append (xs ++ (0x3A ∷ pad_bytes p)) ys, length-append xs (0x3A ∷ pad_bytes p), length-append w (string_bytes raw ++ w'), length-append (string_bytes raw) w'))

  elems_dark : (a : ℕ) (es : Elems) → Seg text a (elems_bytes es) → Filled a (a + length (elems_bytes es))
  elems_dark a (Elems.last p) g = rw append-nil at (pad_dark a p [] (rw append-nil g))
  elems_dark a (Elems.more p es) g = pad_dark a p (0x2C ∷ elems_bytes es) g

  entries_dark : (a : ℕ) (ms : Entries) → Seg text a (entries_bytes ms) → Filled a (a + length (entries_bytes ms))
  entries_dark a (Entries.last_entry m) g = rw append-nil at (entry_dark a m [] (rw append-nil g))
  entries_dark a (Entries.more_entries m ms) g = entry_dark a m (0x2C ∷ entries_bytes ms) g

  -- ---- arrays and objects

  opened : (a c : ℕ) → At text a (out k) → k < 64 → get_or text a 0 ≡ c → sort_of c ≡ up → At text (suc a) (out (suc k))
  opened a c h l g e =
      let s : Stepped text a true 0 (out (suc k)) = rw (g, e) at (at_step text a true 0 (out k) h (rw (g, e) (lt-ltb k 64 l))) in
      s.next

  array_step : (i a : ℕ) (xs : List ℕ) → Seg text a (0x5B ∷ (xs ++ (0x5D ∷ []))) → filled (byte_in text) a (a + length (0x5B ∷ (xs ++ (0x5D ∷ [])))) ≡ true
      → number_step (byte_in text) (ruled text) (suc k) i a (a + length (0x5B ∷ (xs ++ (0x5D ∷ []))))
      ≡ of_item (Missed NoNumber (suc k) a) (suc k) (item_no (byte_in text) (commas_of text k) i (suc a) (suc a + length xs))
  unfolding number_step bit_of
  array_step i a xs g f = rw (is_framed 0x5B 0x5D a xs g, f, inner_end 0x5B 0x5D a xs g, add-one a)

  array_none : (i a : ℕ) (xs : List ℕ) → Seg text a (0x5B ∷ (xs ++ (0x5D ∷ []))) → Ws xs
      → number_step (byte_in text) (ruled text) (suc k) i a (a + length (0x5B ∷ (xs ++ (0x5D ∷ [])))) ≡ Refused (Missed NoNumber (suc k) a)
  unfolding number_step
  array_none i a xs g b = rw (is_framed 0x5B 0x5D a xs g, is_empty 0x5B 0x5D a xs g b)

  object_step : (n : List ℕ) (a : ℕ) (xs : List ℕ) → Seg text a (0x7B ∷ (xs ++ (0x7D ∷ []))) → filled (byte_in text) a (a + length (0x7B ∷ (xs ++ (0x7D ∷ [])))) ≡ true
      → name_step (byte_in text) (ruled text) (suc k) n a (a + length (0x7B ∷ (xs ++ (0x7D ∷ []))))
      ≡ of_item (Missed NoName (suc k) a) (suc k) (first_item (item_at (byte_in text) (ruled text) (suc k) (matched n)) (commas_of text k) (suc a) (suc a + length xs))
  unfolding name_step bit_of
  object_step n a xs g f = rw (is_framed 0x7B 0x7D a xs g, f, inner_end 0x7B 0x7D a xs g, add-one a)

  object_none : (n : List ℕ) (a : ℕ) (xs : List ℕ) → Seg text a (0x7B ∷ (xs ++ (0x7D ∷ []))) → Ws xs
      → name_step (byte_in text) (ruled text) (suc k) n a (a + length (0x7B ∷ (xs ++ (0x7D ∷ [])))) ≡ Refused (Missed NoName (suc k) a)
  unfolding name_step
  object_none n a xs g b = rw (is_framed 0x7B 0x7D a xs g, is_empty 0x7B 0x7D a xs g b)

  array_value : (s : Selector) (a : ℕ) (es : Elems) → Good text k a (Bare.array es)
      → StepTaken text (suc k) (first_ones s (bare_tree a (Bare.array es))) (step_by (byte_in text) (ruled text) (suc k) s a (a + length (bare_bytes (Bare.array es))))
  unfolding deep
  array_value (name n) a es g = miss (Missed NotObject (suc k) a) (omega arith) refl (no_object n a _ (λ e. omega (arith, e, g.seg.0)))
  array_value (number i) a es g =
      let sg : Seg text (suc a) (elems_bytes es) = seg_left text (suc a) (elems_bytes es) (0x5D ∷ []) g.seg.1 in
      let at : At text (suc a) (out (suc k)) = opened a 0x5B g.at (omega (arith, g.shallow)) g.seg.0 refl in
      let dk = elems_dark (suc a) es sg in
      rw (array_step i a (elems_bytes es) g.seg (is_filled 0x5B 0x5D a (elems_bytes es) g.seg dk.place dk.is_start dk.below))
      (of_item_step _ _ (Missed NoNumber (suc k) a) (omega arith) (number_taken text k i (suc a) es _ refl sg at (omega (arith, g.shallow))))

  object_value : (s : Selector) (a : ℕ) (ms : Entries) → Good text k a (Bare.object ms)
      → StepTaken text (suc k) (first_ones s (bare_tree a (Bare.object ms))) (step_by (byte_in text) (ruled text) (suc k) s a (a + length (bare_bytes (Bare.object ms))))
  unfolding first_item deep
  object_value (name n) a ms g =
      let sg : Seg text (suc a) (entries_bytes ms) = seg_left text (suc a) (entries_bytes ms) (0x7D ∷ []) g.seg.1 in
      let at : At text (suc a) (out (suc k)) = opened a 0x7B g.at (omega (arith, g.shallow)) g.seg.0 refl in
      let dk = entries_dark (suc a) ms sg in
      rw (object_step n a (entries_bytes ms) g.seg (is_filled 0x7B 0x7D a (entries_bytes ms) g.seg dk.place dk.is_start dk.below))
      (of_item_step _ _ (Missed NoName (suc k) a) (omega arith)
      (names_taken text k n (suc a) ms (suc (suc a + length (entries_bytes ms) - suc a)) (suc a + length (entries_bytes ms)) refl (omega arith) sg at (omega (arith, g.shallow))))
  object_value (number i) a ms g = miss (Missed NotArray (suc k) a) (omega arith) refl (no_array i a _ (λ e. omega (arith, e, g.seg.0)))

  empty_array_value : {w : List ℕ} (s : Selector) (a : ℕ) (e : Ws w) → Good text k a (Bare.empty_array e)
      → StepTaken text (suc k) (first_ones s (bare_tree a (Bare.empty_array e))) (step_by (byte_in text) (ruled text) (suc k) s a (a + length (bare_bytes (Bare.empty_array e))))
  unfolding nth
  empty_array_value (name n) a e g = miss (Missed NotObject (suc k) a) (omega arith) refl (no_object n a _ (λ z. omega (arith, z, g.seg.0)))
  empty_array_value {w} (number i) a e g = miss (Missed NoNumber (suc k) a) (omega arith) refl (array_none i a w g.seg e)

  empty_object_value : {w : List ℕ} (s : Selector) (a : ℕ) (e : Ws w) → Good text k a (Bare.empty_object e)
      → StepTaken text (suc k) (first_ones s (bare_tree a (Bare.empty_object e))) (step_by (byte_in text) (ruled text) (suc k) s a (a + length (bare_bytes (Bare.empty_object e))))
  empty_object_value {w} (name n) a e g = miss (Missed NoName (suc k) a) (omega arith) refl (object_none n a w g.seg e)
  empty_object_value (number i) a e g = miss (Missed NotArray (suc k) a) (omega arith) refl (no_array i a _ (λ z. omega (arith, z, g.seg.0)))

  number_value : (s : Selector) (a : ℕ) (bs : List ℕ) → Number bs → Seg text a bs
      → StepTaken text (suc k) (first_ones s (scalar a bs)) (step_by (byte_in text) (ruled text) (suc k) s a (a + length bs))
  number_value s a bs n g =
      let f = number_starts n in
      let sg : Seg text a (f.first ∷ f.rest) = rw f.whole at g in
      scalar_step s a _ bs (λ e. omega (arith, e, sg.0, f.high)) (λ e. omega (arith, e, sg.0, f.high))

  -- the step, at any value
  pub step_right : (s : Selector) (a : ℕ) (v : Bare) → Good text k a v
      → StepTaken text (suc k) (first_ones s (bare_tree a v)) (step_by (byte_in text) (ruled text) (suc k) s a (a + length (bare_bytes v)))
  step_right s a Bare.false g = scalar_step s a _ _ (λ e. omega (arith, e, g.seg.0)) (λ e. omega (arith, e, g.seg.0))
  step_right s a Bare.null g = scalar_step s a _ _ (λ e. omega (arith, e, g.seg.0)) (λ e. omega (arith, e, g.seg.0))
  step_right s a Bare.true g = scalar_step s a _ _ (λ e. omega (arith, e, g.seg.0)) (λ e. omega (arith, e, g.seg.0))
  step_right s a (Bare.num {bs} n) g = number_value s a bs n g.seg
  step_right s a (Bare.string x) g = scalar_step s a _ _ (λ e. omega (arith, e, g.seg.0)) (λ e. omega (arith, e, g.seg.0))
  step_right s a (Bare.empty_array e) g = empty_array_value s a e g
  step_right s a (Bare.array es) g = array_value s a es g
  step_right s a (Bare.empty_object e) g = empty_object_value s a e g
  step_right s a (Bare.object ms) g = object_value s a ms g
