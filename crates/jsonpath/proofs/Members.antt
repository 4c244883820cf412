-- The entries of an object: the items are the first whose name is the one asked for, and none is broken but for an unpaired surrogate. By the entries,
-- cut at the commas between them and at the colon of each.
use Rattle.std.proofs.Common.{Ok, Err}
use mathlib.Core.Path.{◌≡◌, refl, ap, ◌∙◌}
use mathlib.Core.Bool.{true, false}
use mathlib.Core.List.{List, [], ◌∷◌, ◌++◌}
use Prim.Native.Nat.{ℕ, zero, suc, ◌+◌, ◌-◌, ◌≤◌, ◌<◌}
use native.Mathlib.Nat.{add-suc, suc-add, add_assoc, not-suc-le-zero, le_refl}
use native.Mathlib.Numerals.{add-one}
use native.Mathlib.Omega.{arith}
use borrow.Author.Tests.{eq-eqb, lt-ltb, le-ltb}
use lib.ListN.{length, length-append}
use Rattle.rules.specs.Bytes.{is, colon, comma}
use Rattle.rules.specs.Bits.{quote_bit, level_bit}
use Rattle.paths.specs.Places.{byte_in, between, first_at}
use Rattle.rules.specs.Layout.{bit_of}
use Rattle.names.specs.Spelling.{matched, on_match, Match}
use Rattle.query.specs.Items.{value_at, quoted, keyed, item_at, or_else, first_item_in}
use Rattle.walks.specs.Ruled.{ruled}
use Rattle.query.specs.Item.{Item, Other, Broken}
use Rattle.query.specs.declared.types.Cause.TheVariants.{BadEscape}
use Rattle.paths.proofs.PlaceLaws.{first_at_is, first_all}
use Rattle.texts.specs.Grammar.{Ws, Chars, string_bytes}
use Rattle.texts.specs.Nodes.{Json, Fields, no_fields, deep, deep_fields}
use Rattle.texts.proofs.Padded.{Pad, Entry, Entries, pad_bytes, entry_bytes, entries_bytes, padded, with_entry, pad_fields}
use Rattle.jsonpath.proofs.Machine.{out, str}
use Rattle.jsonpath.proofs.Derive.{name_run, chars_run, plains_run, ws_plains}
use Rattle.jsonpath.proofs.Trace.{At, colons, commas, Stepped, at_step, quote_here, level_here, Seg, Never, never_more, never_append, trace}
use Rattle.jsonpath.proofs.Stretches.{seg_left, seg_right}
use Rattle.jsonpath.proofs.Parts.{Trimmed, trim, listed_seg}
use Rattle.jsonpath.proofs.Names.{Picked, nodes, bad, first_named}
use Rattle.jsonpath.proofs.Values.{snoc_length, bracket_ends, Hit, Taken, none, one, unpaired, pad_hit}
use Rattle.jsonpath.proofs.Elements.{separator_next, separator_set, comma_set, pad_trace, commas_of}

module _ (text : List ℕ) (k : ℕ) where
  -- of an entry in its place: xs is the name with its blanks, ys what follows the colon
  record Parted (a : ℕ) (xs ys : List ℕ) : Type 0 where
    commas_none : Never (commas_of text k) a (length (xs ++ (0x3A ∷ ys)))
    value_at_is : At text (suc (a + length xs)) (out (suc k))
    after : At text (a + length (xs ++ (0x3A ∷ ys))) (out (suc k))
    colon_at : first_at (level_bit colon text (suc k)) a (a + length (xs ++ (0x3A ∷ ys))) ≡ a + length xs

  entry_parted : {w raw us w' : List ℕ} (a : ℕ) (p : Pad) → Ws w → Chars raw us → Ws w' → Seg text a ((w ++ (string_bytes raw ++ w')) ++ (0x3A ∷ pad_bytes p)) → At text a (out (suc k))
      → deep (padded (suc (a + length (w ++ (string_bytes raw ++ w')))) p) + suc k ≤ 64 → Parted a (w ++ (string_bytes raw ++ w')) (pad_bytes p)
  unfolding is
  entry_parted {w} {raw} {us} {w'} a p b s b' g h d =
      let xs : List ℕ = w ++ (string_bytes raw ++ w') in
      let ys : List ℕ = pad_bytes p in
      let c : ℕ = a + length xs in
      let t = trace text a true (suc k) (out (suc k)) (out (suc k)) xs (seg_left text a xs (0x3A ∷ ys) g) h (name_run (suc k) (suc k) b s b') in
      let e = seg_right text a xs (0x3A ∷ ys) g in
      let v = separator_next text k c 0x3A t.after e.0 refl in
      let u = pad_trace text k (suc c) p e.1 v d in
      let l : length (xs ++ (0x3A ∷ ys)) ≡ length xs + suc (length ys) = length-append xs (0x3A ∷ ys) in
      record {
        commas_none = rw l (never_append (commas_of text k) a (length xs) (suc (length ys)) (t.levels comma commas (suc k) (le_refl (suc k)))
            (never_more (commas_of text k) c (length ys) (level_here text c 0x3A false false e.0 comma k t.after.within) (u.levels comma commas (suc k) (le_refl (suc k)))));
        value_at_is = v;
        after = rw (l, ← add_assoc a (length xs) (suc (length ys)), add-suc, ← suc-add c (length ys)) u.after;
        colon_at =
            first_at_is (level_bit colon text (suc k)) a c _ (omega arith) (omega (arith, l)) (t.levels colon colons (suc k) (le_refl (suc k)))
            (separator_set text k c 0x3A colon t.after e.0 refl);
      }

  -- its name, the blanks left out: a quote bit, no quote bit, a quote bit; and its bytes
  record Named (a d : ℕ) (raw : List ℕ) : Type 0 where
    start : ℕ
    end : ℕ
    trims : Trimmed text a d start end
    framed : quoted (quote_bit text) start end ≡ true
    spells : between (byte_in text) (start + 1) (end - 1) ≡ raw

  entry_named : {w raw us w' : List ℕ} (a : ℕ) → Ws w → Chars raw us → Ws w' → Seg text a (w ++ (string_bytes raw ++ w')) → At text a (out (suc k))
      → Named a (a + length (w ++ (string_bytes raw ++ w'))) raw
  unfolding quoted is
  entry_named {w} {raw} {us} {w'} a b s b' g h =
      let i : ℕ = a + length w in
      let n : ℕ = length raw in
      let e : ℕ = i + length (string_bytes raw) in
      let q : Seg text i (string_bytes raw) = seg_left text i (string_bytes raw) w' (seg_right text a w (string_bytes raw ++ w') g) in
      let l : length (string_bytes raw) ≡ suc (suc n) = ap suc (snoc_length raw 0x22) in
      let t = trace text a true 0 (out (suc k)) (out (suc k)) w (seg_left text a w (string_bytes raw ++ w') g) h (plains_run true 0 (suc k) w (ws_plains b)) in
      let o : Stepped text i true 0 (str (suc k)) = rw q.0 at (at_step text i true 0 (out (suc k)) t.after (rw q.0)) in
      let u = trace text (suc i) false 0 (str (suc k)) (str (suc k)) raw (seg_left text (suc i) raw (0x22 ∷ []) q.1) o.next (chars_run false 0 (suc k) s) in
      let z = seg_right text (suc i) raw (0x22 ∷ []) q.1 in
      let opened : quote_bit text i ≡ true = quote_here text i 0x22 false false q.0 t.after.escaping in
      let shut : quote_bit text (suc i + n) ≡ true = quote_here text (suc i + n) 0x22 false true z.0 u.after.escaping in
      let f : first_at (quote_bit text) (i + 1) e ≡ suc i + n =
      ap (λ (x : ℕ). first_at (quote_bit text) x e) (add-one i) ∙ first_at_is (quote_bit text) (suc i) (suc i + n) e (omega arith) (omega (arith, l)) (u.quotes refl) shut in
      record {
        start = i;
        end = e;
        trims = trim text a (string_bytes raw) b b' g (bracket_ends text i 0x22 0x22 raw (omega arith) (omega arith) q);
        framed = rw (f, opened, lt-ltb (i + 1) e (omega (arith, l)), eq-eqb (suc i + n + 1) e (omega (arith, l))) refl;
        spells =
            let c : e - 1 - (i + 1) ≡ n = omega (arith, l) in
            rw (c, add-one i) (listed_seg text (suc i) raw (seg_left text (suc i) raw (0x22 ∷ []) q.1));
      }

  keyed_item : (test : List ℕ → Match) (a d e : ℕ) (raw : List ℕ) → Named a d raw
      → keyed (byte_in text) (quote_bit text) test a d e ≡ on_match (test raw) (value_at (byte_in text) a (suc d) e) Other (Broken BadEscape a)
  unfolding keyed
  keyed_item test a d e raw m = rw (m.trims.end, m.trims.start, m.framed, m.spells, add-one d)

  entry_item : {w raw us w' : List ℕ} (test : List ℕ → Match) (a : ℕ) (p : Pad) (b : Ws w) (s : Chars raw us) (b' : Ws w')
      → Seg text a (entry_bytes (Entry.entry b s b' p)) → At text a (out (suc k)) → deep (padded (suc (a + length (w ++ (string_bytes raw ++ w')))) p) + suc k ≤ 64
      → item_at (byte_in text) (ruled text) (suc k) test a (a + length (entry_bytes (Entry.entry b s b' p)))
      ≡ on_match (test raw) (value_at (byte_in text) a (suc (a + length (w ++ (string_bytes raw ++ w')))) (a + length (entry_bytes (Entry.entry b s b' p)))) Other (Broken BadEscape a)
  unfolding item_at bit_of
  entry_item {w} {raw} {us} {w'} test a p b s b' g h d =
      let xs : List ℕ = w ++ (string_bytes raw ++ w') in
      let e : ℕ = a + length (xs ++ (0x3A ∷ pad_bytes p)) in
      let t = entry_parted a p b s b' g h d in
      let m = entry_named a b s b' (seg_left text a xs (0x3A ∷ pad_bytes p) g) h in
      rw (t.colon_at, lt-ltb (a + length xs) e (omega (arith, length-append xs (0x3A ∷ pad_bytes p)))) (keyed_item test a (a + length xs) e raw m)

  -- the entry that is asked for, or what the later ones come to
  chosen : (m : Match) (a : ℕ) (t : Json) (ts : Picked) (x later : Item) → Hit text (suc k) t x → Taken text (suc k) ts later
      → Taken text (suc k) (on_match m (nodes (t ∷ [])) ts bad) (or_else (on_match m x Other (Broken BadEscape a)) later)
  chosen (Ok true) a t ts x later h o =
      one t refl (record { place = h.place; value = h.value; is_tree = h.is_tree; is_part = rw h.is_part refl; good = h.good })
  chosen (Ok false) a t ts x later h o = o
  chosen (Err e) a t ts x later h o = unpaired a refl refl

  module _ (n : List ℕ) where
    abbrev entry_of : ℕ → ℕ → Item
    entry_of = item_at (byte_in text) (ruled text) (suc k) (matched n)

    items_last : (c a e b : ℕ) → first_at (commas_of text k) a e ≡ b → e ≤ b → first_item_in entry_of (commas_of text k) (suc c) a e ≡ or_else (entry_of a b) Other
    unfolding first_item_in
    items_last c a e b h l = rw (h, le-ltb b e l)

    items_more : (c a e b : ℕ) → first_at (commas_of text k) a e ≡ b → b < e → first_item_in entry_of (commas_of text k) (suc c) a e ≡ or_else (entry_of a b) (first_item_in entry_of (commas_of text k) c (suc b) e)
    unfolding first_item_in
    items_more c a e b h l = rw (h, lt-ltb b e l, add-one b)

    entry_chosen : {w raw us w' : List ℕ} (a : ℕ) (p : Pad) (b : Ws w) (s : Chars raw us) (b' : Ws w') (fs : Fields) (later : Item)
        → Seg text a (entry_bytes (Entry.entry b s b' p)) → At text a (out (suc k)) → deep (padded (suc (a + length (w ++ (string_bytes raw ++ w')))) p) + suc k ≤ 64
        → Taken text (suc k) (first_named n fs) later
        → Taken text (suc k) (first_named n (with_entry a (Entry.entry b s b' p) fs)) (or_else (entry_of a (a + length (entry_bytes (Entry.entry b s b' p)))) later)
    entry_chosen {w} {raw} {us} {w'} a p b s b' fs later g h d o =
        let xs : List ℕ = w ++ (string_bytes raw ++ w') in
        let t = entry_parted a p b s b' g h d in
        let l : a + length (xs ++ (0x3A ∷ pad_bytes p)) ≡ suc (a + length xs) + length (pad_bytes p) = omega (arith, length-append xs (0x3A ∷ pad_bytes p)) in
        let v = pad_hit text (suc k) a (suc (a + length xs)) p (seg_right text a xs (0x3A ∷ pad_bytes p) g).1 t.value_at_is d in
        rw (entry_item (matched n) a p b s b' g h d) (chosen (matched n raw) a _ (first_named n fs) _ later (rw l v) o)

    pub names_taken : (a : ℕ) (ms : Entries) (c e : ℕ) → e ≡ a + length (entries_bytes ms) → length (entries_bytes ms) < c → Seg text a (entries_bytes ms) → At text a (out (suc k))
        → deep_fields (pad_fields a ms) + suc k ≤ 64 → Taken text (suc k) (first_named n (pad_fields a ms)) (first_item_in entry_of (commas_of text k) c a e)
    unfolding deep
    names_taken a (Entries.last_entry m) zero e q f g h d = absurd (not-suc-le-zero f)
    names_taken a (Entries.more_entries m ms) zero e q f g h d = absurd (not-suc-le-zero f)
    names_taken a (Entries.last_entry (Entry.entry {w} {raw} {us} {w'} b s b' p)) (suc c) e q f g h d =
        let t = entry_parted a p b s b' g h (omega arith) in
        let n' : ℕ = length ((w ++ (string_bytes raw ++ w')) ++ (0x3A ∷ pad_bytes p)) in
        rw (items_last c a e (a + n') (rw q (first_all (commas_of text k) a (a + n') (omega arith) t.commas_none)) (omega arith))
        (entry_chosen a p b s b' no_fields Other g h (omega arith) (none refl refl))
    names_taken a (Entries.more_entries (Entry.entry {w} {raw} {us} {w'} b s b' p) ms) (suc c) e q f g h d =
        let zs : List ℕ = (w ++ (string_bytes raw ++ w')) ++ (0x3A ∷ pad_bytes p) in
        let ys : List ℕ = entries_bytes ms in
        let l = length-append zs (0x2C ∷ ys) in
        let g' = seg_left text a zs (0x2C ∷ ys) g in
        let t = entry_parted a p b s b' g' h (omega arith) in
        let r = seg_right text a zs (0x2C ∷ ys) g in
        let i : ℕ = a + length zs in
        let cut : first_at (commas_of text k) a e ≡ i =
        first_at_is (commas_of text k) a i e (omega arith) (omega (arith, q, l)) t.commas_none (comma_set text k i t.after r.0) in
        rw (items_more c a e i cut (omega (arith, q, l)))
        (entry_chosen a p b s b' (pad_fields (suc i) ms) _ g' h (omega arith)
        (names_taken (suc i) ms c e (omega (arith, q, l)) (omega (arith, f, l)) r.1 (separator_next text k i 0x2C t.after r.0 refl) (omega arith)))
