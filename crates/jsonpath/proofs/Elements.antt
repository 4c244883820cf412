-- The elements of an array: the item with a number is the element with that number. By the elements, cut at the commas between them.
use mathlib.Core.Path.{◌≡◌, refl, ◌∙◌}
use mathlib.Core.Bool.{Bool, true, false}
use mathlib.Core.List.{List, ◌∷◌, ◌++◌}
use Prim.Native.Nat.{ℕ, zero, suc, ◌+◌, ◌≤◌, ◌<◌}
use native.Mathlib.Nat.{le_refl}
use native.Mathlib.Numerals.{add-one}
use native.Mathlib.Omega.{arith}
use borrow.Author.Tests.{eq-eqb, lt-ltb, le-ltb}
use lib.ListN.{length, get_or, length-append}
use Rattle.rules.specs.Word.{count}
use Rattle.rules.specs.Bytes.{Class, is, comma}
use Rattle.rules.specs.Bits.{opener, closer, at_depth, level_bit}
use Rattle.paths.specs.Places.{byte_in, first_at}
use Rattle.query.specs.Items.{value_at, item_no}
use Rattle.query.specs.Item.{Other}
use Rattle.paths.proofs.PlaceLaws.{first_at_is, first_all}
use Rattle.texts.specs.Nodes.{deep, deep_items}
use Rattle.jsonpath.specs.Select.{nth}
use Rattle.texts.proofs.Padded.{Pad, Elems, pad_bytes, elems_bytes, padded, pad_items}
use Rattle.jsonpath.proofs.Machine.{sep, sort_of, out}
use Rattle.jsonpath.proofs.Derive.{pad_run}
use Rattle.jsonpath.proofs.Trace.{At, commas, Stepped, at_step, level_here, Seg, Traced, trace}
use Rattle.jsonpath.proofs.Stretches.{seg_left, seg_right}
use Rattle.jsonpath.proofs.Names.{nodes}
use Rattle.jsonpath.proofs.Values.{Taken, none, one, pad_hit}

-- ---- inside a bracket: the machine goes on at a separator, whose bit of that level is set

module _ (text : List ℕ) (k : ℕ) where
  pub separator_next : (i c : ℕ) → At text i (out (suc k)) → get_or text i 0 ≡ c → sort_of c ≡ sep → At text (suc i) (out (suc k))
  separator_next i c h g e =
      let s : Stepped text i true 0 (out (suc k)) = rw (g, e) at (at_step text i true 0 (out (suc k)) h (rw (g, e) (lt-ltb 0 (suc k) (omega arith)))) in
      s.next

  pub separator_set : (i x : ℕ) (c : Class) → At text i (out (suc k)) → get_or text i 0 ≡ x → is c x ≡ true → level_bit c text (suc k) i ≡ true
  unfolding at_depth
  separator_set i x c h g e =
      level_here text i x false false g c k h.within
      ∙ rw (e, eq-eqb (count (opener text) i) (count (closer text) i + suc k) h.depth) refl

  pub comma_set : (i : ℕ) → At text i (out (suc k)) → get_or text i 0 ≡ 0x2C → level_bit comma text (suc k) i ≡ true
  unfolding is
  comma_set i h g = separator_set i 0x2C comma h g refl

  pub pad_trace : (a : ℕ) (p : Pad) → Seg text a (pad_bytes p) → At text a (out (suc k)) → deep (padded a p) + suc k ≤ 64
      → Traced text a (length (pad_bytes p)) true (suc k) (out (suc k))
  pad_trace a p g h d = trace text a true (suc k) (out (suc k)) (out (suc k)) (pad_bytes p) g h (pad_run a (suc k) (suc k) p d (le_refl (suc k)))

  -- ---- the elements of an array

  abbrev pub commas_of : ℕ → Bool
  commas_of = level_bit comma text (suc k)

  no_first : (a e b : ℕ) → first_at commas_of a e ≡ b → item_no (byte_in text) commas_of 0 a e ≡ value_at (byte_in text) a a b
  unfolding item_no
  no_first a e b h = rw h

  no_later : (i a e b : ℕ) → first_at commas_of a e ≡ b → b < e → item_no (byte_in text) commas_of (suc i) a e ≡ item_no (byte_in text) commas_of i (suc b) e
  unfolding item_no
  no_later i a e b h l = rw (h, lt-ltb b e l, add-one b)

  no_more : (i a e b : ℕ) → first_at commas_of a e ≡ b → e ≤ b → item_no (byte_in text) commas_of (suc i) a e ≡ Other
  unfolding item_no
  no_more i a e b h l = rw (h, le-ltb b e l)

  -- an element, a comma and what follows: the comma is the first
  record More (a : ℕ) (p : Pad) (e : ℕ) : Type 0 where
    cut : first_at commas_of a e ≡ a + length (pad_bytes p)
    within : a + length (pad_bytes p) < e
    onward : At text (suc (a + length (pad_bytes p))) (out (suc k))

  pad_more : (a : ℕ) (p : Pad) (ys : List ℕ) (e : ℕ) → e ≡ a + length (pad_bytes p ++ (0x2C ∷ ys)) → Seg text a (pad_bytes p ++ (0x2C ∷ ys)) → At text a (out (suc k))
      → deep (padded a p) + suc k ≤ 64 → More a p e
  pad_more a p ys e q g h d =
      let n : ℕ = length (pad_bytes p) in
      let t = pad_trace a p (seg_left text a (pad_bytes p) (0x2C ∷ ys) g) h d in
      let s = seg_right text a (pad_bytes p) (0x2C ∷ ys) g in
      let l : a + n < e = omega (arith, q, length-append (pad_bytes p) (0x2C ∷ ys)) in
      record {
        cut = first_at_is commas_of a (a + n) e (omega arith) l (t.levels comma commas (suc k) (le_refl (suc k))) (comma_set (a + n) t.after s.0);
        within = l;
        onward = separator_next (a + n) 0x2C t.after s.0 refl;
      }

  pad_last : (a : ℕ) (p : Pad) (e : ℕ) → e ≡ a + length (pad_bytes p) → Seg text a (pad_bytes p) → At text a (out (suc k)) → deep (padded a p) + suc k ≤ 64
      → first_at commas_of a e ≡ a + length (pad_bytes p)
  pad_last a p e q g h d =
      rw q (first_all commas_of a (a + length (pad_bytes p)) (omega arith) ((pad_trace a p g h d).levels comma commas (suc k) (le_refl (suc k))))

  pub number_taken : (i a : ℕ) (es : Elems) (e : ℕ) → e ≡ a + length (elems_bytes es) → Seg text a (elems_bytes es) → At text a (out (suc k))
      → deep_items (pad_items a es) + suc k ≤ 64 → Taken text (suc k) (nodes (nth i (pad_items a es))) (item_no (byte_in text) commas_of i a e)
  unfolding nth deep
  number_taken zero a (Elems.last p) e q g h d =
      one _ refl (rw (no_first a e (a + length (pad_bytes p)) (pad_last a p e q g h (omega arith))) (pad_hit text (suc k) a a p g h (omega arith)))
  number_taken (suc i) a (Elems.last p) e q g h d =
      none refl (no_more i a e (a + length (pad_bytes p)) (pad_last a p e q g h (omega arith)) (omega arith))
  number_taken zero a (Elems.more p es) e q g h d =
      let m = pad_more a p (elems_bytes es) e q g h (omega arith) in
      one _ refl (rw (no_first a e (a + length (pad_bytes p)) m.cut) (pad_hit text (suc k) a a p (seg_left text a (pad_bytes p) (0x2C ∷ elems_bytes es) g) h (omega arith)))
  number_taken (suc i) a (Elems.more p es) e q g h d =
      let n : ℕ = length (pad_bytes p) in
      let m = pad_more a p (elems_bytes es) e q g h (omega arith) in
      rw (no_later i a e (a + n) m.cut m.within)
      (number_taken i (suc (a + n)) es e (omega (arith, q, length-append (pad_bytes p) (0x2C ∷ elems_bytes es)))
      (seg_right text a (pad_bytes p) (0x2C ∷ elems_bytes es) g).1 m.onward (omega arith))
