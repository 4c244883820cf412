-- Trimming a part of the record whose bytes are known: blanks, something whose ends are none, blanks. By the places of its first and last byte.
use mathlib.Core.Path.{◌≡◌, refl, ap, ap₂, ◌∙◌}
use mathlib.Core.Bool.{Bool, true, false}
use mathlib.Core.List.{List, [], ◌∷◌, ◌++◌}
use Prim.Native.Nat.{ℕ, suc, ◌+◌, ◌-◌, ◌≤◌}
use native.Mathlib.Omega.{arith}
use borrow.Author.Tests.{ne_eqb, lt-ltb}
use lib.ListN.{length, get_or, length-append}
use Rattle.rules.specs.Layout.{listed}
use Rattle.paths.specs.Places.{byte_in, past_last}
use Rattle.query.specs.Items.{is_blank, solid, trim_start, trim_end, value_at}
use Rattle.query.specs.Item.{Found}
use Rattle.paths.proofs.PlaceLaws.{first_at_is, first_all, last_at}
use Rattle.texts.specs.Grammar.{Blank, Ws}
use Rattle.jsonpath.proofs.Trace.{Seg, Never, never_more}
use Rattle.jsonpath.proofs.Stretches.{seg_left, seg_right}

module _ (text : List ℕ) where
  blank_here : (i : ℕ) {b : ℕ} → Blank b → get_or text i 0 ≡ b → solid (byte_in text) i ≡ false
  unfolding byte_in is_blank
  blank_here i Blank.space e = rw e
  blank_here i Blank.tab e = rw e
  blank_here i Blank.line_feed e = rw e
  blank_here i Blank.carriage_return e = rw e

  pub solid_here : (i b : ℕ) → get_or text i 0 ≡ b → 0x21 ≤ b → solid (byte_in text) i ≡ true
  unfolding byte_in is_blank
  solid_here i b e h = rw (e, ne_eqb b 0x20 (omega arith), ne_eqb b 0x09 (omega arith), ne_eqb b 0x0A (omega arith), ne_eqb b 0x0D (omega arith))

  pub ws_blank : {w : List ℕ} (i : ℕ) → Ws w → Seg text i w → Never (solid (byte_in text)) i (length w)
  ws_blank i Ws.none g = λ j l m. absurd (omega arith)
  ws_blank i (Ws.blank {w} b ws) g = never_more (solid (byte_in text)) i (length w) (blank_here i b g.0) (ws_blank (suc i) ws g.1)

  -- something of n bytes at a, no blank at its ends
  pub record Ends (a n : ℕ) : Type 0 where
    pub last : ℕ
    pub size : n ≡ suc last
    pub first_solid : solid (byte_in text) a ≡ true
    pub last_solid : solid (byte_in text) (a + last) ≡ true

  -- where it begins and ends, the blanks around it left out
  pub record Trimmed (a e b c : ℕ) : Type 0 where
    pub start : trim_start (byte_in text) a e ≡ b
    pub end : trim_end (byte_in text) a e ≡ c

  pub trim : {w w' : List ℕ} (a : ℕ) (xs : List ℕ) → Ws w → Ws w' → Seg text a (w ++ (xs ++ w')) → Ends (a + length w) (length xs)
      → Trimmed a (a + length (w ++ (xs ++ w'))) (a + length w) (a + length w + length xs)
  trim {w} {w'} a xs b b' g h =
      let s : ℕ → Bool = solid (byte_in text) in
      let m : ℕ = a + length w in
      let l : a + length (w ++ (xs ++ w')) ≡ m + length xs + length w' = omega (arith, length-append w (xs ++ w'), length-append xs w') in
      let tail : Seg text (m + length xs) w' = seg_right text m xs w' (seg_right text a w (xs ++ w') g) in
      let x : m + length xs - 1 ≡ m + h.last = omega (arith, h.size) in
      let st : trim_start (byte_in text) a (a + length (w ++ (xs ++ w'))) ≡ m =
      first_at_is s a m _ (omega arith) (omega (arith, h.size)) (ws_blank a b (seg_left text a w (xs ++ w') g)) h.first_solid in
      record {
        start = st;
        end =
            ap₂ (past_last s) st l
            ∙ last_at s m (m + length xs) (m + length xs + length w') (omega (arith, h.size)) (omega arith) (ap s x ∙ h.last_solid) (ws_blank (m + length xs) b' tail);
      }

  -- the value there
  pub value_mid : {w w' : List ℕ} (place a : ℕ) (xs : List ℕ) → Ws w → Ws w' → Seg text a (w ++ (xs ++ w')) → Ends (a + length w) (length xs)
      → value_at (byte_in text) place a (a + length (w ++ (xs ++ w'))) ≡ Found (a + length w) (a + length w + length xs)
  unfolding value_at
  value_mid {w} place a xs b b' g h =
      let t = trim a xs b b' g h in
      rw (t.end, t.start, lt-ltb (a + length w) (a + length w + length xs) (omega (arith, h.size)))

  -- blank all through
  pub all_blank : {w : List ℕ} (a : ℕ) → Ws w → Seg text a w → trim_start (byte_in text) a (a + length w) ≡ a + length w
  all_blank {w} a b g = first_all (solid (byte_in text)) a (a + length w) (omega arith) (ws_blank a b g)

  -- the bytes of a stretch
  pub listed_seg : (i : ℕ) (xs : List ℕ) → Seg text i xs → listed (byte_in text) i (length xs) ≡ xs
  unfolding listed byte_in
  listed_seg i [] g = refl
  listed_seg i (x ∷ xs) g = ap₂ {C = List ℕ} ◌∷◌ g.0 (listed_seg (suc i) xs g.1)
