-- The lines from a place on, case by case: none behind the end, a blank one passed over, else the first is the one that begins there. How many lines
-- are allowed for does not matter, since each takes a byte.
use Prim.Native.Nat.{ℕ, zero, suc, ◌+◌, ◌-◌, ◌≤◌, ◌<◌}
use mathlib.Core.Path.{◌≡◌, refl, sym, ap, ◌∙◌}
use mathlib.Core.Bool.{Bool, true, false, not, ◌&&◌, true≢false}
use mathlib.Core.List.{List, [], ◌∷◌}
use native.Mathlib.Omega.{arith}
use native.Mathlib.Decide.{dec_lt}
use native.Mathlib.Nat.{lt_of_not-le}
use lib.ListN.{length, get_or, take, drop}
use lib.Seq.{drop-cons}
use lib.Dec.{ltb}
use borrow.Author.Tests.{lt-ltb, le-ltb}
use Rattle.rules.proofs.Booleans.{impossible}
use Rattle.paths.proofs.PlaceLaws.{first_none, first_here, first_next, first_ge, first_le}
use Rattle.paths.specs.Places.{byte_in}
use Rattle.query.specs.Items.{is_blank, solid}
use Rattle.std.specs.List.{list_all}
use Rattle.query.specs.declared.types.Part.{Part}
use Rattle.lines.specs.Lines.{Entry, feed_at, line_end, is_blank_line, unless_blank, lines_in, lines_from, head_line, line_from, At, End}

-- ---- blank or not, byte by byte

module _ (text : List ℕ) where
  pub blank_none : (a e : ℕ) → e ≤ a → is_blank_line text a e ≡ true
  unfolding is_blank_line
  blank_none a e l = rw (first_none (solid (byte_in text)) a e l, le-ltb a e l)

  pub blank_solid : (a e : ℕ) → a < e → solid (byte_in text) a ≡ true → is_blank_line text a e ≡ false
  unfolding is_blank_line
  blank_solid a e l h = rw (first_here (solid (byte_in text)) a e l h, lt-ltb a e l)

  pub blank_next : (a e : ℕ) → a < e → solid (byte_in text) a ≡ false → is_blank_line text a e ≡ is_blank_line text (a + 1) e
  unfolding is_blank_line
  blank_next a e l h = ap (λ (p : ℕ). not (ltb p e)) (first_next (solid (byte_in text)) a e l h)

  blank_part : (c a : ℕ) → a + c ≤ length text → list_all is_blank (take c (drop a text)) ≡ is_blank_line text a (a + c)
  unfolding byte_in
  blank_part zero a l = sym (blank_none a (a + 0) (omega arith))
  blank_part (suc c) a l =
      rw (drop-cons text a 0 (omega arith)) (go (is_blank (get_or text a 0)) refl (blank_part c (suc a) (omega arith)))
    where
      more : suc a + c ≡ a + suc c
      more = omega arith

      one : suc a ≡ a + 1
      one = omega arith

      go : (b : Bool) → is_blank (get_or text a 0) ≡ b → list_all is_blank (take c (drop (suc a) text)) ≡ is_blank_line text (suc a) (suc a + c)
          → (is_blank (get_or text a 0) && list_all is_blank (take c (drop (suc a) text))) ≡ is_blank_line text a (a + suc c)
      go true e later = rw e (later ∙ rw (more, one) (sym (blank_next a (a + suc c) (omega arith) (ap not e))))
      go false e later = rw e (sym (blank_solid a (a + suc c) (omega arith) (ap not e)))

  -- the bytes of a line are blank exactly where it is a blank line
  pub blank_bytes : (a e : ℕ) → a ≤ e → e ≤ length text → list_all is_blank (take (e - a) (drop a text)) ≡ is_blank_line text a e
  blank_bytes a e l m =
      let at : a + (e - a) ≡ e = omega arith in
      blank_part (e - a) a (omega arith) ∙ ap (is_blank_line text a) at

-- ---- line by line

module _ (text : List ℕ) where
  -- a line ends where it begins or behind that, within the text
  pub end_bounds : (a : ℕ) → a ≤ length text → (a ≤ line_end text a) × (line_end text a ≤ length text)
  unfolding line_end
  end_bounds a l = (first_ge (feed_at text) a (length text) l, first_le (feed_at text) a (length text) l)

  pub end_within : (a r : ℕ) → a ≤ length text → r ≡ line_end text a → (a ≤ r) × (r ≤ length text)
  end_within a r l e = rw e (end_bounds a l)

  abbrev pub here : ℕ → Entry
  here a = record { start = a; end = line_end text a }

  -- so many lines are enough, and so are more
  enough : (c d a : ℕ) → length text ≤ a + c → length text ≤ a + d → lines_in c text a ≡ lines_in d text a
  unfolding lines_in
  enough zero zero a l m = refl
  enough zero (suc d) a l m = rw (le-ltb a (length text) (omega arith))
  enough (suc c) zero a l m = rw (le-ltb a (length text) (omega arith))
  enough (suc c) (suc d) a l m = go (dec_lt a (length text)) (λ h. enough c d (line_end text a + 1) (omega (arith, end_bounds a h)) (omega (arith, end_bounds a h)))
    where
      go : Dec (a < length text) → (a ≤ length text → lines_in c text (line_end text a + 1) ≡ lines_in d text (line_end text a + 1)) → lines_in (suc c) text a ≡ lines_in (suc d) text a
      go (yes h) e = rw (e (omega arith))
      go (no h) e = rw (le-ltb a (length text) (omega arith))

  -- the cases of the lines from a on
  step : (a : ℕ) → a < length text → lines_from text a ≡ unless_blank (is_blank_line text a (line_end text a)) (here a) (lines_from text (line_end text a + 1))
  unfolding lines_from lines_in
  step a l = enough (length text) (suc (length text)) a (omega arith) (omega arith) ∙ rw (lt-ltb a (length text) l)

  pub none_behind : (a : ℕ) → length text ≤ a → lines_from text a ≡ []
  unfolding lines_from lines_in
  none_behind a l = enough (length text) 0 a (omega arith) (omega arith)

  pub blank_passed : (a : ℕ) → a < length text → is_blank_line text a (line_end text a) ≡ true → lines_from text a ≡ lines_from text (line_end text a + 1)
  blank_passed a l e = step a l ∙ ap (λ (b : Bool). unless_blank b (here a) (lines_from text (line_end text a + 1))) e

  pub line_here : (a : ℕ) → a < length text → is_blank_line text a (line_end text a) ≡ false → lines_from text a ≡ here a ∷ lines_from text (line_end text a + 1)
  line_here a l e = step a l ∙ ap (λ (b : Bool). unless_blank b (here a) (lines_from text (line_end text a + 1))) e

  -- ---- the next line

  pub next_none : (a : ℕ) → length text ≤ a → line_from text a ≡ End
  unfolding line_from
  next_none a l = ap head_line (none_behind a l)

  -- a line that is blank, or not, as its bytes are
  blank_is : (a e : ℕ) → a < length text → e ≡ line_end text a → {b : Bool} → list_all is_blank (take (e - a) (drop a text)) ≡ b → is_blank_line text a (line_end text a) ≡ b
  blank_is a e l q t =
      let o = end_bounds a (omega arith) in
      ap (is_blank_line text a) (sym q) ∙ sym (blank_bytes text a e (omega (arith, o, q)) (omega (arith, o, q))) ∙ t

  pub next_passed : (a e : ℕ) → a < length text → e ≡ line_end text a → list_all is_blank (take (e - a) (drop a text)) ≡ true → line_from text a ≡ line_from text (e + 1)
  unfolding line_from
  next_passed a e l q b = rw q (ap head_line (blank_passed a l (blank_is a e l q b)))

  pub next_here : (a e : ℕ) → a < length text → e ≡ line_end text a → list_all is_blank (take (e - a) (drop a text)) ≡ false → line_from text a ≡ At a e
  unfolding line_from
  next_here a e l q b = rw q (ap head_line (line_here a l (blank_is a e l q b)))

  -- the line that is next from a on: it is listed, and behind it are the others
  pub record Listed (a s e : ℕ) : Type 0 where
    pub listed : lines_from text a ≡ record { start = s; end = e } ∷ lines_from text (e + 1)
    pub behind : a ≤ s
    pub some : s < e
    pub inside : e ≤ length text

  -- there is none, or there is such a line
  pub data Next (a : ℕ) : Type 0 where
    none : lines_from text a ≡ [] → Next a
    one : (s e : ℕ) → Listed a s e → Next a

  further : (a b : ℕ) → a ≤ b → lines_from text a ≡ lines_from text b → Next b → Next a
  further a b l q (none z) = none (q ∙ z)
  further a b l q (one s e d) = one s e (record { listed = q ∙ d.listed; behind = omega (arith, d.behind); some = d.some; inside = d.inside })

  pub next : (k a : ℕ) → length text ≤ a + k → Next a
  next zero a l = none (none_behind a (omega arith))
  next (suc k) a l = go (dec_lt a (length text)) (is_blank_line text a (line_end text a)) refl (λ h. next k (line_end text a + 1) (omega (arith, end_bounds a h)))
    where
      go : Dec (a < length text) → (b : Bool) → is_blank_line text a (line_end text a) ≡ b → (a ≤ length text → Next (line_end text a + 1)) → Next a
      go (no h) b e rest = none (none_behind a (omega arith))
      go (yes h) true e rest = further a (line_end text a + 1) (omega (arith, end_bounds a (omega arith))) (blank_passed a h e) (rest (omega arith))
      go (yes h) false e rest =
          one a (line_end text a)
          (record { listed = line_here a h e; behind = omega arith; some = lt_of_not-le (λ l. true≢false (sym (blank_none text a (line_end text a) l) ∙ e)); inside = (end_bounds a (omega arith)).1 })

  pub next_at : (a s e : ℕ) → line_from text a ≡ At s e → Listed a s e
  unfolding line_from
  next_at a s e q = go (next (length text) a (omega arith))
    where
      go : Next a → Listed a s e
      go (none z) = let w = sym (ap head_line z) ∙ q in impossible (cc)
      go (one t f d) =
          let w : At t f ≡ At s e = sym (ap head_line d.listed) ∙ q in
          let r : ◌≡◌ {A = Part} (record { start = t; end = f }) (record { start = s; end = e }) = cc in
          let x : t ≡ s = ap (λ (p : Part). p.start) r in
          let y : f ≡ e = ap (λ (p : Part). p.end) r in
          rw (← x, ← y) d

  pub next_end : (a : ℕ) → line_from text a ≡ End → lines_from text a ≡ []
  unfolding line_from
  next_end a q = go (next (length text) a (omega arith))
    where
      go : Next a → lines_from text a ≡ []
      go (none z) = z
      go (one t f d) = let w = sym (ap head_line d.listed) ∙ q in impossible (cc)
