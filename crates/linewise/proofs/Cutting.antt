-- The lines that are cut are the lines there are, in order: from a place where one begins, the first is that one or it is blank and passed over, and
-- the next begins behind its LF.
use Prim.Native.Nat.{ℕ, zero, suc, ◌+◌, ◌≤◌, ◌<◌}
use mathlib.Core.Path.{◌≡◌, refl, sym, ap, ◌∙◌, subst}
use mathlib.Core.Bool.{Bool, true, false, true≢false}
use mathlib.Core.List.{List, [], ◌∷◌}
use mathlib.Core.Logic.{◌⊎◌, inl, inr, ⊎_elim, ◌↔◌}
use native.Mathlib.Omega.{arith}
use native.Mathlib.Nat.{eq-or-lt_of_le}
use native.Mathlib.Decide.{dec_lt}
use lib.ListN.{length}
use borrow.Author.Tests.{ltb-true, lt-ltb, not-false}
use Rattle.paths.specs.Places.{byte_in, first_at}
use Rattle.paths.proofs.PlaceLaws.{first_ge, first_hit, first_miss, first_at_is, first_all}
use Rattle.query.specs.Items.{solid}
use Rattle.lines.specs.Lines.{Entry, feed_at, line_end, is_blank_line, lines, lines_from, head_line, line_from, IsLine, At, End}
use Rattle.lines.proofs.LineLaws.{here, end_bounds, none_behind, blank_passed, line_here, Listed, next_at, next_end, Next, none, one, next}
use Rattle.linewise.specs.Cutting.{Among, Rise, LineBegins, NextLine}

module _ (text : List ℕ) where
  -- ---- the line that begins at a

  -- a line that is not blank, from a place where one begins
  is_line : (a : ℕ) → a < length text → LineBegins text a → is_blank_line text a (line_end text a) ≡ false → IsLine text (here text a)
  unfolding line_end is_blank_line
  is_line a l b s =
      let o = end_bounds text a (omega arith) in
      let hit : first_at (solid (byte_in text)) a (line_end text a) < line_end text a = ltb-true _ _ (not-false _ s) in
      record {
        begins = b;
        ends = ⊎_elim (λ e. inl e) (λ h. inr (h, first_hit (feed_at text) a (length text) (omega arith) h)) (eq-or-lt_of_le o.1);
        whole = first_miss (feed_at text) a (length text) (omega arith);
        solid_at = first_at (solid (byte_in text)) a (line_end text a);
        within = (first_ge (solid (byte_in text)) a (line_end text a) o.0, hit);
        not_blank = first_hit (solid (byte_in text)) a (line_end text a) o.0 hit;
      }

  -- a line that begins at a ends where the cutting ends it, and is not blank
  the_end : (e : Entry) → IsLine text e → line_end text e.start ≡ e.end
  unfolding line_end
  the_end e i = go i.ends
    where
      go : (e.end ≡ length text) ⊎ ((e.end < length text) × (feed_at text e.end ≡ true)) → line_end text e.start ≡ e.end
      go (inl q) =
          first_all (feed_at text) e.start (length text) (omega (arith, i.within, q)) (λ k l m. i.whole k l (omega (arith, q))) ∙ sym q
      go (inr q) = first_at_is (feed_at text) e.start e.end (length text) (omega (arith, i.within)) q.0 i.whole q.1

  not_blank : (e : Entry) → IsLine text e → is_blank_line text e.start e.end ≡ false
  unfolding is_blank_line
  not_blank e i = go (dec_lt (first_at (solid (byte_in text)) e.start e.end) e.end)
    where
      go : Dec (first_at (solid (byte_in text)) e.start e.end < e.end) → is_blank_line text e.start e.end ≡ false
      go (yes l) = rw (lt-ltb _ _ l)
      go (no n) =
          absurd (true≢false (sym i.not_blank ∙ first_miss (solid (byte_in text)) e.start e.end (omega (arith, i.within)) i.solid_at i.within.0 (omega (arith, i.within))))

  pub inside : (e : Entry) → IsLine text e → e.end ≤ length text
  inside e i = ⊎_elim (λ q. omega (arith, q)) (λ q. omega (arith, q.0)) i.ends

  same : (e : Entry) → IsLine text e → (a : ℕ) → a ≡ e.start → e ≡ here text a
  same e i a q = rw (q, the_end e i)

  -- before a line that begins later lies an LF
  before : (e : Entry) → IsLine text e → (a : ℕ) → a < e.start → line_end text a + 1 ≤ e.start
  unfolding line_end
  before e i a l = go i.begins
    where
      go : LineBegins text e.start → line_end text a + 1 ≤ e.start
      go (inl q) = absurd (omega (arith, q))
      go (inr (p, q, f)) = by (dec_lt p (line_end text a))
        where
          by : Dec (p < line_end text a) → line_end text a + 1 ≤ e.start
          by (yes h) = absurd (true≢false (sym f ∙ first_miss (feed_at text) a (length text) (omega (arith, i.within, inside e i)) p (omega (arith, q)) h))
          by (no h) = omega (arith, q, h)

  -- ---- listed, and a line

  -- behind an LF a line begins; behind the end nothing does
  behind_begins : (a : ℕ) → a < length text → (LineBegins text (line_end text a + 1)) ⊎ (length text ≤ line_end text a + 1)
  unfolding line_end
  behind_begins a l =
      ⊎_elim (λ e. inr (omega (arith, e))) (λ h. inl (inr (line_end text a, omega arith, first_hit (feed_at text) a (length text) (omega arith) h)))
      (eq-or-lt_of_le (end_bounds text a (omega arith)).1)

  -- what the cutting lists from a on is a line there
  abbrev Right : ℕ → Type 0
  Right a = (e : Entry) → Among e (lines_from text a) → IsLine text e × (a ≤ e.start)

  nothing_listed : (a : ℕ) → length text ≤ a → Right a
  nothing_listed a l e m = absurd (subst (Among e) (none_behind text a l) m)

  further : (a b : ℕ) → a ≤ b → Right b → (e : Entry) → Among e (lines_from text b) → IsLine text e × (a ≤ e.start)
  further a b l r e m = let i = r e m in (i.0, omega (arith, i.1))

  listed_line : (k a : ℕ) → length text ≤ a + k → LineBegins text a → Right a
  listed_line zero a l b = nothing_listed a (omega arith)
  listed_line (suc k) a l b = go (dec_lt a (length text)) (is_blank_line text a (line_end text a)) refl (λ h. listed_line k (line_end text a + 1) (omega (arith, end_bounds text a h)))
    where
      rest : a < length text → (a ≤ length text → LineBegins text (line_end text a + 1) → Right (line_end text a + 1)) → (LineBegins text (line_end text a + 1)) ⊎ (length text ≤ line_end text a + 1) → Right (line_end text a + 1)
      rest h r (inl c) = r (omega arith) c
      rest h r (inr c) = nothing_listed (line_end text a + 1) c

      go : Dec (a < length text) → (s : Bool) → is_blank_line text a (line_end text a) ≡ s → (a ≤ length text → LineBegins text (line_end text a + 1) → Right (line_end text a + 1)) → Right a
      go (no n) s q r e m = nothing_listed a (omega arith) e m
      go (yes h) true q r e m =
          further a (line_end text a + 1) (omega (arith, end_bounds text a (omega arith))) (rest h r (behind_begins a h)) e (subst (Among e) (blank_passed text a h q) m)
      go (yes h) false q r e m =
          ⊎_elim (λ (f : e ≡ here text a). rw f (is_line a h b q, omega arith))
          (λ m. further a (line_end text a + 1) (omega (arith, end_bounds text a (omega arith))) (rest h r (behind_begins a h)) e m)
          (subst (Among e) (line_here text a h q) m)

  -- and a line there is listed
  line_listed : (k a : ℕ) → length text ≤ a + k → (e : Entry) → IsLine text e → a ≤ e.start → Among e (lines_from text a)
  line_listed zero a l e i s = absurd (omega (arith, i.within, inside e i))
  line_listed (suc k) a l e i s =
      go (eq-or-lt_of_le s) (is_blank_line text a (line_end text a)) refl (λ h. line_listed k (line_end text a + 1) (omega (arith, end_bounds text a (omega (arith, i.within, inside e i)))) e i h)
    where
      h : a < length text
      h = omega (arith, i.within, inside e i)

      go : (a ≡ e.start) ⊎ (a < e.start) → (b : Bool) → is_blank_line text a (line_end text a) ≡ b → (line_end text a + 1 ≤ e.start → Among e (lines_from text (line_end text a + 1))) → Among e (lines_from text a)
      go (inl q) true p r = absurd (true≢false (sym p ∙ rw (q, the_end e i) (not_blank e i)))
      go (inl q) false p r = subst (Among e) (sym (line_here text a h p)) (inl (same e i a q))
      go (inr q) true p r = subst (Among e) (sym (blank_passed text a h p)) (r (before e i a q))
      go (inr q) false p r = subst (Among e) (sym (line_here text a h p)) (inr (r (before e i a q)))

  -- "a span is listed exactly if it is a line"
  pub lines_exactly : (e : Entry) → Among e (lines text) ↔ IsLine text e
  lines_exactly e = (λ m. (listed_line (length text) 0 (omega arith) (inl refl) e m).0, λ i. line_listed (length text) 0 (omega arith) e i (omega arith))

  -- ---- in order

  rise : (k a : ℕ) → length text ≤ a + k → Rise a (lines_from text a)
  rise zero a l = subst (Rise a) (sym (none_behind text a (omega arith))) tt
  rise (suc k) a l = go (next text (length text) a (omega arith)) (rise k)
    where
      go : Next text a → ((b : ℕ) → length text ≤ b + k → Rise b (lines_from text b)) → Rise a (lines_from text a)
      go (none z) r = subst (Rise a) (sym z) tt
      go (one s e d) r = subst (Rise a) (sym d.listed) (d.behind, (d.some, r (e + 1) (omega (arith, d.behind, d.some))))

  pub lines_rise : Rise 0 (lines text)
  lines_rise = rise (length text) 0 (omega arith)

  -- ---- the next line

  behind : (b : ℕ) (es : List Entry) (f : Entry) → Rise b es → Among f es → b ≤ f.start
  behind b [] f r m = absurd m
  behind b (e ∷ es) f r (inl q) = omega (arith, r.0, ap (λ (x : Entry). x.start) q)
  behind b (e ∷ es) f r (inr m) = omega (arith, r.0, r.1.0, behind (e.end + 1) es f r.1.1 m)

  module _ (a : ℕ) (b : LineBegins text a) where
    -- the one that the cutting finds
    found : (s e : ℕ) → Listed text a s e → NextLine text a (record { start = s; end = e })
    found s e d =
        let i = listed_line (length text) a (omega arith) b (record { start = s; end = e }) (subst (Among (record { start = s; end = e })) (sym d.listed) (inl refl)) in
        record {
          is_line = i.0;
          behind = i.1;
          none_before = λ f j l. ⊎_elim (λ (q : f ≡ record { start = s; end = e }). omega (arith, ap (λ (x : Entry). x.start) q))
              (λ m. omega (arith, d.some, behind (e + 1) (lines_from text (e + 1)) f (rise (length text) (e + 1) (omega arith)) m))
              (subst (Among f) d.listed (line_listed (length text) a (omega arith) f j l));
        }

    one_next : (e f : Entry) → NextLine text a e → NextLine text a f → e ≡ f
    one_next e f x y =
        let q : e.start ≡ f.start = omega (arith, x.none_before f y.is_line y.behind, y.none_before e x.is_line x.behind) in
        same e x.is_line f.start (sym q) ∙ sym (same f y.is_line f.start refl)

    -- the next line from a place where one begins: the first of the text's lines there
    pub next_exactly : (s e : ℕ) → (line_from text a ≡ At s e) ↔ NextLine text a (record { start = s; end = e })
    unfolding line_from
    next_exactly s e = (λ q. found s e (next_at text a s e q), λ n. back n (next text (length text) a (omega arith)))
      where
        back : NextLine text a (record { start = s; end = e }) → Next text a → line_from text a ≡ At s e
        back n (none z) = absurd (subst (Among (record { start = s; end = e })) z (line_listed (length text) a (omega arith) _ n.is_line n.behind))
        back n (one t f d) = ap head_line d.listed ∙ ap (λ (x : Entry). At x.start x.end) (one_next _ _ (found t f d) n)

    -- and none where none of them begins there or behind
    pub none_exactly : (line_from text a ≡ End) ↔ ((e : Entry) → IsLine text e → e.start < a)
    unfolding line_from
    none_exactly = (λ q e i. early e i (next_end text a q) (dec_lt e.start a), λ n. back n (next text (length text) a (omega arith)))
      where
        early : (e : Entry) → IsLine text e → lines_from text a ≡ [] → Dec (e.start < a) → e.start < a
        early e i z (yes l) = l
        early e i z (no l) = absurd (subst (Among e) z (line_listed (length text) a (omega arith) e i (omega arith)))

        back : ((e : Entry) → IsLine text e → e.start < a) → Next text a → line_from text a ≡ End
        back n (none z) = ap head_line z
        back n (one t f d) = let x = found t f d in absurd (omega (arith, x.behind, n _ x.is_line))
