-- Opening, test by test: which cut is bad, the first of them, and what a call is refused with.
use mathlib.Core.Path.{◌≡◌, refl, sym, ap}
use mathlib.Core.Bool.{Bool, true, false, not, ◌||◌, or-true}
use mathlib.Core.List.{List}
use Prim.Native.Nat.{ℕ, zero, suc, ◌+◌, ◌-◌, ◌%◌, ◌≤◌, ◌<◌}
use native.Mathlib.Omega.{arith}
use native.Mathlib.Decide.{ℕ_discrete}
use native.Mathlib.Numerals.{add-one}
use lib.ListN.{length, get_or}
use lib.Dec.{eqb, ltb}
use borrow.Author.Tests.{eqb-true, eqb-false, ltb-false, not-false, eq-eqb, ne_eqb, le-leb, lt-leb, lt-ltb, le-ltb}
use Rattle.rules.specs.Word.{pick}
use Rattle.rules.specs.Layout.{size_of}
use Rattle.index.specs.declared.Refusal.TheVariants.{Empty, TooLong, BadLevels, BadBuffer, ManyCuts, BadCut}
use Rattle.index.specs.declared.Answer.TheVariants.{Done, Refused}
use Rattle.index.specs.declared.Answer.{Answer}
use Rattle.index.specs.Opening.{not_above, bad_cut, first, first_bad, open_checks, opening, no_job, open_job, opened}
use Rattle.blocks.proofs.SwingLaws.{or_none}
use Rattle.index.proofs.AnswerLaws.{handed, not_done}
use Rattle.index.proofs.CheckLaws.{not_refused}

-- ---- the first number of which a test holds

module _ (p : ℕ → Bool) (n i : ℕ) where
  module _ (h : i < n) where
    one_more : n - i ≡ suc (n - (i + 1))
    one_more = omega arith

    pub first_hit : p i ≡ true → first p i (n - i) ≡ i
    unfolding first
    first_hit e = rw one_more (rw (e, pick))

    pub first_miss : p i ≡ false → first p i (n - i) ≡ first p (i + 1) (n - (i + 1))
    unfolding first
    first_miss e = rw (one_more, add-one i) (rw (e, pick))

  pub first_end : n ≤ i → first p i (n - i) ≡ i
  unfolding first
  first_end h = let z : n - i ≡ 0 = omega arith in rw z

-- it holds there, if that is one of them, and of none before
pub first_holds : (p : ℕ → Bool) (i m : ℕ) → first p i m < i + m → p (first p i m) ≡ true
unfolding first
first_holds p i zero h = absurd (omega arith)
first_holds p i (suc m) h = go (p i) refl (first_holds p (suc i) m) h
  where
    go : (b : Bool) → p i ≡ b → (first p (suc i) m < suc i + m → p (first p (suc i) m) ≡ true)
        → pick b i (first p (suc i) m) < i + suc m → p (pick b i (first p (suc i) m)) ≡ true
    go true e later k = e
    go false e later k = later (omega arith)

pub first_before : (p : ℕ → Bool) (i m e : ℕ) → i ≤ e → e < first p i m → p e ≡ false
unfolding first
first_before p i zero e a h = absurd (omega arith)
first_before p i (suc m) e a h = go (p i) refl (first_before p (suc i) m e) h (ℕ_discrete i e)
  where
    go : (b : Bool) → p i ≡ b → (suc i ≤ e → e < first p (suc i) m → p e ≡ false) → e < pick b i (first p (suc i) m) → Dec (i ≡ e) → p e ≡ false
    go true q later k d = absurd (omega arith)
    go false q later k (yes z) = rw (← z) q
    go false q later k (no z) = later (omega arith) k

-- ---- bad cuts

-- the cut before, and 0 before the first
abbrev pub cut_before : List ℕ → ℕ → ℕ
cut_before cuts zero = 0
cut_before cuts (suc i) = get_or cuts i 0

module _ (n : ℕ) (cuts : List ℕ) (i : ℕ) where
  pub bad_part : (get_or cuts i 0 % 64 ≡ 0 → ⊥) → bad_cut n cuts i ≡ true
  unfolding bad_cut
  bad_part t = simp (ne_eqb _ _ t)

  pub bad_late : n ≤ get_or cuts i 0 → bad_cut n cuts i ≡ true
  unfolding bad_cut
  bad_late h = simp (le-leb _ _ h, or-true)

pub bad_low : (n : ℕ) (cuts : List ℕ) (i : ℕ) → get_or cuts i 0 ≤ cut_before cuts i → bad_cut n cuts i ≡ true
unfolding bad_cut not_above
bad_low n cuts zero h = let z : get_or cuts 0 0 ≡ 0 = omega arith in simp (eq-eqb _ _ z, or-true)
bad_low n cuts (suc i) h = simp (le-leb _ _ h, or-true)

pub good_cut : (n : ℕ) (cuts : List ℕ) (i : ℕ) → get_or cuts i 0 % 64 ≡ 0 → get_or cuts i 0 < n → cut_before cuts i < get_or cuts i 0 → bad_cut n cuts i ≡ false
unfolding bad_cut not_above
good_cut n cuts zero t k h = simp (eq-eqb _ _ t, ne_eqb (get_or cuts 0 0) 0 (λ e. omega arith), lt-leb _ _ k)
good_cut n cuts (suc i) t k h = simp (eq-eqb _ _ t, ne_eqb (get_or cuts (suc i) 0) 0 (λ e. omega arith), lt-leb _ _ k, lt-leb _ _ h)

-- ---- the answer

module _ (n w levels : ℕ) (cuts : List ℕ) where
  pub if_empty : n ≡ 0 → opening n w levels cuts ≡ Refused Empty
  unfolding opening open_checks
  if_empty a = simp (eq-eqb _ _ a)

  module _ (a : n ≡ 0 → ⊥) where
    pub if_long : 16777216 < n → opening n w levels cuts ≡ Refused TooLong
    unfolding opening open_checks
    if_long b = simp (ne_eqb _ _ a, lt-ltb _ _ b)

    module _ (b : n ≤ 16777216) where
      pub if_level_0 : levels ≡ 0 → opening n w levels cuts ≡ Refused BadLevels
      unfolding opening open_checks
      if_level_0 d = simp (ne_eqb _ _ a, le-ltb _ _ b, eq-eqb _ _ d)

      module _ (d : levels ≡ 0 → ⊥) where
        pub if_levels : 16 < levels → opening n w levels cuts ≡ Refused BadLevels
        unfolding opening open_checks
        if_levels e = simp (ne_eqb _ _ a, le-ltb _ _ b, ne_eqb _ _ d, lt-ltb _ _ e)

        module _ (e : levels ≤ 16) where
          pub if_buffer : (w ≡ size_of levels n → ⊥) → opening n w levels cuts ≡ Refused BadBuffer
          unfolding opening open_checks
          if_buffer f = simp (ne_eqb _ _ a, le-ltb _ _ b, ne_eqb _ _ d, le-ltb _ _ e, ne_eqb _ _ f)

          module _ (f : w ≡ size_of levels n) where
            pub if_many : 63 < length cuts → opening n w levels cuts ≡ Refused ManyCuts
            unfolding opening open_checks
            if_many g = simp (ne_eqb _ _ a, le-ltb _ _ b, ne_eqb _ _ d, le-ltb _ _ e, eq-eqb _ _ f, lt-ltb _ _ g)

            module _ (g : length cuts ≤ 63) where
              pub if_bad : first_bad n cuts < length cuts → opening n w levels cuts ≡ Refused (BadCut (first_bad n cuts))
              unfolding opening open_checks
              if_bad h = simp (ne_eqb _ _ a, le-ltb _ _ b, ne_eqb _ _ d, le-ltb _ _ e, eq-eqb _ _ f, le-ltb _ _ g, lt-ltb _ _ h)

              pub if_opened : length cuts ≤ first_bad n cuts → opening n w levels cuts ≡ Done
              unfolding opening open_checks
              if_opened h = simp (ne_eqb _ _ a, le-ltb _ _ b, ne_eqb _ _ d, le-ltb _ _ e, eq-eqb _ _ f, le-ltb _ _ g, le-ltb _ _ h)

-- ---- what an accepted opening knows, and what either hands back

pub record Openable (n w levels : ℕ) (cuts : List ℕ) : Type 0 where
  pub some : n ≡ 0 → ⊥
  pub short : n ≤ 16777216
  pub one : levels ≡ 0 → ⊥
  pub few : levels ≤ 16
  pub total : w ≡ size_of levels n
  pub cuts_few : length cuts ≤ 63
  pub all_good : length cuts ≤ first_bad n cuts

module _ (n w levels : ℕ) (cuts : List ℕ) where
  pub openable : opening n w levels cuts ≡ Done → Openable n w levels cuts
  unfolding opening open_checks
  openable h =
      let c1 = not_refused (eqb n 0) Empty _ h in
      let c2 = not_refused (ltb 16777216 n) TooLong _ c1.1 in
      let c3 = not_refused (eqb levels 0 || ltb 16 levels) BadLevels _ c2.1 in
      let c4 = not_refused (not (eqb w (size_of levels n))) BadBuffer _ c3.1 in
      let c5 = not_refused (ltb 63 (length cuts)) ManyCuts _ c4.1 in
      let c6 = not_refused (ltb (first_bad n cuts) (length cuts)) (BadCut (first_bad n cuts)) Done c5.1 in
      let l = or_none _ _ c3.0 in
      record {
        some = eqb-false _ _ c1.0;
        short = ltb-false _ _ c2.0;
        one = eqb-false _ _ l.0;
        few = ltb-false _ _ l.1;
        total = eqb-true _ _ (not-false _ c4.0);
        cuts_few = ltb-false _ _ c5.0;
        all_good = ltb-false _ _ c6.0;
      }

  pub open_refused : (a : Answer) → a ≡ opening n w levels cuts → (a ≡ Done → ⊥) → handed a no_job ≡ opened n w levels cuts
  unfolding opened
  open_refused a e h =
      let t = rw e at h in
      rw e (ap (handed (opening n w levels cuts)) (sym (not_done (opening n w levels cuts) (open_job n levels cuts) no_job t)))

  pub open_done : opening n w levels cuts ≡ Done → handed Done (open_job n levels cuts) ≡ opened n w levels cuts
  unfolding opened
  open_done e = rw e
