-- An accepted opening gives a good job: its cuts are lawful, and no chunk has had a step.
use mathlib.Core.Path.{◌≡◌, refl, sym, ap, ◌∙◌, subst}
use mathlib.Core.Bool.{Bool, true, false}
use mathlib.Core.List.{List}
use Prim.Native.Nat.{ℕ, zero, suc, ◌+◌, ◌%◌, ◌≤◌, ◌<◌}
use native.Mathlib.Decide.{ℕ_discrete}
use native.Mathlib.Omega.{arith}
use borrow.Author.Tests.{eqb-true, eqb-false, leb-false, not-false}
use lib.ListN.{length, get_or, length-set, length-replicate, get_or-replicate}
use lib.Seq.{get_or-set_same, get_or-set_other}
use lib.Dec.{eqb, leb}
use Rattle.rules.specs.Layout.{Bitmap, width_of, cell}
use Rattle.rules.proofs.Booleans.{impossible}
use Rattle.index.specs.declared.Answer.TheVariants.{Done}
use Rattle.index.specs.declared.Job.{Job}
use Rattle.index.specs.Types.{Chunk, Span}
use Rattle.index.specs.Checks.{fresh, chunk_at, span_of}
use Rattle.index.specs.Opening.{not_above, bad_cut, first_bad, opening, blank, cut_up_to, open_job, opened}
use Rattle.index.proofs.OpenLaws.{Openable, openable}
use Rattle.blocks.proofs.SwingLaws.{or_none}
use Rattle.index.proofs.OpenLaws.{first_before}
use Rattle.index.proofs.StepLaws.{as_done}
use Rattle.runs.proofs.Truth.{ChunkOk}
use Rattle.runs.proofs.Spans.{Shape}
use Rattle.runs.proofs.Good.{Good}

-- ---- no cut is bad

record Lawful (n : ℕ) (cuts : List ℕ) (i : ℕ) : Type 0 where
  even : get_or cuts i 0 % 64 ≡ 0
  some : get_or cuts i 0 ≡ 0 → ⊥
  inner : get_or cuts i 0 < n
  above : not_above cuts i ≡ false

lawful : (n : ℕ) (cuts : List ℕ) (i : ℕ) → bad_cut n cuts i ≡ false → Lawful n cuts i
unfolding bad_cut
lawful n cuts i e =
    let d = or_none _ (not_above cuts i) e in
    let c = or_none _ (leb n (get_or cuts i 0)) d.0 in
    let b = or_none _ (eqb (get_or cuts i 0) 0) c.0 in
    record { even = eqb-true _ _ (not-false _ b.0); some = eqb-false _ _ b.1; inner = leb-false _ _ c.1; above = d.1 }

rises : (n : ℕ) (cuts : List ℕ) (i : ℕ) → Lawful n cuts (suc i) → get_or cuts i 0 < get_or cuts (suc i) 0
unfolding not_above
rises n cuts i l = leb-false _ _ l.above

-- ---- the chunks of an opening

length_cut : (cuts : List ℕ) (m : ℕ) → length (cut_up_to cuts m) ≡ 64
unfolding cut_up_to blank
length_cut cuts zero = length-replicate 64 (fresh 0)
length_cut cuts (suc m) = length-set (cut_up_to cuts m) (suc m) (fresh (get_or cuts m 0)) ∙ length_cut cuts m

cut_zero : (cuts : List ℕ) (m : ℕ) → get_or (cut_up_to cuts m) 0 (fresh 0) ≡ fresh 0
unfolding cut_up_to blank
cut_zero cuts zero = get_or-replicate 64 0 (fresh 0) (fresh 0) (omega arith)
cut_zero cuts (suc m) = get_or-set_other (cut_up_to cuts m) (suc m) 0 (fresh (get_or cuts m 0)) (fresh 0) (λ e. omega arith) ∙ cut_zero cuts m

cut_next : (cuts : List ℕ) (m i : ℕ) → m ≤ 63 → i < m → get_or (cut_up_to cuts m) (suc i) (fresh 0) ≡ fresh (get_or cuts i 0)
unfolding cut_up_to
cut_next cuts zero i h l = absurd (omega arith)
cut_next cuts (suc m) i h l = go (ℕ_discrete i m) (λ k. cut_next cuts m i (omega arith) k)
  where
    go : Dec (i ≡ m) → (i < m → get_or (cut_up_to cuts m) (suc i) (fresh 0) ≡ fresh (get_or cuts i 0)) → get_or (cut_up_to cuts (suc m)) (suc i) (fresh 0) ≡ fresh (get_or cuts i 0)
    go (yes e) rest =
        ap (λ (x : ℕ). get_or (cut_up_to cuts (suc m)) (suc x) (fresh 0)) e
        ∙ get_or-set_same (cut_up_to cuts m) (suc m) (fresh (get_or cuts m 0)) (fresh 0) (omega (arith, length_cut cuts m)) ∙ ap (λ (x : ℕ). fresh (get_or cuts x 0)) (sym e)
    go (no n) rest = get_or-set_other (cut_up_to cuts m) (suc m) (suc i) (fresh (get_or cuts m 0)) (fresh 0) (λ e. n (omega arith)) ∙ rest (omega (arith, n))

-- a chunk that has had no step
fresh_ok : (text : List ℕ) (levels at : ℕ) (g : Bitmap → ℕ → ℕ) (s : Span) → ChunkOk text levels g (fresh at) s
fresh_ok text levels at g s =
    record {
      quoted = λ e. never e;
      guess_kept = λ e. never e;
      guess_mask = λ e. never e;
      truth = λ e. never e;
      masked = λ e. never e;
      settled_first = λ e. never e;
      coloned = λ e. never e;
      comma_ed = λ e. never e;
    }
  where
    never : {A : Type 0} → false ≡ true → A
    never e = impossible (cc)

-- ---- the opening

module _ (text : List ℕ) (levels : ℕ) (cuts words : List ℕ) (accepted : opening (length text) (length words) levels cuts ≡ Done) where
  abbrev j : Job
  j = open_job (length text) levels cuts

  o : Openable (length text) (length words) levels cuts
  o = openable (length text) (length words) levels cuts accepted

  good_cut : (i : ℕ) → i < length cuts → Lawful (length text) cuts i
  unfolding first_bad
  good_cut i l = lawful (length text) cuts i (first_before (bad_cut (length text) cuts) 0 (length cuts) i (omega arith) (omega (arith, o.all_good)))

  -- every chunk is fresh, at 0 or at its cut
  next_chunk : (i : ℕ) → i < length cuts → chunk_at j (suc i) ≡ fresh (get_or cuts i 0)
  next_chunk i l = cut_next cuts (length cuts) i o.cuts_few l

  first_chunk : chunk_at j 0 ≡ fresh 0
  first_chunk = cut_zero cuts (length cuts)

  pub any_chunk : (P : Chunk → Type 0) → ((at : ℕ) → P (fresh at)) → (k : ℕ) → k < j.count → P (chunk_at j k)
  any_chunk P p zero l = subst P (sym first_chunk) (p 0)
  any_chunk P p (suc k) l = subst P (sym (next_chunk k (omega arith))) (p (get_or cuts k 0))

  no_step : (k : ℕ) → k < j.count → (chunk_at j k).settled ≡ false
  no_step = any_chunk (λ c. c.settled ≡ false) (λ at. refl)

  cut_of : (i : ℕ) → i < length cuts → (chunk_at j (suc i)).cut ≡ get_or cuts i 0
  cut_of i l = ap (λ (c : Chunk). c.cut) (next_chunk i l)

  shape : Shape text levels j words
  shape =
      record {
        own = refl;
        deep = refl;
        some = omega (arith, o.one);
        few = o.few;
        filled = omega (arith, o.some);
        small = o.short;
        long = o.total;
        one = omega arith;
        many = omega (arith, o.cuts_few);
        room = length_cut cuts (length cuts);
        first = ap (λ (c : Chunk). c.cut) first_chunk;
        even = even;
        inner = inner;
        rising = rising;
      }
    where
      even : (k : ℕ) → k < length cuts + 1 → (chunk_at j k).cut % 64 ≡ 0
      even zero l = ap (λ (c : Chunk). c.cut % 64) first_chunk
      even (suc k) l = ap (λ (x : ℕ). x % 64) (cut_of k (omega arith)) ∙ (good_cut k (omega arith)).even

      inner : (k : ℕ) → k < length cuts + 1 → (chunk_at j k).cut < length text
      inner zero l = omega (arith, ap (λ (c : Chunk). c.cut) first_chunk, o.some)
      inner (suc k) l = omega (arith, cut_of k (omega arith), (good_cut k (omega arith)).inner)

      rising : (k : ℕ) → suc k < length cuts + 1 → (chunk_at j k).cut < (chunk_at j (suc k)).cut
      rising zero l = omega (arith, ap (λ (c : Chunk). c.cut) first_chunk, cut_of 0 (omega arith), (good_cut 0 (omega arith)).some)
      rising (suc k) l = omega (arith, cut_of k (omega arith), cut_of (suc k) (omega arith), rises (length text) cuts k (good_cut (suc k) (omega arith)))

  clash : {A : Type 0} (b : Bool) → b ≡ true → b ≡ false → A
  clash b p q = impossible (cc)

  fresh_good : Good text levels j words
  fresh_good =
      record {
        shape = shape;
        ok = λ k l. any_chunk (λ c. ChunkOk text levels (cell words levels (width_of (length text))) c (span_of j (length text) k)) (λ at. fresh_ok text levels at _ _) k l;
        front = λ k l e. clash _ e (no_step (suc k) l);
        clear = λ p k l e. clash _ e (no_step k l);
        sound_end = λ p k l e. clash _ e (no_step k (omega (arith, l)));
        stopped = λ f e. impossible (cc);
        live = λ e. impossible (cc);
      }

  pub opened_good : Good text levels (opened (length text) (length words) levels cuts).job words
  unfolding opened
  opened_good = subst (λ (x : Job). Good text levels x words) (as_done accepted _ _) fresh_good
