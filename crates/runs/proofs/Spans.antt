-- How the chunks of an opened job lie: they rise from word 0 to the last, without gap and without overlap; and no step moves them.
use mathlib.Core.Path.{◌≡◌, sym, ap, ◌∙◌}
use mathlib.Core.Bool.{true, false}
use mathlib.Core.List.{List}
use Prim.Native.Nat.{ℕ, zero, suc, pred, ◌+◌, ◌*◌, ◌/◌, ◌%◌, ◌≤◌, ◌<◌, min}
use native.Mathlib.Decide.{dec_lt, ℕ_discrete}
use native.Mathlib.Nat.{lt_of_not-le}
use native.Mathlib.Numerals.{add-one}
use native.Mathlib.Omega.{arith}
use borrow.Author.Tests.{le-leb, lt-leb}
use lib.ListN.{length, length-set}
use lib.Seq.{get_or-set_same, get_or-set_other}
use lib.Dec.{leb}
use Rattle.rules.specs.Word.{pick}
use Rattle.rules.specs.Layout.{width_of, size_of}
use Rattle.index.specs.Types.{Chunk}
use Rattle.index.specs.declared.Job.{Job}
use Rattle.index.specs.Checks.{fresh, chunks_of, chunk_at, with_chunk, first_word, is_last, span_of}

-- what an accepted opening fixes, and no call changes
pub record Shape (text : List ℕ) (levels : ℕ) (j : Job) (words : List ℕ) : Type 0 where
  pub own : j.n ≡ length text
  pub deep : j.levels ≡ levels
  pub some : 1 ≤ levels
  pub few : levels ≤ 16
  pub filled : 1 ≤ length text
  pub small : length text ≤ 16777216
  pub long : length words ≡ size_of levels (length text)
  pub one : 1 ≤ j.count
  pub many : j.count ≤ 64
  pub room : length j.chunks ≡ 64
  pub first : (chunk_at j 0).cut ≡ 0
  pub even : (k : ℕ) → k < j.count → (chunk_at j k).cut % 64 ≡ 0
  pub inner : (k : ℕ) → k < j.count → (chunk_at j k).cut < length text
  pub rising : (k : ℕ) → suc k < j.count → (chunk_at j k).cut < (chunk_at j (suc k)).cut

-- ---- where they lie

module _ {text : List ℕ} {levels : ℕ} {j : Job} {words : List ℕ} (s : Shape text levels j words) where
  pub count_is : chunks_of j ≡ j.count
  unfolding chunks_of
  count_is = omega (arith, s.many)

  -- a chunk begins at its cut
  pub from_cut : (k : ℕ) → k < j.count → 64 * first_word j (length text) k ≡ (chunk_at j k).cut
  unfolding first_word width_of
  from_cut k l = omega (arith, s.even k l, s.inner k l)

  pub from_zero : first_word j (length text) 0 ≡ 0
  from_zero = omega (arith, from_cut 0 s.one, s.first)

  pub from_within : (k : ℕ) → k < j.count → first_word j (length text) k < width_of (length text)
  unfolding width_of
  from_within k l = omega (arith, from_cut k l, s.inner k l)

  pub is_last_true : (k : ℕ) → suc k ≡ j.count → is_last j k ≡ true
  unfolding is_last
  is_last_true k e = le-leb (chunks_of j) (k + 1) (omega (arith, count_is))

  pub not_last : (k : ℕ) → suc k < j.count → is_last j k ≡ false
  unfolding is_last
  not_last k l = lt-leb (chunks_of j) (k + 1) (omega (arith, count_is))

  pub last_to : (k : ℕ) → suc k ≡ j.count → (span_of j (length text) k).to ≡ width_of (length text)
  unfolding span_of
  last_to k e = rw (is_last_true k e)

  pub next_to : (k : ℕ) → suc k < j.count → (span_of j (length text) k).to ≡ first_word j (length text) (suc k)
  unfolding span_of
  next_to k l = rw (not_last k l, add-one k)

  -- each has at least one word, and ends where the record or the next one does
  pub nonempty : (k : ℕ) → k < j.count → first_word j (length text) k < (span_of j (length text) k).to
  nonempty k l = go (ℕ_discrete (suc k) j.count)
    where
      go : Dec (suc k ≡ j.count) → first_word j (length text) k < (span_of j (length text) k).to
      go (yes e) = omega (arith, last_to k e, from_within k l)
      go (no n) =
          let more : suc k < j.count = omega (arith, n) in
          omega (arith, next_to k more, from_cut k l, from_cut (suc k) more, s.rising k more)

  -- an earlier chunk ends before a later one begins
  pub apart : (k i : ℕ) → k < i → i < j.count → (span_of j (length text) k).to ≤ first_word j (length text) i
  apart k zero l m = absurd (omega arith)
  apart k (suc i) l m = go (ℕ_discrete k i) (λ h. apart k i h (omega arith))
    where
      go : Dec (k ≡ i) → (k < i → (span_of j (length text) k).to ≤ first_word j (length text) i) → (span_of j (length text) k).to ≤ first_word j (length text) (suc i)
      go (yes e) before = omega (arith, next_to i m, ap (λ (x : ℕ). (span_of j (length text) x).to) e)
      go (no n) before = omega (arith, before (omega (arith, n)), nonempty i (omega arith), next_to i m)

  -- every word lies in a chunk
  pub covered : (m w : ℕ) → m < j.count → w < (span_of j (length text) m).to → (k : ℕ) × (k < j.count) × (first_word j (length text) k ≤ w) × (w < (span_of j (length text) k).to)
  covered zero w l h = (0, l, omega (arith, from_zero), h)
  covered (suc m) w l h = go (dec_lt w (first_word j (length text) (suc m))) (λ b. covered m w (omega arith) (omega (arith, next_to m l)))
    where
      go : Dec (w < first_word j (length text) (suc m)) → (w < first_word j (length text) (suc m) → (k : ℕ) × (k < j.count) × (first_word j (length text) k ≤ w) × (w < (span_of j (length text) k).to))
          → (k : ℕ) × (k < j.count) × (first_word j (length text) k ≤ w) × (w < (span_of j (length text) k).to)
      go (yes b) before = before b
      go (no n) before = (suc m, l, omega (arith, lt_of_not-le n), h)

  pub in_chunk : (w : ℕ) → w < width_of (length text) → (k : ℕ) × (k < j.count) × (first_word j (length text) k ≤ w) × (w < (span_of j (length text) k).to)
  in_chunk w h = covered (pred j.count) w (omega (arith, s.one)) (omega (arith, last_to (pred j.count) (omega (arith, s.one))))

-- ---- one chunk anew

module _ (j : Job) (room : length j.chunks ≡ 64) (k : ℕ) (l : k < 64) (c : Chunk) where
  pub chunk_new : chunk_at (with_chunk j k c) k ≡ c
  chunk_new = get_or-set_same j.chunks k c (fresh 0) (omega (arith, room))

  pub chunk_old : (i : ℕ) → (i ≡ k → ⊥) → chunk_at (with_chunk j k c) i ≡ chunk_at j i
  chunk_old i n = get_or-set_other j.chunks k i c (fresh 0) n

  -- a property of the chunks that the new one has too
  pub chunk_any : {A : Type 0} (f : Chunk → A) → f c ≡ f (chunk_at j k) → (i : ℕ) → f (chunk_at (with_chunk j k c) i) ≡ f (chunk_at j i)
  chunk_any f e i = go (ℕ_discrete i k)
    where
      go : Dec (i ≡ k) → f (chunk_at (with_chunk j k c) i) ≡ f (chunk_at j i)
      go (yes p) = ap (λ (x : ℕ). f (chunk_at (with_chunk j k c) x)) p ∙ ap f chunk_new ∙ e ∙ ap (λ (x : ℕ). f (chunk_at j x)) (sym p)
      go (no n) = ap f (chunk_old i n)

  -- no step moves a cut
  module _ (cut : c.cut ≡ (chunk_at j k).cut) where
    pub cut_same : (i : ℕ) → (chunk_at (with_chunk j k c) i).cut ≡ (chunk_at j i).cut
    cut_same = chunk_any (λ (x : Chunk). x.cut) cut

    first_same : (n i : ℕ) → first_word (with_chunk j k c) n i ≡ first_word j n i
    unfolding first_word
    first_same n i = ap (λ (x : ℕ). min (x / 64) (width_of n)) (cut_same i)

    pub span_same : (n i : ℕ) → span_of (with_chunk j k c) n i ≡ span_of j n i
    unfolding span_of is_last chunks_of
    span_same n i = λ t. record { from = first_same n i t; to = ap (λ (x : ℕ). pick (leb (min j.count 64) (i + 1)) (width_of n) x) (first_same n (i + 1)) t }

pub shape_chunk : (text : List ℕ) (levels : ℕ) (j : Job) (words after : List ℕ) (k : ℕ) (c : Chunk) → Shape text levels j words → k < 64 → c.cut ≡ (chunk_at j k).cut → length after ≡ length words
    → Shape text levels (with_chunk j k c) after
shape_chunk text levels j words after k c s l e long =
    let cut = cut_same j s.room k l c e in
    record {
      own = s.own;
      deep = s.deep;
      some = s.some;
      few = s.few;
      filled = s.filled;
      small = s.small;
      long = long ∙ s.long;
      one = s.one;
      many = s.many;
      room = length-set j.chunks k c ∙ s.room;
      first = cut 0 ∙ s.first;
      even = λ i h. ap (λ (x : ℕ). x % 64) (cut i) ∙ s.even i h;
      inner = λ i h. omega (arith, cut i, s.inner i h);
      rising = λ i h. omega (arith, cut i, cut (suc i), s.rising i h);
    }
