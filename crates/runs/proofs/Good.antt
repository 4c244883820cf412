-- What is true of every job that calls have led to and that is not closed: its shape, each chunk by its steps, the settled ones a front part
-- without a fault, and a stopped job's fault the record's first. Any step on one chunk that keeps its own part keeps it all.
use mathlib.Core.Path.{◌≡◌, refl, sym, ap, ◌∙◌, subst, subst₂}
use mathlib.Core.Bool.{true}
use mathlib.Core.Logic.{◌⊎◌, inl, inr}
use mathlib.Core.List.{List}
use Prim.Native.Nat.{ℕ, suc, ◌≤◌, ◌<◌}
use native.Mathlib.Decide.{ℕ_discrete, dec_lt}
use native.Mathlib.Nat.{lt_of_not-le}
use native.Mathlib.Omega.{arith}
use lib.ListN.{length}
use Rattle.rules.specs.Faults.{sound, fault_of}
use Rattle.rules.specs.Layout.{Bitmap, width_of, Has, cell}
use Rattle.index.specs.declared.Fault.{Fault}
use Rattle.index.specs.declared.Job.{Job}
use Rattle.index.specs.Types.{Chunk, State, Open, Stopped, Closed, Span}
use Rattle.index.specs.Checks.{chunks_of, chunk_at, with_chunk, with_state, first_word, is_last, span_of, settled_before}
use Rattle.index.proofs.CheckLaws.{span_within}
use Rattle.runs.specs.Runs.{verdict_of}
use Rattle.runs.proofs.Truth.{InSpan, ChunkOk, ok_frame, Clear}
use Rattle.runs.proofs.Spans.{Shape, apart, chunk_new, chunk_old, span_same, shape_chunk}

pub record Good (text : List ℕ) (levels : ℕ) (j : Job) (words : List ℕ) : Type 0 where
  pub shape : Shape text levels j words
  pub ok : (k : ℕ) → k < j.count → ChunkOk text levels (cell words levels (width_of (length text))) (chunk_at j k) (span_of j (length text) k)
  pub front : (k : ℕ) → suc k < j.count → (chunk_at j (suc k)).settled ≡ true → (chunk_at j k).settled ≡ true
  pub clear : j.state ≡ Open → (k : ℕ) → k < j.count → (chunk_at j k).settled ≡ true → Clear text (chunk_at j k) (span_of j (length text) k)
  pub sound_end : j.state ≡ Open → (k : ℕ) → suc k ≡ j.count → (chunk_at j k).settled ≡ true → fault_of text ≡ sound
  pub stopped : (f : Fault) → j.state ≡ Stopped f → fault_of text ≡ verdict_of f
  pub live : j.state ≡ Closed → ⊥

-- the state does not move a chunk
span_state : (j : Job) (st : State) (n k : ℕ) → span_of (with_state j st) n k ≡ span_of j n k
unfolding span_of first_word is_last chunks_of
span_state j st n k = refl

module _ {text : List ℕ} {levels : ℕ} {j : Job} {words : List ℕ} (g : Good text levels j words) (k : ℕ) (l : k < j.count) (c : Chunk) (after : List ℕ) (st : State)
    (open-before : j.state ≡ Open)
    (cut : c.cut ≡ (chunk_at j k).cut)
    (long : length after ≡ length words)
    (frame : (b : Bitmap) → Has levels b → (w : ℕ) → w < width_of (length text) → (w < (span_of j (length text) k).from) ⊎ ((span_of j (length text) k).to ≤ w)
    → cell after levels (width_of (length text)) b w ≡ cell words levels (width_of (length text)) b w)
    (new_ok : ChunkOk text levels (cell after levels (width_of (length text))) c (span_of j (length text) k))
    (in_order : c.settled ≡ true → settled_before j k ≡ true)
    (stays : (chunk_at j k).settled ≡ true → c.settled ≡ true)
    (new-clear : st ≡ Open → c.settled ≡ true → Clear text c (span_of j (length text) k))
    (new-sound : st ≡ Open → suc k ≡ j.count → c.settled ≡ true → fault_of text ≡ sound)
    (new-stopped : (f : Fault) → st ≡ Stopped f → fault_of text ≡ verdict_of f)
    (new-live : st ≡ Closed → ⊥) where
  abbrev next : Job
  next = with_state (with_chunk j k c) st

  few : k < 64
  few = omega (arith, g.shape.many)

  same_span : (i : ℕ) → span_of next (length text) i ≡ span_of j (length text) i
  same_span i = span_state (with_chunk j k c) st (length text) i ∙ span_same j g.shape.room k few c cut (length text) i

  -- a property of a chunk and its span, at the chunk and at the others
  at_new : (P : Chunk → Span → Type 0) → P c (span_of j (length text) k) → (i : ℕ) → i ≡ k → P (chunk_at next i) (span_of next (length text) i)
  at_new P p i e =
      subst₂ P (sym (ap (chunk_at next) e ∙ chunk_new j g.shape.room k few c)) (sym (same_span i ∙ ap (span_of j (length text)) e)) p

  at_old : (P : Chunk → Span → Type 0) (i : ℕ) → (i ≡ k → ⊥) → P (chunk_at j i) (span_of j (length text) i) → P (chunk_at next i) (span_of next (length text) i)
  at_old P i n p = subst₂ P (sym (chunk_old j g.shape.room k few c i n)) (sym (same_span i)) p

  -- the words of another chunk are not among those of this one
  elsewhere : (i : ℕ) → i < j.count → (i ≡ k → ⊥) → (w : ℕ) → InSpan (span_of j (length text) i) w → (w < (span_of j (length text) k).from) ⊎ ((span_of j (length text) k).to ≤ w)
  unfolding span_of
  elsewhere i h n w m = go (dec_lt i k)
    where
      go : Dec (i < k) → (w < first_word j (length text) k) ⊎ ((span_of j (length text) k).to ≤ w)
      go (yes b) = inl (omega (arith, apart g.shape i k b l, m.1))
      go (no b) = inr (omega (arith, apart g.shape k i (omega (arith, n, lt_of_not-le b)) h, m.0))

  in_width : (i : ℕ) (w : ℕ) → InSpan (span_of j (length text) i) w → w < width_of (length text)
  in_width i w m = omega (arith, m.1, (span_within j (length text) i).1)

  next_ok : (i : ℕ) → i < j.count → ChunkOk text levels (cell after levels (width_of (length text))) (chunk_at next i) (span_of next (length text) i)
  next_ok i h = go (ℕ_discrete i k)
    where
      P : Chunk → Span → Type 0
      P = ChunkOk text levels (cell after levels (width_of (length text)))

      go : Dec (i ≡ k) → P (chunk_at next i) (span_of next (length text) i)
      go (yes e) = at_new P new_ok i e
      go (no n) = at_old P i n (ok_frame (λ b has w m. frame b has w (in_width i w m) (elsewhere i h n w m)) (g.ok i h))

  settled_next : (i : ℕ) → (chunk_at j i).settled ≡ true → (chunk_at next i).settled ≡ true
  settled_next i e = go (ℕ_discrete i k)
    where
      go : Dec (i ≡ k) → (chunk_at next i).settled ≡ true
      go (yes q) = at_new (λ x y. x.settled ≡ true) (stays (ap (λ (y : ℕ). (chunk_at j y).settled) (sym q) ∙ e)) i q
      go (no n) = at_old (λ x y. x.settled ≡ true) i n e

  before_here : (m : ℕ) → suc m ≡ k → settled_before j k ≡ true → (chunk_at j m).settled ≡ true
  before_here m e q = subst (λ (x : ℕ). settled_before j x ≡ true) (sym e) q

  next_front : (i : ℕ) → suc i < j.count → (chunk_at next (suc i)).settled ≡ true → (chunk_at next i).settled ≡ true
  next_front i h e = settled_next i (go (ℕ_discrete (suc i) k))
    where
      go : Dec (suc i ≡ k) → (chunk_at j i).settled ≡ true
      go (yes q) = before_here i q (in_order (sym (ap (λ (x : Chunk). x.settled) (ap (chunk_at next) q ∙ chunk_new j g.shape.room k few c)) ∙ e))
      go (no n) = g.front i h (sym (ap (λ (x : Chunk). x.settled) (chunk_old j g.shape.room k few c (suc i) n)) ∙ e)

  next_clear : st ≡ Open → (i : ℕ) → i < j.count → (chunk_at next i).settled ≡ true → Clear text (chunk_at next i) (span_of next (length text) i)
  next_clear o i h e = go (ℕ_discrete i k)
    where
      go : Dec (i ≡ k) → Clear text (chunk_at next i) (span_of next (length text) i)
      go (yes q) = at_new (Clear text) (new-clear o (sym (ap (λ (x : Chunk). x.settled) (ap (chunk_at next) q ∙ chunk_new j g.shape.room k few c)) ∙ e)) i q
      go (no n) = at_old (Clear text) i n (g.clear open-before i h (sym (ap (λ (x : Chunk). x.settled) (chunk_old j g.shape.room k few c i n)) ∙ e))

  next_sound : st ≡ Open → (i : ℕ) → suc i ≡ j.count → (chunk_at next i).settled ≡ true → fault_of text ≡ sound
  next_sound o i h e = go (ℕ_discrete i k)
    where
      go : Dec (i ≡ k) → fault_of text ≡ sound
      go (yes q) = new-sound o (ap suc (sym q) ∙ h) (sym (ap (λ (x : Chunk). x.settled) (ap (chunk_at next) q ∙ chunk_new j g.shape.room k few c)) ∙ e)
      go (no n) = g.sound_end open-before i h (sym (ap (λ (x : Chunk). x.settled) (chunk_old j g.shape.room k few c i n)) ∙ e)

  next_shape : Shape text levels next after
  next_shape =
      let s = shape_chunk text levels j words after k c g.shape few cut long in
      record {
        own = s.own;
        deep = s.deep;
        some = s.some;
        few = s.few;
        filled = s.filled;
        small = s.small;
        long = s.long;
        one = s.one;
        many = s.many;
        room = s.room;
        first = s.first;
        even = s.even;
        inner = s.inner;
        rising = s.rising;
      }

  pub good_step : Good text levels next after
  good_step = record { shape = next_shape; ok = next_ok; front = next_front; clear = next_clear; sound_end = next_sound; stopped = new-stopped; live = new-live }
