-- The demands, as theorems over every run: opened with any lawful cuts over any words, with any guesses, any order of calls, refused ones too.
-- Each follows from `reached_fine`: what calls lead to is good, or closed.
use mathlib.Core.Path.{◌≡◌, refl, sym, ap, ap₂, ◌∙◌, subst}
use mathlib.Core.Bool.{Bool, true, false}
use mathlib.Core.Logic.{◌⊎◌, inl, inr, ◌↔◌}
use mathlib.Core.List.{List}
use Prim.Native.Nat.{ℕ, zero, suc, pred, ◌≤◌, ◌<◌}
use native.Mathlib.Decide.{ℕ_discrete}
use native.Mathlib.Omega.{arith}
use borrow.Author.Tests.{eqb-false}
use lib.ListN.{length, replicate}
use lib.Dec.{eqb}
use Rattle.rules.specs.Word.{word_at}
use Rattle.rules.specs.Faults.{sound, faulty, fault_of}
use Rattle.rules.specs.Layout.{Bitmap, quotes, mask, colons, commas, width_of, size_of, Has, cell, bit_of, index, Promise}
use Rattle.rules.proofs.LayoutLaws.{index_only}
use Rattle.rules.proofs.Booleans.{impossible}
use Rattle.index.specs.declared.Answer.{Answer}
use Rattle.index.specs.declared.Answer.TheVariants.{Done, Refused, Faulty}
use Rattle.index.specs.declared.Refusal.TheVariants.{IsClosed}
use Rattle.index.specs.declared.Fault.{Fault}
use Rattle.index.specs.declared.Fault.TheVariants.{Closer, Opener, InString, InBracket}
use Rattle.index.specs.declared.Job.{Job}
use Rattle.index.specs.Types.{Open, Stopped, Closed}
use Rattle.index.specs.Answers.{fault_number, fault_place}
use Rattle.index.specs.Checks.{chunks_of, chunk_at, first_word, span_of, same_lengths}
use Rattle.index.specs.Closing.{every, all_levelled, closing, closed, closed_words}
use Rattle.index.proofs.CheckLaws.{lengths, lengths_same}
use Rattle.index.proofs.CloseLaws.{closing_closed, close_is}
use Rattle.index.proofs.NumberLaws.{close_fault, close_done}
use Rattle.runs.specs.Runs.{close, Held, answer, act, Reached, Ends, ClosedRun, verdict_of, Right}
use Rattle.runs.proofs.Truth.{ChunkOk, Truth}
use Rattle.runs.proofs.Spans.{Shape, count_is, in_chunk}
use Rattle.runs.proofs.Steps.{both}
use Rattle.runs.proofs.Good.{Good}
use Rattle.runs.proofs.Reach.{Fine, Over, reached_fine}

-- ---- what was reached and is not closed

module _ {text : List ℕ} {levels : ℕ} {h : Held} (r : Reached text levels h) where
  pub good : (h.job.state ≡ Closed → ⊥) → Good text levels h.job h.words
  unfolding Fine Over
  good live = go (reached_fine text levels h r)
    where
      go : Fine text levels h ⊎ Over text levels h → Good text levels h.job h.words
      go (inl g) = g
      go (inr o) = absurd (live o)

  -- "A stopped job's fault is already that one"
  pub stopped_named : (f : Fault) → h.job.state ≡ Stopped f → fault_of text ≡ verdict_of f
  stopped_named f e = (good (λ c. impossible (cc))).stopped f e

  -- once settled, a chunk's inside or outside, its starting depth and what it keeps are those of the rules
  pub border_truth : (h.job.state ≡ Closed → ⊥) → (k : ℕ) → k < h.job.count → (chunk_at h.job k).settled ≡ true → Truth text (chunk_at h.job k) (span_of h.job (length text) k)
  border_truth live k l e = ((good live).ok k l).truth e

  -- "It writes that chunk's quote words": once scanned, they are the rules'
  pub quotes_right : (h.job.state ≡ Closed → ⊥) → (k : ℕ) → k < h.job.count → (chunk_at h.job k).scanned ≡ true → Right text levels h k quotes
  unfolding bit_of
  quotes_right live k l e w low high = ((good live).ok k l).quoted e w (low, high)

  -- "The chunk's mask words become right .., also when a fault is found": once settled, they are the rules', in a stopped job too
  pub mask_right : (h.job.state ≡ Closed → ⊥) → (k : ℕ) → k < h.job.count → (chunk_at h.job k).settled ≡ true → Right text levels h k mask
  unfolding bit_of
  mask_right live k l e w low high = ((good live).ok k l).masked e w (low, high)

  -- "It writes the chunk's colon and comma words at every level": once levelled, they are the rules'
  pub levels_right : (h.job.state ≡ Closed → ⊥) → (k : ℕ) → k < h.job.count → (chunk_at h.job k).levelled ≡ true
      → (d : ℕ) → 1 ≤ d → d ≤ levels → Right text levels h k (colons d) × Right text levels h k (commas d)
  unfolding bit_of
  levels_right live k l e d some few =
      let ok = (good live).ok k l in
      (λ w low high. ok.coloned e d (some, few) w (low, high), λ w low high. ok.comma_ed e d (some, few) w (low, high))

  -- 9 comes exactly when a length is not the job's
  pub lengths_exactly : (h.job.state ≡ Closed → ⊥) → (n w : ℕ) → (same_lengths h.job n w ≡ true) ↔ ((n ≡ length text) × (w ≡ length h.words))
  lengths_exactly live n w = (there, back)
    where
      s : Shape text levels h.job h.words
      s = (good live).shape

      there : same_lengths h.job n w ≡ true → (n ≡ length text) × (w ≡ length h.words)
      there e =
          let l = lengths h.job n w e in
          (l.own ∙ s.own, sym l.total ∙ ap₂ size_of s.deep (l.own ∙ s.own) ∙ sym s.long)

      back : (n ≡ length text) × (w ≡ length h.words) → same_lengths h.job n w ≡ true
      back p =
          lengths_same h.job n w
          (record { own = p.0 ∙ sym s.own; short = omega (arith, s.small, p.0); few = omega (arith, s.few, s.deep); total = ap₂ size_of s.deep p.0 ∙ sym s.long ∙ sym p.1 })

-- ---- demand 2, the bits: "Over a sound record every bit is set exactly where the byte-by-byte rules set it"

pub every_one : (p : ℕ → Bool) (m : ℕ) → every p m ≡ true → (k : ℕ) → k < m → p k ≡ true
unfolding every
every_one p zero e k l = absurd (omega arith)
every_one p (suc m) e k l = go (ℕ_discrete k m) (both (every p m) (p m) e) (λ h d. every_one p m d k h)
  where
    go : Dec (k ≡ m) → (every p m ≡ true) × (p m ≡ true) → (k < m → every p m ≡ true → p k ≡ true) → p k ≡ true
    go (yes q) d rest = ap p q ∙ d.1
    go (no n) d rest = rest (omega (arith, n)) d.0

ends_no : (a : Answer) → Ends a → a ≡ Refused IsClosed → ⊥
ends_no a Ends.done q = impossible (cc)
ends_no a (Ends.fault f) q = impossible (cc)

differ : {A : Type 0} (n m : ℕ) {p q : ℕ} → eqb n m ≡ false → faulty n p ≡ faulty m q → A
differ n m d e = let same : n ≡ m = cc in absurd (eqb-false n m d same)

pub sound_faulty : {A : Type 0} (f : Fault) → sound ≡ verdict_of f → A
unfolding verdict_of
sound_faulty f e = impossible (cc)

-- a closed run: its answer came from a job that was open with all chunks levelled, or stopped
module _ {text : List ℕ} {levels : ℕ} {a : Answer} {after : List ℕ} (c : ClosedRun text levels a after) where
  abbrev h : Held
  h = c.before

  answer_is : answer text close h ≡ (closed h.job (length text) (length h.words)).answer
  unfolding answer
  answer_is = refl

  answer_closing : answer text close h ≡ closing h.job (length text) (length h.words)
  unfolding answer closed
  answer_closing = refl

  words_are : (act text close h).words ≡ closed_words h.job (length text) h.words
  unfolding act
  words_are = refl

  not_over : h.job.state ≡ Closed → ⊥
  unfolding closed
  not_over o = ends_no a c.ends (sym c.answers ∙ answer_is ∙ closing_closed h.job (length text) (length h.words) o)

  pub was_good : Good text levels h.job h.words
  was_good = good c.reached not_over

-- a run that closes Done leaves exactly what close promises: every bit as the rules have it
module _ {text : List ℕ} {levels : ℕ} {after : List ℕ} (c : ClosedRun text levels Done after) where
  abbrev j : Job
  j = c.before.job

  abbrev ws : List ℕ
  ws = c.before.words

  g : Good text levels j ws
  g = was_good c

  done : (j.state ≡ Open) × ((same_lengths j (length text) (length ws) ≡ true) × (all_levelled j ≡ true))
  done = (close_done j (length text) ws).0 (sym (answer_is c) ∙ c.answers)

  levelled : (k : ℕ) → k < j.count → (chunk_at j k).levelled ≡ true
  unfolding all_levelled
  levelled k l = every_one (λ i. (chunk_at j i).levelled) (chunks_of j) done.1.1 k (omega (arith, count_is g.shape))

  left : after ≡ ws
  left = sym c.leaves ∙ words_are c ∙ sym (close_is j (length text) ws Done (sym (answer_closing c) ∙ c.answers)).1

  word_is : (b : Bitmap) → Has levels b → (w : ℕ) → w < width_of (length text) → cell ws levels (width_of (length text)) b w ≡ word_at (bit_of text b) w
  unfolding bit_of span_of
  word_is b h w l = at b h
    where
      found : (k : ℕ) × (k < j.count) × (first_word j (length text) k ≤ w) × (w < (span_of j (length text) k).to)
      found = in_chunk g.shape w l

      ok : ChunkOk text levels (cell ws levels (width_of (length text))) (chunk_at j found.0) (span_of j (length text) found.0)
      ok = g.ok found.0 found.1

      lev : (chunk_at j found.0).levelled ≡ true
      lev = levelled found.0 found.1

      at : (b : Bitmap) → Has levels b → cell ws levels (width_of (length text)) b w ≡ word_at (bit_of text b) w
      at quotes h = ok.quoted (ok.truth (ok.settled_first lev)).scanned_is w (found.2, found.3)
      at mask h = ok.masked (ok.settled_first lev) w (found.2, found.3)
      at (colons k) h = ok.coloned lev k h w (found.2, found.3)
      at (commas k) h = ok.comma_ed lev k h w (found.2, found.3)

  pub bits : Promise text levels after
  bits = subst (Promise text levels) (sym left) (record { long = g.shape.long; holds = word_is })

  -- the words are those of the index, and no others
  pub words_index : after ≡ index text levels
  words_index = index_only text levels after bits

  -- and it closes Done only over a sound record
  pub done_sound : fault_of text ≡ sound
  done_sound =
      let k : ℕ = pred j.count in
      let last : suc k ≡ j.count = omega (arith, g.shape.one) in
      let l : k < j.count = omega (arith, g.shape.one) in
      g.sound_end done.0 k last ((g.ok k l).settled_first (levelled k l))

-- ---- demands 1 and 3: a run that closes with a fault names the record's first, and leaves every word zero

module _ {text : List ℕ} {levels : ℕ} {f : Fault} {after : List ℕ} (c : ClosedRun text levels (Faulty f) after) where
  pub fault_named : fault_of text ≡ verdict_of f
  fault_named = (was_good c).stopped f ((close_fault c.before.job (length text) c.before.words f).0 (sym (answer_is c) ∙ c.answers)).0

  pub fault_zeros : after ≡ replicate (size_of levels (length text)) 0
  fault_zeros =
      sym c.leaves ∙ words_are c
      ∙ sym (close_is c.before.job (length text) c.before.words (Faulty f) (sym (answer_closing c) ∙ c.answers)).1
      ∙ ap (λ (n : ℕ). replicate n 0) (was_good c).shape.long

-- ---- demand 3: "they give the same answer and the same words"

pub same_fault : (f g : Fault) → verdict_of f ≡ verdict_of g → f ≡ g
unfolding verdict_of
same_fault (Closer p) (Closer q) e = cc
same_fault (Closer p) (Opener q) e = differ 13 14 refl e
same_fault (Closer p) (InString q) e = differ 13 15 refl e
same_fault (Closer p) (InBracket q) e = differ 13 16 refl e
same_fault (Opener p) (Closer q) e = differ 14 13 refl e
same_fault (Opener p) (Opener q) e = cc
same_fault (Opener p) (InString q) e = differ 14 15 refl e
same_fault (Opener p) (InBracket q) e = differ 14 16 refl e
same_fault (InString p) (Closer q) e = differ 15 13 refl e
same_fault (InString p) (Opener q) e = differ 15 14 refl e
same_fault (InString p) (InString q) e = cc
same_fault (InString p) (InBracket q) e = differ 15 16 refl e
same_fault (InBracket p) (Closer q) e = differ 16 13 refl e
same_fault (InBracket p) (Opener q) e = differ 16 14 refl e
same_fault (InBracket p) (InString q) e = differ 16 15 refl e
same_fault (InBracket p) (InBracket q) e = cc

pub one_outcome : {text : List ℕ} {levels : ℕ} {a b : Answer} {after also : List ℕ} → ClosedRun text levels a after → ClosedRun text levels b also → (a ≡ b) × (after ≡ also)
one_outcome {text} {levels} {a} {b} {after} {also} c d = go a b c.ends d.ends c d
  where
    go : (a b : Answer) → Ends a → Ends b → ClosedRun text levels a after → ClosedRun text levels b also → (a ≡ b) × (after ≡ also)
    go a b Ends.done Ends.done x y = (refl, words_index x ∙ sym (words_index y))
    go a b Ends.done (Ends.fault f) x y = sound_faulty f (sym (done_sound x) ∙ fault_named y)
    go a b (Ends.fault f) Ends.done x y = sound_faulty f (sym (done_sound y) ∙ fault_named x)
    go a b (Ends.fault f) (Ends.fault e) x y = (ap Faulty (same_fault f e (sym (fault_named x) ∙ fault_named y)), fault_zeros x ∙ sym (fault_zeros y))

-- ---- by the record, and not by the answer

-- "Over a sound record": a run that was closed was answered Done, and left the index
pub sound_closes : {text : List ℕ} {levels : ℕ} {a : Answer} {after : List ℕ} → fault_of text ≡ sound → ClosedRun text levels a after → (a ≡ Done) × (after ≡ index text levels)
sound_closes {text} {levels} {a} {after} s c = go a c.ends c
  where
    go : (a : Answer) → Ends a → ClosedRun text levels a after → (a ≡ Done) × (after ≡ index text levels)
    go a Ends.done x = (refl, words_index x)
    go a (Ends.fault f) x = sound_faulty f (sym s ∙ fault_named x)

-- "A job closed over a faulty record": it was answered the record's first fault, its number and its place, and left "all its words zero"
pub faulty_closes : {text : List ℕ} {levels : ℕ} {a : Answer} {after : List ℕ} {n p : ℕ} → fault_of text ≡ faulty n p → ClosedRun text levels a after
    → (f : Fault) × (a ≡ Faulty f) × (fault_number f ≡ n) × (fault_place f ≡ p) × (after ≡ replicate (size_of levels (length text)) 0)
unfolding verdict_of
faulty_closes {text} {levels} {a} {after} {n} {p} s c = go a c.ends c
  where
    go : (a : Answer) → Ends a → ClosedRun text levels a after → (f : Fault) × (a ≡ Faulty f) × (fault_number f ≡ n) × (fault_place f ≡ p) × (after ≡ replicate (size_of levels (length text)) 0)
    go a Ends.done x =
        let e : sound ≡ faulty n p = sym (done_sound x) ∙ s in
        impossible (cc)
    go a (Ends.fault f) x =
        let e : faulty (fault_number f) (fault_place f) ≡ faulty n p = sym (fault_named x) ∙ s in
        (f, refl, cc, cc, fault_zeros x)
