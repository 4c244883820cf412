-- What an accepted settle answers, the record's first fault exactly when it lies in the chunk, and what it leaves, whatever it answers.
use Rattle.std.specs.Prelude.{Option, Some, None, Err}
use mathlib.Core.Path.{◌≡◌, refl, sym, ap, ◌∙◌}
use mathlib.Core.Bool.{Bool, true, false, ◌||◌}
use mathlib.Core.Logic.{◌↔◌}
use mathlib.Core.List.{List}
use Prim.Native.Nat.{ℕ, zero, suc, ◌+◌, ◌*◌, ◌-◌, ◌≤◌, ◌<◌, min}
use native.Mathlib.Decide.{ℕ_discrete}
use native.Mathlib.Omega.{arith}
use lib.ListN.{length}
use lib.IntN.{pos, ◌+ℤ◌}
use lib.Dec.{eqb, ltb}
use Rattle.rules.specs.Word.{pick, xor}
use Rattle.rules.specs.Bits.{in_string, at_depth}
use Rattle.rules.specs.Faults.{sound, faulty, closes_none, opens_over, at_end, fault_from, fault_of}
use Rattle.rules.specs.Layout.{mask}
use Rattle.rules.proofs.Booleans.{impossible}
use Rattle.index.specs.declared.Answer.TheVariants.{Done, Faulty}
use Rattle.index.specs.declared.Fault.{Fault}
use Rattle.index.specs.declared.Fault.TheVariants.{InString, InBracket}
use Rattle.index.specs.declared.Job.{Job}
use Rattle.index.specs.Types.{Chunk, Span, Open, Closed, Settle}
use Rattle.index.specs.Answers.{fault_place}
use Rattle.index.specs.Checks.{chunk_at, with_chunk, is_last, span_of, refusal}
use Rattle.index.specs.Depth.{clamp_depth}
use Rattle.index.specs.Settling.{limit_of, fault_of_bracket, depth_past, seek, seek_in, announced, of_sought, sought_fault, end_fault, or_found, chunk_fault, settle_words, settle_chunk, found_by, found_job, settled, settled_words}
use Rattle.index.proofs.Cases.{found_case}
use Rattle.index.proofs.CheckLaws.{accepted}
use Rattle.index.proofs.NumberLaws.{settle_fault}
use Rattle.runs.specs.Runs.{settle, Held, answer, act, Reached, verdict_of, LiesIn, Right}
use Rattle.runs.proofs.Truth.{Truth}
use Rattle.runs.proofs.Spans.{Shape, count_is, from_cut, not_last, next_to, chunk_new, span_same}
use Rattle.runs.proofs.Steps.{clash}
use Rattle.runs.proofs.Good.{Good}
use Rattle.runs.proofs.Calls.{announced_found}
use Rattle.runs.proofs.Reach.{Fine, settle_fine}
use Rattle.runs.proofs.Theorems.{good, stopped_named, border_truth, mask_right, sound_faulty, same_fault}
use Rattle.runs.proofs.Progress.{reach_more, settle_live}

-- ---- a fault that settle answers is the record's

pub settle_named : {text : List ℕ} {levels : ℕ} {h : Held} → Reached text levels h → (k : ℕ) (f : Fault) → answer text (settle k) h ≡ Faulty f → fault_of text ≡ verdict_of f
unfolding answer act settled
settle_named {text} {levels} {h} r k f e =
    let found = (settle_fault h.job text h.words k f).0 e in
    stopped_named (reach_more (settle k) r) f (rw (found.0, found.1) refl)

-- over a sound record an accepted settle finds nothing
pub settle_done : {text : List ℕ} {levels : ℕ} {h : Held} → fault_of text ≡ sound → Reached text levels h → (k : ℕ) → refusal Settle h.job (length text) (length h.words) k ≡ Done → answer text (settle k) h ≡ Done
unfolding answer settled
settle_done {text} {levels} {h} s r k e =
    found_case (λ x. found_by h.job text (settle_words h.job text h.words k) k ≡ x → answer text (settle k) h ≡ Done) (λ q. rw (e, q) refl)
    (λ f q. sound_faulty f (sym s ∙ settle_named r k f (rw (e, q) refl))) (found_by h.job text (settle_words h.job text h.words k) k) refl

-- the kept counts announce a fault in the chunk exactly when its place is found
pub announced_exactly : {text : List ℕ} {levels : ℕ} {h : Held} → Reached text levels h → (k : ℕ) → refusal Settle h.job (length text) (length h.words) k ≡ Done
    → let after = settle_words h.job text h.words k in
    let c = settle_chunk h.job text after k in
    (announced c ≡ true) ↔ ((f : Fault) × (sought_fault c text after levels (span_of h.job (length text) k) ≡ Some f))
announced_exactly {text} {levels} {h} r k e =
    let o = (accepted Settle h.job (length text) (length h.words) k e).opened in
    announced_found (good r (λ c. impossible (cc))) k e

-- ---- what settle finds lies in the chunk

no_fault : {A : Type 0} {f : Fault} → None ≡ Some f → A
no_fault e = impossible (cc)

bracket_place : (b : Bool) (i : ℕ) → fault_place (fault_of_bracket b i) ≡ i
bracket_place true i = refl
bracket_place false i = refl

-- a walk meets a fault at one of its places
seek_place : (o c : ℕ → Bool) (m d i : ℕ) (f : Fault) → of_sought (seek o c d i m) ≡ Some f → (i ≤ fault_place f) × (fault_place f < i + m)
unfolding seek
seek_place o c zero d i f e = no_fault e
seek_place o c (suc m) d i f e = go (o i || c i) (eqb d (limit_of (o i))) e (λ x q. seek_place o c m x (suc i) f q)
  where
    go : (a b : Bool) → of_sought (pick a (pick b (Err (fault_of_bracket (o i) i)) (seek o c (depth_past (o i) d) (suc i) m)) (seek o c d (suc i) m)) ≡ Some f
        → ((x : ℕ) → of_sought (seek o c x (suc i) m) ≡ Some f → (suc i ≤ fault_place f) × (fault_place f < suc i + m)) → (i ≤ fault_place f) × (fault_place f < i + suc m)
    go true true q rest =
        let same : fault_of_bracket (o i) i ≡ f = cc in
        let here : i ≡ fault_place f = sym (bracket_place (o i) i) ∙ ap fault_place same in
        (omega (arith, here), omega (arith, here))
    go true false q rest = let r = rest (depth_past (o i) d) q in (omega (arith, r.0), omega (arith, r.1))
    go false b q rest = let r = rest d q in (omega (arith, r.0), omega (arith, r.1))

sought_place : (c : Chunk) (text words : List ℕ) (levels : ℕ) (s : Span) (f : Fault) → sought_fault c text words levels s ≡ Some f → (64 * s.from ≤ fault_place f) × (fault_place f < 64 * s.to)
unfolding sought_fault seek_in
sought_place c text words levels s f e = go (announced c) e
  where
    go : (b : Bool) → pick b (of_sought (seek_in text words levels s.from s.to c.start)) None ≡ Some f → (64 * s.from ≤ fault_place f) × (fault_place f < 64 * s.to)
    go true q = let r = seek_place _ _ (64 * (s.to - s.from)) c.start (64 * s.from) f q in (r.0, omega (arith, r.0, r.1))
    go false q = no_fault q

end_place : (c : Chunk) (n : ℕ) (f : Fault) → end_fault c n ≡ Some f → fault_place f ≡ n
unfolding end_fault
end_place c n f e = go (xor c.inside c.kept.odd) (ltb 0 (clamp_depth (pos c.start +ℤ c.kept.net))) e
  where
    go : (a b : Bool) → pick a (Some (InString n)) (pick b (Some (InBracket n)) None) ≡ Some f → fault_place f ≡ n
    go true b q = let same : InString n ≡ f = cc in ap fault_place (sym same)
    go false true q = let same : InBracket n ≡ f = cc in ap fault_place (sym same)
    go false false q = no_fault q

found_place : (j : Job) (text words : List ℕ) (k : ℕ) (f : Fault) → found_by j text words k ≡ Some f → LiesIn j (length text) k (fault_place f)
unfolding found_by chunk_fault
found_place j text words k f e = found_case (λ x. sought_fault c text words j.levels s ≡ x → or_found x (pick (is_last j k) (end_fault c (length text)) None) ≡ Some f → LiesIn j (length text) k (fault_place f)) (λ p q. ends (is_last j k) refl q)
    (λ x p q. let r = sought_place c text words j.levels s f (p ∙ q) in LiesIn.among r.0 r.1) (sought_fault c text words j.levels s) refl e
  where
    c : Chunk
    c = settle_chunk j text words k

    s : Span
    s = span_of j (length text) k

    ends : (b : Bool) → is_last j k ≡ b → pick b (end_fault c (length text)) None ≡ Some f → LiesIn j (length text) k (fault_place f)
    ends true p q = LiesIn.at_the_end p (end_place c (length text) f q)
    ends false p q = no_fault q

-- ---- what lies in the chunk is found

-- the first fault from a place on lies there or later
fault_later : (text : List ℕ) (r a : ℕ) (f : Fault) → fault_from text a r ≡ verdict_of f → a ≤ fault_place f
unfolding fault_from verdict_of at_end
fault_later text zero a f e = go (in_string text a) (at_depth text 0 a) e
  where
    go : (x y : Bool) → pick x (faulty 15 a) (pick y sound (faulty 16 a)) ≡ verdict_of f → a ≤ fault_place f
    go true y q = let same : a ≡ fault_place f = cc in omega (arith, same)
    go false true q = sound_faulty f q
    go false false q = let same : a ≡ fault_place f = cc in omega (arith, same)
fault_later text (suc r) a f e = go (closes_none text a) (opens_over text a) e (fault_later text r (suc a) f)
  where
    go : (x y : Bool) → pick x (faulty 13 a) (pick y (faulty 14 a) (fault_from text (suc a) r)) ≡ verdict_of f → (fault_from text (suc a) r ≡ verdict_of f → suc a ≤ fault_place f) → a ≤ fault_place f
    go true y q rest = let same : a ≡ fault_place f = cc in omega (arith, same)
    go false true q rest = let same : a ≡ fault_place f = cc in omega (arith, same)
    go false false q rest = omega (arith, rest q)

pub found_chunk : (x : Option Fault) (j : Job) (k : ℕ) → chunk_at (found_job x j) k ≡ chunk_at j k
found_chunk x j k = found_case (λ y. chunk_at (found_job y j) k ≡ chunk_at j k) refl (λ f. refl) x

found_count : (x : Option Fault) (j : Job) → (found_job x j).count ≡ j.count
found_count x j = found_case (λ y. (found_job y j).count ≡ j.count) refl (λ f. refl) x

module _ {text : List ℕ} {levels : ℕ} {h : Held} (r : Reached text levels h) (k : ℕ) (e : refusal Settle h.job (length text) (length h.words) k ≡ Done) where
  abbrev j : Job
  j = h.job

  abbrev after : List ℕ
  after = settle_words j text h.words k

  o : j.state ≡ Open
  o = (accepted Settle j (length text) (length h.words) k e).opened

  unclosed : j.state ≡ Closed → ⊥
  unclosed c = let p = o in impossible (cc)

  fine : Good text levels j h.words
  fine = good r unclosed

  s : Shape text levels j h.words
  s = fine.shape

  l : k < j.count
  l = omega (arith, (accepted Settle j (length text) (length h.words) k e).chunk, count_is s)

  few : k < 64
  few = omega (arith, l, s.many)

  -- where nothing is found, the job is good as before, and the chunk settled
  gone_on : found_by j text after k ≡ None → Good text levels (with_chunk j k (settle_chunk j text after k)) after
  unfolding Fine act settled settled_words
  gone_on q = rw (e, q) at (settle_fine text levels k h fine)

  is_settled : (chunk_at (with_chunk j k (settle_chunk j text after k)) k).settled ≡ true
  unfolding settle_chunk
  is_settled = ap (λ (x : Chunk). x.settled) (chunk_new j s.room k few (settle_chunk j text after k))

  same_span : span_of (with_chunk j k (settle_chunk j text after k)) (length text) k ≡ span_of j (length text) k
  unfolding settle_chunk
  same_span = span_same j s.room k few (settle_chunk j text after k) refl (length text) k

  none_here : found_by j text after k ≡ None → (f : Fault) → fault_of text ≡ verdict_of f → LiesIn j (length text) k (fault_place f) → ⊥
  none_here q f named lies = go (ℕ_discrete (suc k) j.count) lies
    where
      go : Dec (suc k ≡ j.count) → LiesIn j (length text) k (fault_place f) → ⊥
      go (yes last) lies = sound_faulty f (sym ((gone_on q).sound_end o k last is_settled) ∙ named)
      go (no n) (LiesIn.at_the_end last p) = clash (is_last j k) last (not_last s k (omega (arith, n, l)))
      go (no n) (LiesIn.among low high) =
          let more : suc k < j.count = omega (arith, n, l) in
          let to : ℕ = (span_of j (length text) k).to in
          let clear = ((gone_on q).clear o k l is_settled).none_yet in
          let moved : (span_of (with_chunk j k (settle_chunk j text after k)) (length text) k).to ≡ to = ap (λ (x : Span). x.to) same_span in
          let short : min (64 * (span_of (with_chunk j k (settle_chunk j text after k)) (length text) k).to) (length text) ≡ 64 * to =
          omega (arith, moved, next_to s k more, from_cut s (suc k) more, s.inner (suc k) more) in
          omega (arith, high, short, fault_later text _ _ f (sym clear ∙ named))

  -- "If the record has a fault here, the job stops with it": an accepted settle answers a fault exactly when it is the record's first,
  -- number and place, and lies in the chunk
  pub settle_exactly : (f : Fault) → (answer text (settle k) h ≡ Faulty f) ↔ ((fault_of text ≡ verdict_of f) × LiesIn j (length text) k (fault_place f))
  unfolding answer
  settle_exactly f = (there, λ x. found_case (λ y. found_by j text after k ≡ y → (settled j text h.words k).answer ≡ Faulty f) (λ q. absurd (none_here q f x.0 x.1)) (back x.0) (found_by j text after k) refl)
    where
      there : (settled j text h.words k).answer ≡ Faulty f → (fault_of text ≡ verdict_of f) × LiesIn j (length text) k (fault_place f)
      there a = (settle_named r k f a, found_place j text after k f ((settle_fault j text h.words k f).0 a).1)

      back : fault_of text ≡ verdict_of f → (x : Fault) → found_by j text after k ≡ Some x → (settled j text h.words k).answer ≡ Faulty f
      back named x q =
          let a = (settle_fault j text h.words k x).1 (e, q) in
          a ∙ ap Faulty (same_fault x f (sym (settle_named r k x a) ∙ named))

  -- ---- what it leaves, whatever it answers

  now_settled : (chunk_at (act text (settle k) h).job k).settled ≡ true
  unfolding act settled
  now_settled = rw e (ap (λ (x : Chunk). x.settled) (found_chunk (found_by j text after k) (with_chunk j k (settle_chunk j text after k)) k) ∙ is_settled)

  now_chunk : k < (act text (settle k) h).job.count
  unfolding act settled
  now_chunk = rw e (omega (arith, l, found_count (found_by j text after k) (with_chunk j k (settle_chunk j text after k))))

  now_live : (act text (settle k) h).job.state ≡ Closed → ⊥
  now_live = settle_live r unclosed k

  -- "The chunk's mask words become right and its starting depth is fixed, also when a fault is found"
  pub settle_right : Right text levels (act text (settle k) h) k mask
  settle_right = mask_right (reach_more (settle k) r) now_live k now_chunk now_settled

  pub settle_fixes : Truth text (chunk_at (act text (settle k) h).job k) (span_of (act text (settle k) h).job (length text) k)
  settle_fixes = border_truth (reach_more (settle k) r) now_live k now_chunk now_settled
