-- Every accepted step leads from a good job to a good job. Scan and level keep the state; settle stops the job exactly with the record's
-- first fault.
use Rattle.std.specs.Prelude.{Option, Some, None}
use mathlib.Core.Path.{◌≡◌, refl, sym, ap, ap₂, ◌∙◌, subst}
use mathlib.Core.Bool.{Bool, true, false}
use mathlib.Core.Logic.{◌⊎◌, inl, inr, ◌↔◌}
use mathlib.Core.List.{List}
use Prim.Native.Nat.{ℕ, zero, suc, ◌*◌, ◌-◌, ◌≤◌, ◌<◌, min}
use native.Mathlib.Nat.{le_trans}
use native.Mathlib.Decide.{ℕ_discrete}
use native.Mathlib.Omega.{arith}
use lib.ListN.{length}
use Rattle.rules.specs.Word.{pick, odd, count}
use Rattle.rules.specs.Bits.{in_string}
use Rattle.rules.specs.Faults.{sound, at_end, fault_from, fault_of}
use Rattle.rules.specs.Layout.{Bitmap, width_of, size_of, Has, cell}
use Rattle.rules.proofs.Booleans.{impossible}
use Rattle.index.specs.declared.Answer.TheVariants.{Done}
use Rattle.index.specs.declared.Fault.{Fault}
use Rattle.index.specs.declared.Job.{Job}
use Rattle.index.specs.Types.{Chunk, State, Open, Stopped, Closed, Step, Scan, Settle, Level, Span}
use Rattle.index.specs.Checks.{chunk_at, with_chunk, with_state, first_word, is_last, span_of, settled_before, refusal}
use Rattle.chunks.specs.Writing.{marks_till, levels_till, rewritten}
use Rattle.chunks.specs.Sweeping.{scan_word, scan_words}
use Rattle.index.specs.Scanning.{scan_chunk}
use Rattle.chunks.specs.Flipping.{flip_word, flip_words}
use Rattle.index.specs.Settling.{inside_of, start_depth, guess_wrong, settle_words, settle_chunk, announced, sought_fault, end_fault, chunk_fault, found_job, found_by}
use Rattle.chunks.specs.Levels.{level_word, level_words}
use Rattle.index.specs.Levelling.{level_chunk}
use Rattle.index.proofs.CheckLaws.{Accepted, accepted, span_within}
use Rattle.index.proofs.SettleLaws.{fault_sought}
use Rattle.runs.specs.Runs.{verdict_of}
use Rattle.runs.proofs.Walks.{Depth}
use Rattle.runs.proofs.Truth.{Truth, Clear}
use Rattle.runs.proofs.Spans.{count_is, from_cut, from_zero, is_last_true, not_last, last_to, next_to, nonempty}
use Rattle.runs.proofs.Border.{inside_behind, depth_behind, InChunk, nothing, here, in_chunk, AtLast, well, ill, at_last}
use Rattle.runs.proofs.Words.{new_cells, cell_out, marks_till_le, levels_till_le}
use Rattle.runs.proofs.Steps.{clash, both, unsettled, scan_ok, settle_bits, settle_truth, settle_ok, level_ok}
use Rattle.runs.proofs.Good.{Good, good_step}

never : {A : Type 0} {s : State} {f : Fault} → s ≡ Open → s ≡ Stopped f → A
never p q = impossible (cc)

not_closed : {s : State} → s ≡ Open → s ≡ Closed → ⊥
not_closed p q = impossible (cc)

-- words written over are as many, and elsewhere as they were
module _ (text words : List ℕ) (levels : ℕ) (long : length words ≡ size_of levels (length text)) (s : Span) (till : Bitmap → ℕ) (f : Bitmap → ℕ → ℕ) (within : (b : Bitmap) → till b ≤ s.to) where
  as_long : length (rewritten levels (width_of (length text)) till s.from f words) ≡ length words
  unfolding size_of
  as_long = (new_cells levels (width_of (length text)) till s.from f words).long ∙ sym long

  elsewhere : (b : Bitmap) → Has levels b → (w : ℕ) → w < width_of (length text) → (w < s.from) ⊎ (s.to ≤ w)
      → cell (rewritten levels (width_of (length text)) till s.from f words) levels (width_of (length text)) b w ≡ cell words levels (width_of (length text)) b w
  elsewhere b h w l (inl p) = cell_out levels (width_of (length text)) till s.from f words b h w l (inl p)
  elsewhere b h w l (inr p) = cell_out levels (width_of (length text)) till s.from f words b h w l (inr (le_trans (within b) p))

nothing_here : {A : Type 0} {f : Fault} → None ≡ Some f → A
nothing_here e = impossible (cc)

same_fault : {f h : Fault} → Stopped f ≡ Stopped h → f ≡ h
same_fault e = cc

stopped_closed : {f : Fault} → Stopped f ≡ Closed → ⊥
stopped_closed e = impossible (cc)

width_past : (n t : ℕ) → t ≡ width_of n → n ≤ 64 * t
unfolding width_of
width_past n t e = omega arith

end_from : (text : List ℕ) (e : ℕ) → length text ≤ e → fault_from text (min e (length text)) (length text - min e (length text)) ≡ at_end text (length text)
unfolding fault_from
end_from text e h =
    let m : min e (length text) ≡ length text = omega arith in
    let z : length text - min e (length text) ≡ 0 = omega arith in
    ap₂ (fault_from text) m z

first_inside : (text : List ℕ) → false ≡ in_string text 0
unfolding in_string count odd
first_inside text = refl

first_depth : (text : List ℕ) → Depth text 0 0
unfolding Depth count
first_depth text = refl

module _ {text : List ℕ} {levels : ℕ} {j : Job} {words : List ℕ} (g : Good text levels j words) (k : ℕ) where
  abbrev s : Span
  s = span_of j (length text) k

  abbrev c : Chunk
  c = chunk_at j k

  deep : j.levels ≡ levels
  deep = g.shape.deep

  inside : s.to ≤ width_of (length text)
  inside = (span_within j (length text) k).1

  below : (st : Step) → Accepted st j (length text) (length words) k → k < j.count
  below st a = omega (arith, a.chunk, count_is g.shape)

  -- ---- scan
  module _ (x : Bool) (e : refusal Scan j (length text) (length words) k ≡ Done) where
    scanned : List ℕ
    scanned = scan_words text j.levels s.from s.to x words

    scan_is : scanned ≡ rewritten levels (width_of (length text)) (marks_till s.to s.to) s.from (scan_word text x s.from) words
    unfolding scanned scan_words
    scan_is = ap (λ (y : ℕ). rewritten y (width_of (length text)) (marks_till s.to s.to) s.from (scan_word text x s.from) words) deep

    pub scan_good : Good text levels (with_chunk j k (scan_chunk j text k x)) (scan_words text j.levels s.from s.to x words)
    unfolding scanned scan_chunk
    scan_good =
        let a = accepted Scan j (length text) (length words) k e in
        let l = below Scan a in
        let unset = unsettled text levels j words k deep inside (g.ok k l) a.untaken in
        let within = marks_till_le s.to s.to s.to (omega arith) (omega arith) in
        good_step g k l (scan_chunk j text k x) scanned j.state a.opened refl
        (ap length scan_is ∙ as_long text words levels g.shape.long s (marks_till s.to s.to) (scan_word text x s.from) within)
        (λ b h w m p. ap (λ (y : List ℕ). cell y levels (width_of (length text)) b w) scan_is ∙ elsewhere text words levels g.shape.long s (marks_till s.to s.to) (scan_word text x s.from) within b h w m p)
        (scan_ok text levels j words k deep inside (g.ok k l) x a.untaken)
        (λ p. clash c.settled p unset) (λ p. p) (λ o p. clash c.settled p unset) (λ o q p. clash c.settled p unset) (λ f p. never a.opened p) (not_closed a.opened)

  -- ---- level
  module _ (e : refusal Level j (length text) (length words) k ≡ Done) where
    levelled : List ℕ
    levelled = level_words text j.levels s.from s.to c.start words

    level_is : levelled ≡ rewritten levels (width_of (length text)) (levels_till s.to) s.from (level_word text words levels s.from c.start) words
    unfolding levelled level_words
    level_is = ap (λ (y : ℕ). rewritten y (width_of (length text)) (levels_till s.to) s.from (level_word text words y s.from c.start) words) deep

    relabel : Clear text c s → Clear text (level_chunk j k) s
    unfolding level_chunk
    relabel h = record { behind = h.behind; within = h.within; swings = h.swings; none_yet = h.none_yet }

    before_of : (i : ℕ) → i < j.count → (chunk_at j i).settled ≡ true → settled_before j i ≡ true
    before_of zero l p = refl
    before_of (suc i) l p = g.front i l p

    pub level_good : Good text levels (with_chunk j k (level_chunk j k)) (level_words text j.levels s.from s.to c.start words)
    unfolding levelled level_chunk
    level_good =
        let a = accepted Level j (length text) (length words) k e in
        let l = below Level a in
        let set = a.in_time in
        let within = levels_till_le s.to in
        good_step g k l (level_chunk j k) levelled j.state a.opened refl
        (ap length level_is ∙ as_long text words levels g.shape.long s (levels_till s.to) (level_word text words levels s.from c.start) within)
        (λ b h w m p. ap (λ (y : List ℕ). cell y levels (width_of (length text)) b w) level_is ∙ elsewhere text words levels g.shape.long s (levels_till s.to) (level_word text words levels s.from c.start) within b h w m p)
        (level_ok text levels j words k deep inside (g.ok k l) set)
        (before_of k l) (λ p. p) (λ o p. relabel (g.clear o k l set)) (λ o q p. g.sound_end o k q set) (λ f p. never a.opened p) (not_closed a.opened)

  -- ---- settle
  module _ (e : refusal Settle j (length text) (length words) k ≡ Done) where
    acc : Accepted Settle j (length text) (length words) k
    acc = accepted Settle j (length text) (length words) k e

    l : k < j.count
    l = below Settle acc

    scanned_first : c.scanned ≡ true
    scanned_first = (both c.scanned (settled_before j k) acc.in_time).0

    in_order : settled_before j k ≡ true
    in_order = (both c.scanned (settled_before j k) acc.in_time).1

    -- the truth at the border
    record Border (m : ℕ) : Type 0 where
      inside_there : inside_of j m ≡ in_string text (64 * (span_of j (length text) m).from)
      depth_there : Depth text (start_depth j m) (64 * (span_of j (length text) m).from)
      shallow_there : start_depth j m ≤ 64
      earlier : fault_of text ≡ fault_from text (64 * (span_of j (length text) m).from) (length text - 64 * (span_of j (length text) m).from)

    border : (m : ℕ) → m < j.count → settled_before j m ≡ true → Border m
    unfolding inside_of start_depth fault_of span_of
    border zero h p =
        let z : 64 * first_word j (length text) 0 ≡ 0 = omega (arith, from_zero g.shape) in
        record {
          inside_there = rw z (first_inside text);
          depth_there = rw z (first_depth text);
          shallow_there = omega arith;
          earlier = rw z (ap (fault_from text 0) (omega arith));
        }
    border (suc m) h p =
        let set = p in
        let i = span_of j (length text) m in
        let t = (g.ok m (omega arith)).truth set in
        let cl = g.clear acc.opened m (omega arith) set in
        let order : i.from ≤ i.to = omega (arith, nonempty g.shape m (omega arith)) in
        let meets : 64 * i.to ≡ 64 * first_word j (length text) (suc m) = ap (λ (x : ℕ). 64 * x) (next_to g.shape m h) in
        let d = depth_behind t order cl.behind cl.within cl.swings in
        let short : min (64 * i.to) (length text) ≡ 64 * first_word j (length text) (suc m) = omega (arith, meets, from_cut g.shape (suc m) h, g.shape.inner (suc m) h) in
        record {
          inside_there = inside_behind t order ∙ ap (in_string text) meets;
          depth_there = subst (Depth text _) meets (rw d.0 d.1);
          shallow_there = omega (arith, d.0, cl.within);
          earlier = cl.none_yet ∙ ap (λ (x : ℕ). fault_from text x (length text - x)) short;
        }

    at_border : Border k
    at_border = border k l in_order

    abbrev after : List ℕ
    after = settle_words j text words k

    module _ (unset : c.settled ≡ false) where
      truth : Truth text (settle_chunk j text after k) s
      truth = settle_truth text levels j words k deep inside (g.ok k l) scanned_first unset at_border.inside_there at_border.depth_there at_border.shallow_there

      found_is : found_by j text after k ≡ chunk_fault (settle_chunk j text after k) text after levels s (is_last j k)
      unfolding found_by
      found_is = ap (λ (x : ℕ). chunk_fault (settle_chunk j text (settle_words j text words k) k) text (settle_words j text words k) x s (is_last j k)) deep

      settle_words_is : (d : Bool) → guess_wrong j k ≡ d → (length after ≡ length words)
          × ((b : Bitmap) → Has levels b → (w : ℕ) → w < width_of (length text) → (w < s.from) ⊎ (s.to ≤ w) → cell after levels (width_of (length text)) b w ≡ cell words levels (width_of (length text)) b w)
      unfolding settle_words flip_words
      settle_words_is true q =
          let same : settle_words j text words k ≡ rewritten levels (width_of (length text)) (marks_till 0 s.to) s.from (flip_word words levels (length text)) words =
          rw q (ap (λ (y : ℕ). rewritten y (width_of (length text)) (marks_till 0 s.to) s.from (flip_word words y (length text)) words) deep) in
          let within = marks_till_le 0 s.to s.to (omega arith) (omega arith) in (
            ap length same ∙ as_long text words levels g.shape.long s (marks_till 0 s.to) (flip_word words levels (length text)) within,
            λ b h w m p. ap (λ (y : List ℕ). cell y levels (width_of (length text)) b w) same ∙ elsewhere text words levels g.shape.long s (marks_till 0 s.to) (flip_word words levels (length text)) within b h w m p,
          )
      settle_words_is false q =
          let same : settle_words j text words k ≡ words = rw q in
          (ap length same, λ b h w m p. ap (λ (y : List ℕ). cell y levels (width_of (length text)) b w) same)

      -- with the state it comes to, and why
      settled_to : (st : State) → (st ≡ Open → Clear text (settle_chunk j text after k) s) → (st ≡ Open → suc k ≡ j.count → fault_of text ≡ sound) → ((f : Fault) → st ≡ Stopped f → fault_of text ≡ verdict_of f)
          → (st ≡ Closed → ⊥) → Good text levels (with_state (with_chunk j k (settle_chunk j text after k)) st) after
      unfolding settle_chunk
      settled_to st clear sound-at stop live =
          let w = settle_words_is (guess_wrong j k) refl in
          good_step g k l (settle_chunk j text after k) after st acc.opened refl w.0 w.1
          (settle_ok text levels j words k deep inside (g.ok k l) scanned_first unset at_border.inside_there at_border.depth_there at_border.shallow_there)
          (λ p. in_order) (λ p. refl) (λ o p. clear o) (λ o q p. sound-at o q) stop live

      order : s.from ≤ s.to
      unfolding span_of
      order = omega (arith, nonempty g.shape k l)

      inner : 64 * s.from ≤ length text
      unfolding span_of
      inner = omega (arith, from_cut g.shape k l, g.shape.inner k l)

      seen : InChunk truth after levels order (settle_bits text levels j words k deep inside (g.ok k l) scanned_first unset at_border.inside_there at_border.depth_there at_border.shallow_there)
      seen = in_chunk truth after levels order _ at_border.earlier inner

      -- where nothing was found in the chunk
      go_on : sought_fault (settle_chunk j text after k) text after levels s ≡ None → Clear text (settle_chunk j text after k) s → Dec (suc k ≡ j.count)
          → Good text levels (found_job (found_by j text after k) (with_chunk j k (settle_chunk j text after k))) after
      go_on p clear (no n) =
          let last : is_last j k ≡ false = not_last g.shape k (omega (arith, n, l)) in
          let found : found_by j text after k ≡ None = found_is ∙ fault_sought (settle_chunk j text after k) text after levels s (is_last j k) None p ∙ ap (λ (b : Bool). pick b (end_fault (settle_chunk j text after k) (length text)) None) last in
          subst (λ (x : Option Fault). Good text levels (found_job x (with_chunk j k (settle_chunk j text after k))) after) (sym found)
          (settled_to j.state (λ o. clear) (λ o q. absurd (n q)) (λ f q. never acc.opened q) (not_closed acc.opened))
      go_on p clear (yes q) =
          let last : is_last j k ≡ true = is_last_true g.shape k q in
          let past : length text ≤ 64 * s.to = width_past (length text) s.to (last_to g.shape k q) in
          let found : found_by j text after k ≡ end_fault (settle_chunk j text after k) (length text) = found_is ∙ fault_sought (settle_chunk j text after k) text after levels s (is_last j k) None p ∙ ap (λ (b : Bool). pick b (end_fault (settle_chunk j text after k) (length text)) None) last in
          let ends : fault_of text ≡ at_end text (length text) = clear.none_yet ∙ end_from text (64 * s.to) past in
          at_the_end found ends (at_last truth clear order past)
        where
          at_the_end : found_by j text after k ≡ end_fault (settle_chunk j text after k) (length text) → fault_of text ≡ at_end text (length text) → AtLast text (settle_chunk j text after k)
              → Good text levels (found_job (found_by j text after k) (with_chunk j k (settle_chunk j text after k))) after
          at_the_end found ends (well x y) =
              subst (λ (z : Option Fault). Good text levels (found_job z (with_chunk j k (settle_chunk j text after k))) after) (sym (found ∙ x))
              (settled_to j.state (λ o. clear) (λ o r. ends ∙ y) (λ f r. never acc.opened r) (not_closed acc.opened))
          at_the_end found ends (ill f x y) =
              subst (λ (z : Option Fault). Good text levels (found_job z (with_chunk j k (settle_chunk j text after k))) after) (sym (found ∙ x))
              (settled_to (Stopped f) (λ o. clear) (λ o r. never o refl) (λ h r. ends ∙ y ∙ ap verdict_of (same_fault r)) (λ r. stopped_closed r))

      found_here : InChunk truth after levels order (settle_bits text levels j words k deep inside (g.ok k l) scanned_first unset at_border.inside_there at_border.depth_there at_border.shallow_there)
          → Good text levels (found_job (found_by j text after k) (with_chunk j k (settle_chunk j text after k))) after
      found_here (nothing silent p clear) = go_on p clear (ℕ_discrete (suc k) j.count)
      found_here (here f told p q) =
          subst (λ (z : Option Fault). Good text levels (found_job z (with_chunk j k (settle_chunk j text after k))) after) (sym (found_is ∙ fault_sought (settle_chunk j text after k) text after levels s (is_last j k) (Some f) p))
          (settled_to (Stopped f) (λ o. never o refl) (λ o r. never o refl) (λ h r. q ∙ ap verdict_of (same_fault r)) (λ r. stopped_closed r))

    pub settle_good : Good text levels (found_job (found_by j text (settle_words j text words k) k) (with_chunk j k (settle_chunk j text (settle_words j text words k) k))) (settle_words j text words k)
    settle_good = found_here acc.untaken (seen acc.untaken)

    -- the kept counts announce a fault exactly when the walk over the chunk finds its place
    pub announced_found : (announced (settle_chunk j text after k) ≡ true) ↔ ((f : Fault) × (sought_fault (settle_chunk j text after k) text after levels s ≡ Some f))
    announced_found = go (seen acc.untaken)
      where
        go : InChunk (truth acc.untaken) after levels (order acc.untaken) (settle_bits text levels j words k deep inside (g.ok k l) scanned_first acc.untaken at_border.inside_there at_border.depth_there at_border.shallow_there)
            → (announced (settle_chunk j text after k) ≡ true) ↔ ((f : Fault) × (sought_fault (settle_chunk j text after k) text after levels s ≡ Some f))
        go (nothing silent p clear) = (λ told. clash _ told silent, λ f. nothing_here (sym p ∙ f.1))
        go (here f told p q) = (λ x. (f, p), λ x. told)
