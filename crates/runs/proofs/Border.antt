-- The truth at a border: behind a settled chunk without a fault, what it keeps gives the state and the depth that the rules have there. And the
-- fault that settle finds in a chunk, from the truth at its border, is the record's first.
use Rattle.std.specs.Prelude.{Some, None, Result, Ok, Err}
use mathlib.Core.Path.{◌≡◌, refl, sym, ap, ap₂, ◌∙◌, subst}
use mathlib.Core.Bool.{Bool, true, false, not, ◌&&◌, ◌||◌}
use mathlib.Core.List.{List}
use Prim.Native.Nat.{ℕ, zero, suc, ◌+◌, ◌*◌, ◌-◌, ◌≤◌, ◌<◌, min}
use native.Mathlib.Nat.{add-zero, lt_of_not-le}
use native.Mathlib.Decide.{dec_lt}
use native.Mathlib.Omega.{arith}
use borrow.Author.Tests.{eq-eqb, ne_eqb, lt-ltb, le-ltb}
use lib.ListN.{length}
use lib.IntN.{pos, ◌+ℤ◌}
use lib.Dec.{eqb, ltb}
use Rattle.rules.specs.Word.{pick, xor, count}
use Rattle.rules.specs.Bytes.{opens, closes, has}
use Rattle.rules.specs.Bits.{in_string, mask_bit, plain, opener, closer, at_depth}
use Rattle.rules.specs.Faults.{sound, at_end, fault_from, fault_of}
use Rattle.rules.proofs.Booleans.{impossible, bool2}
use Rattle.rules.proofs.Counting.{count_cat}
use Rattle.rules.proofs.RuleLaws.{in_string_add, plain_apart}
use Rattle.index.specs.declared.Fault.{Fault}
use Rattle.index.specs.declared.Fault.TheVariants.{InString, InBracket}
use Rattle.index.specs.Types.{Kept}
use Rattle.index.specs.Types.{Chunk}
use Rattle.index.specs.Types.{Span}
use Rattle.blocks.specs.Swinging.{dip, peak, swing}
use Rattle.index.specs.Depth.{kept_of, below_zero, above64, clamp_depth}
use Rattle.chunks.specs.Sweeping.{swing_by}
use Rattle.index.specs.Scanning.{odd_in}
use Rattle.chunks.specs.Flipping.{mask_in}
use Rattle.index.specs.Settling.{limit_of, fault_of_bracket, depth_past, seek, seek_in, announced, of_sought, sought_fault, end_fault}
use Rattle.blocks.proofs.SwingLaws.{dip_ge, peak_ge}
use Rattle.index.proofs.DepthLaws.{falls_is, climbs_is, depth_is}
use Rattle.index.proofs.SeekLaws.{seek_on, seek_at, seek_over}
use Rattle.index.proofs.SettleLaws.{end_string, end_bracket, end_none, not_announced, is_announced}
use Rattle.runs.specs.Runs.{verdict_of}
use Rattle.runs.proofs.Walks.{Walked, stays, meets, walked, Depth, Told, goes_on, stops, told}
use Rattle.runs.proofs.Past.{opener_past, closer_past, in_string_past, openers_past, closers_past}
use Rattle.runs.proofs.Truth.{Truth, Clear}

xor_comm : (a b : Bool) → xor a b ≡ xor b a
xor_comm = bool2 _ _ tt

-- a depth further on
depth_on : (text : List ℕ) (d e a m : ℕ) → Depth text d a → d + count (λ j. opener text (a + j)) m ≡ e + count (λ j. closer text (a + j)) m → Depth text e (a + m)
unfolding Depth
depth_on text d e a m h q = omega (arith, h, q, count_cat (opener text) a m, count_cat (closer text) a m)

-- ---- behind a settled chunk

module _ {text : List ℕ} {c : Chunk} {s : Span} (t : Truth text c s) (l : s.from ≤ s.to) where
  reaches : 64 * s.from + 64 * (s.to - s.from) ≡ 64 * s.to
  reaches = omega arith

  pub inside_behind : xor c.inside c.kept.odd ≡ in_string text (64 * s.to)
  unfolding kept_of odd_in
  inside_behind =
      ap₂ (λ (x : Bool) (k : Kept). xor x k.odd) t.inside_is t.kept_is
      ∙ xor_comm (in_string text (64 * s.from)) (odd_in text s.from s.to)
      ∙ sym (in_string_add text (64 * s.from) (64 * (s.to - s.from))) ∙ ap (in_string text) reaches

  pub depth_behind : (e : ℕ) → e ≤ 64 → c.start + count (λ j. opener text (64 * s.from + j)) (64 * (s.to - s.from)) ≡ e + count (λ j. closer text (64 * s.from + j)) (64 * (s.to - s.from))
      → (clamp_depth (pos c.start +ℤ c.kept.net) ≡ e) × Depth text e (64 * s.to)
  unfolding kept_of swing_by swing opener closer
  depth_behind e few q =
      let u = count (λ j. opener text (64 * s.from + j)) (64 * (s.to - s.from)) in
      let d = count (λ j. closer text (64 * s.from + j)) (64 * (s.to - s.from)) in (
        ap (λ (k : Kept). clamp_depth (pos c.start +ℤ k.net)) t.kept_is ∙ depth_is c.start u d (omega (arith, q)) (omega (arith, q)) ∙ omega (arith, q),
        subst (Depth text e) reaches (depth_on text c.start e (64 * s.from) (64 * (s.to - s.from)) t.depth_is q),
      )

-- ---- the fault of a chunk

-- two walks over the same brackets
seek_ext : (o c p q : ℕ → Bool) (m d i : ℕ) → ((j : ℕ) → i ≤ j → j < i + m → (o j ≡ p j) × (c j ≡ q j)) → seek o c d i m ≡ seek p q d i m
unfolding seek
seek_ext o c p q zero d i h = refl
seek_ext o c p q (suc m) d i h =
    let here = h i (omega arith) (omega arith) in
    let rest : (e : ℕ) → seek o c e (suc i) m ≡ seek p q e (suc i) m = λ e. seek_ext o c p q m e (suc i) (λ j a b. h j (omega arith) (omega arith)) in
    ap₂ (λ (x y : Result ℕ Fault). pick (o i || c i) (pick (eqb d (limit_of (o i))) (Err (fault_of_bracket (o i) i)) x) y) (rest (depth_past (o i) d)) (rest d)
    ∙ ap₂ (λ (x y : Bool). pick (x || y) (pick (eqb d (limit_of x)) (Err (fault_of_bracket x i)) (seek p q (depth_past x d) (suc i) m)) (seek p q d (suc i) m)) here.0 here.1

on_at : {A : Type 0} {d : ℕ} {f : Fault} (s : Result ℕ Fault) → s ≡ Ok d → s ≡ Err f → A
on_at s p q = impossible (cc)

-- what the walk of the chunk says of the record: m places from a on, of which those behind the end have no brackets
pub data Meets (text : List ℕ) (d a m : ℕ) : Type 0 where
  clear : (e : ℕ) → seek (opener text) (closer text) d a m ≡ Ok e → fault_from text a (length text - a) ≡ fault_from text (min (a + m) (length text)) (length text - min (a + m) (length text)) → Meets text d a m
  found : (f : Fault) → seek (opener text) (closer text) d a m ≡ Err f → fault_from text a (length text - a) ≡ verdict_of f → Meets text d a m

pub meets_of : (text : List ℕ) (d a m : ℕ) → a ≤ length text → Depth text d a → Meets text d a m
unfolding seek
meets_of text d a m l h = go (told text (e - a) d a (length text - e) h)
  where
    e : ℕ
    e = min (a + m) (length text)

    all : e - a + (length text - e) ≡ length text - a
    all = omega arith

    reach : a + (e - a) ≡ e
    reach = omega arith

    pad : ℕ
    pad = m - (e - a)

    parts : m ≡ e - a + pad
    parts = omega arith

    bare : (j : ℕ) → a + (e - a) ≤ j → j < a + (e - a) + pad → (opener text j || closer text j) ≡ false
    bare j p q = ap₂ ◌||◌ (opener_past text j (omega arith)) (closer_past text j (omega arith))

    go : Told text d a (e - a) (length text - e) → Meets text d a m
    go (goes_on g x y z) =
        clear g
        (
        ap (seek (opener text) (closer text) d a) parts ∙ seek_on (opener text) (closer text) d a (e - a) pad x
        ∙ ap (seek (opener text) (closer text) g (a + (e - a))) (sym (add-zero pad)) ∙ seek_over (opener text) (closer text) g (a + (e - a)) pad 0 bare
        )
        (ap (fault_from text a) (sym all) ∙ z ∙ ap (λ (i : ℕ). fault_from text i (length text - e)) reach)
    go (stops f x z) =
        found f (ap (seek (opener text) (closer text) d a) parts ∙ seek_at (opener text) (closer text) d a (e - a) pad x) (ap (fault_from text a) (sym all) ∙ z)

or_true : (b : Bool) → (b || true) ≡ true
or_true true = refl
or_true false = refl

-- what the kept counts announce
module _ {text : List ℕ} {c : Chunk} {s : Span} (t : Truth text c s) where
  abbrev a : ℕ
  a = 64 * s.from

  abbrev m : ℕ
  m = 64 * (s.to - s.from)

  announced_is : announced c ≡ (ltb c.start (dip (λ j. opener text (a + j)) (λ j. closer text (a + j)) m) || ltb 64 (c.start + peak (λ j. opener text (a + j)) (λ j. closer text (a + j)) m))
  unfolding announced kept_of swing_by swing opener closer
  announced_is =
      ap (λ (k : Kept). below_zero (pos c.start +ℤ k.low) || above64 (pos c.start +ℤ k.high)) t.kept_is
      ∙ ap₂ ◌||◌ (falls_is c.start (dip (λ j. opener text (a + j)) (λ j. closer text (a + j)) m)) (climbs_is c.start (peak (λ j. opener text (a + j)) (λ j. closer text (a + j)) m))

  module _ (words : List ℕ) (levels : ℕ) (l : s.from ≤ s.to) (masks : (j : ℕ) → j < m → mask_in words levels (length text) (a + j) ≡ mask_bit text (a + j)) where
    -- the walk by the lent mask is the walk by the rules
    seek_is : seek_in text words levels s.from s.to c.start ≡ seek (opener text) (closer text) c.start a m
    unfolding seek_in opener closer plain
    seek_is =
        seek_ext _ _ _ _ m c.start a
        (λ j p q.
        let e : a + (j - a) ≡ j = omega arith in
        let same : mask_in words levels (length text) j ≡ mask_bit text j = ap (mask_in words levels (length text)) (sym e) ∙ masks (j - a) (omega arith) ∙ ap (mask_bit text) e in
        (ap (λ (b : Bool). has opens text j && not b) same, ap (λ (b : Bool). has closes text j && not b) same))

    -- the fault in the chunk: none, and it is clear, or the record's first
    pub data InChunk : Type 0 where
      nothing : announced c ≡ false → sought_fault c text words levels s ≡ None → Clear text c s → InChunk
      here : (f : Fault) → announced c ≡ true → sought_fault c text words levels s ≡ Some f → fault_of text ≡ verdict_of f → InChunk

    module _ (earlier : fault_of text ≡ fault_from text a (length text - a)) (inner : a ≤ length text) where
      reach : a + m ≡ 64 * s.to
      reach = omega arith

      apart : (i : ℕ) → opener text i ≡ true → closer text i ≡ false
      unfolding opener closer
      apart = plain_apart (mask_bit text) text

      pub in_chunk : InChunk
      in_chunk = go (walked (opener text) (closer text) apart a c.start m t.shallow) (meets_of text c.start a m inner t.depth_is)
        where
          o : ℕ → Bool
          o j = opener text (a + j)

          k : ℕ → Bool
          k j = closer text (a + j)

          go : Walked (opener text) (closer text) a c.start m → Meets text c.start a m → InChunk
          go (stays e p low high end) (found f q z) = on_at (seek (opener text) (closer text) c.start a m) p q
          go (stays e p low high end) (clear g q z) =
              let silent = announced_is ∙ ap₂ ◌||◌ (le-ltb _ _ low) (le-ltb _ _ high) in
              nothing silent (not_announced c text words levels s silent)
              (
              record {
                behind = e;
                within = omega (arith, end, high, peak_ge o k m, dip_ge o k m);
                swings = end;
                none_yet = earlier ∙ z ∙ ap (λ (i : ℕ). fault_from text (min i (length text)) (length text - min i (length text))) reach;
              }
              )
          go (meets f p out) (clear g q z) = on_at (seek (opener text) (closer text) c.start a m) q p
          go (meets f p out) (found g q z) =
              let told = announced_is ∙ either (dec_lt c.start (dip o k m)) (dec_lt 64 (c.start + peak o k m)) in
              here g told (is_announced c text words levels s told ∙ ap of_sought (seek_is ∙ q)) (earlier ∙ z)
            where
              either : Dec (c.start < dip o k m) → Dec (64 < c.start + peak o k m) → (ltb c.start (dip o k m) || ltb 64 (c.start + peak o k m)) ≡ true
              either (yes x) y = ap (λ (b : Bool). b || ltb 64 (c.start + peak o k m)) (lt-ltb _ _ x)
              either (no x) (yes y) = ap (λ (b : Bool). ltb c.start (dip o k m) || b) (lt-ltb _ _ y) ∙ or_true (ltb c.start (dip o k m))
              either (no x) (no y) = absurd (out (omega (arith, lt_of_not-le x)) (omega (arith, lt_of_not-le y)))

depth_at : (text : List ℕ) (d i : ℕ) → length text ≤ i → Depth text d i → d + count (closer text) (length text) ≡ count (opener text) (length text)
unfolding Depth
depth_at text d i h q = omega (arith, q, openers_past text i h, closers_past text i h)

depth_zero : (text : List ℕ) → count (closer text) (length text) ≡ count (opener text) (length text) → at_depth text 0 (length text) ≡ true
unfolding at_depth
depth_zero text e = eq-eqb (count (opener text) (length text)) (count (closer text) (length text) + 0) (omega (arith, e))

depth_more : (text : List ℕ) → count (closer text) (length text) < count (opener text) (length text) → at_depth text 0 (length text) ≡ false
unfolding at_depth
depth_more text e = ne_eqb (count (opener text) (length text)) (count (closer text) (length text) + 0) (λ q. omega (arith, e))

-- at the end of the last chunk
pub data AtLast (text : List ℕ) (c : Chunk) : Type 0 where
  well : end_fault c (length text) ≡ None → at_end text (length text) ≡ sound → AtLast text c
  ill : (f : Fault) → end_fault c (length text) ≡ Some f → at_end text (length text) ≡ verdict_of f → AtLast text c

pub at_last : {text : List ℕ} {c : Chunk} {s : Span} → Truth text c s → Clear text c s → s.from ≤ s.to → length text ≤ 64 * s.to → AtLast text c
unfolding at_end verdict_of
at_last {text} {c} {s} t clear-to l past = go (in_string text (length text)) refl clear-to.behind refl
  where
    n : ℕ
    n = length text

    inside : xor c.inside c.kept.odd ≡ in_string text n
    inside = inside_behind t l ∙ in_string_past text (64 * s.to) past

    after : (clamp_depth (pos c.start +ℤ c.kept.net) ≡ clear-to.behind) × Depth text clear-to.behind (64 * s.to)
    after = depth_behind t l clear-to.behind clear-to.within clear-to.swings

    depth_end : clear-to.behind + count (closer text) n ≡ count (opener text) n
    depth_end = depth_at text clear-to.behind (64 * s.to) past after.1

    go : (b : Bool) → in_string text n ≡ b → (e : ℕ) → clear-to.behind ≡ e → AtLast text c
    go true p e q = ill (InString n) (end_string c n (inside ∙ p)) (rw p)
    go false p zero q = well (end_none c n (inside ∙ p) (omega (arith, after.0, q))) (rw (p, depth_zero text (omega (arith, depth_end, q))))
    go false p (suc e) q = ill (InBracket n) (end_bracket c n (inside ∙ p) (omega (arith, after.0, q))) (rw (p, depth_more text (omega (arith, depth_end, q))))
