-- The path theorem: step after step the walk and RFC 9535 take the same node, from the whole text on. By the steps of the path.
use mathlib.Core.Path.{◌≡◌, refl, ◌∙◌}
use mathlib.Core.Bool.{not, ◌&&◌}
use mathlib.Core.List.{List, [], ◌∷◌, ◌++◌, append-nil}
use Prim.Native.Nat.{ℕ, suc, ◌+◌, ◌-◌, ◌≤◌, ◌<◌}
use native.Mathlib.Nat.{add-zero, zero-add}
use native.Mathlib.Numerals.{add-one}
use native.Mathlib.Omega.{arith}
use borrow.Author.Tests.{ne_eqb, eq-eqb, le-ltb, le-leb, ltb-false}
use lib.Dec.{eqb, ltb, leb}
use lib.ListN.{length, take, drop, length-append, length-take, length-drop}
use lib.Seq.{ext_get_or, get_or-take, get_or-drop}
use Rattle.rules.specs.Layout.{size_of, Promise}
use Rattle.rules.proofs.Booleans.{impossible}
use Rattle.paths.specs.Grammar.{Selector, Steps, Path}
use Rattle.paths.specs.Places.{byte_in}
use Rattle.query.specs.Items.{value_at}
use Rattle.walks.specs.Ruled.{ruled}
use Rattle.paths.specs.Path.{Reading, good, bad, read_path, large}
use Rattle.query.specs.Walk.{on_found, walk_from, walk}
use Rattle.query.specs.Answers.{refusal_number, number_of, part_of, after_reading, answer_of}
use Rattle.query.specs.Item as Items
use Rattle.query.specs.Answer.{Answer, Found, Refused}
use Rattle.query.specs.declared.types.Refusal.{Refusal}
use Rattle.query.specs.declared.types.Refusal.TheVariants.{EmptyRecord, LongRecord, BadLevels, BadBuffer, BadPath, TooLarge, TooDeep}
use Rattle.paths.proofs.PlaceLaws.{pick_ind}
use Rattle.paths.proofs.Reading.{reads, read_is_path}
use Rattle.query.proofs.Inside.{InRecord, ItemInRecord, value_in, step_in}
use Rattle.texts.specs.Grammar.{Text}
use Rattle.texts.specs.Nodes.{Json, value_of, first_of, bytes_of, deep}
use Rattle.jsonpath.specs.Select.{children, flat, segments, select, Fair}
use Rattle.jsonpath.specs.Demand2.{Obeys, root, Unbroken, AskedWith, Selects, Claim}
use Rattle.texts.proofs.Padded.{Bare, Pad, bare_bytes, pad_bytes, bare_tree, padded, padded_text, text_same_bytes, text_same_tree}
use Rattle.jsonpath.proofs.Trace.{at_start, Seg}
use Rattle.jsonpath.proofs.Stretches.{seg_at, seg_self}
use Rattle.jsonpath.proofs.Values.{value_ends, Good, Hit, pad_hit}
use Rattle.jsonpath.proofs.Steps.{StepTaken, step_right}
use Rattle.walks.proofs.Agree.{walk_promised}
use Rattle.jsonpath.proofs.Characters.{name_ascii}
use Rattle.jsonpath.proofs.Names.{nodes, first_ones, PlainName, children_same, AllFair, children_fair}
use Rattle.jsonpath.proofs.Verdicts.{text_sound}

-- ---- a node and its part

first_tree : (a : ℕ) (v : Bare) → first_of (bare_tree a v) ≡ a
first_tree a Bare.false = refl
first_tree a Bare.null = refl
first_tree a Bare.true = refl
first_tree a (Bare.num n) = refl
first_tree a (Bare.string s) = refl
first_tree a (Bare.empty_array b) = refl
first_tree a (Bare.array es) = refl
first_tree a (Bare.empty_object b) = refl
first_tree a (Bare.object ms) = refl

bytes_tree : (a : ℕ) (v : Bare) → bytes_of (bare_tree a v) ≡ bare_bytes v
bytes_tree a Bare.false = refl
bytes_tree a Bare.null = refl
bytes_tree a Bare.true = refl
bytes_tree a (Bare.num n) = refl
bytes_tree a (Bare.string s) = refl
bytes_tree a (Bare.empty_array b) = refl
bytes_tree a (Bare.array es) = refl
bytes_tree a (Bare.empty_object b) = refl
bytes_tree a (Bare.object ms) = refl

-- a stretch that lies in the record is a part of it
seg_part : (text : List ℕ) (a : ℕ) (bs : List ℕ) → Seg text a bs → a + length bs ≤ length text → part_of text (Found a (a + length bs)) ≡ bs
seg_part text a bs g h =
    let n : a + length bs - a ≡ length bs = omega arith in
    let l : length (take (length bs) (drop a text)) ≡ length bs = simp (length-take, length-drop) (omega arith) in
    rw n
    (ext_get_or 0 (take (length bs) (drop a text)) bs l
    (λ i m. get_or-take (length bs) (drop a text) i 0 (omega (arith, l)) ∙ get_or-drop a text i 0 ∙ seg_at text a bs i g (omega (arith, l))))

one_part : (text : List ℕ) (t : Json) (a : ℕ) (bs : List ℕ) → first_of t ≡ a → bytes_of t ≡ bs → part_of text (Found a (a + length bs)) ≡ bs
    → Selects text (t ∷ []) (Found a (a + length bs))
one_part text t a bs e f g =
    let h : Selects text (t ∷ []) (Found (first_of t) (first_of t + length (bytes_of t))) = Selects.one t (rw (e, f) g) in
    rw (e, f) at h

-- ---- along a path: what RFC 9535 selects, where names are unrepeated and have no unpaired surrogate

abbrev PlainNames : List Selector → Type 0
PlainNames [] = Unit {0}
PlainNames (s ∷ ss) = PlainName s × PlainNames ss

segments_none : (ss : List Selector) → segments ss [] ≡ []
unfolding segments flat
segments_none [] = refl
segments_none (s ∷ ss) = segments_none ss

module _ (text : List ℕ) where
  walked : (ss : List Selector) (k a : ℕ) (v : Bare) → PlainNames ss → Fair (bare_tree a v) → Good text k a v → a + length (bare_bytes v) ≤ length text
      → Selects text (segments ss (bare_tree a v ∷ [])) (walk_from (byte_in text) (ruled text) (suc k) ss a (a + length (bare_bytes v)))
  unfolding walk_from segments flat
  walked [] k a v q p g l = one_part text (bare_tree a v) a (bare_bytes v) (first_tree a v) (bytes_tree a v) (seg_part text a (bare_bytes v) g.seg l)
  walked (s ∷ ss) k a v q p g l =
      go (rw (children_same s a v q.0 p) at (step_right text k s a v g)) (children_fair s (bare_tree a v) p) (step_in (byte_in text) (ruled text) (length text) (suc k) s a _ l)
      (λ a v p g l. walked ss (suc k) a v q.1 p g l)
    where
      go : {x : Answer} → StepTaken text (suc k) (nodes (children s (bare_tree a v))) x → AllFair (children s (bare_tree a v)) → InRecord (length text) x
          → ((a : ℕ) (v : Bare) → Fair (bare_tree a v) → Good text (suc k) a v → a + length (bare_bytes v) ≤ length text
          → Selects text (segments ss (bare_tree a v ∷ [])) (walk_from (byte_in text) (ruled text) (suc (suc k)) ss a (a + length (bare_bytes v))))
          → Selects text (segments ss (flat (children s) (bare_tree a v ∷ []))) (on_found x (λ b f. walk_from (byte_in text) (ruled text) (suc k + 1) ss b f) Refused)
      go (StepTaken.miss why h e f) p i r =
          let z : children s (bare_tree a v) ≡ [] = cc in
          rw (z, f, segments_none ss) (Selects.none {why = why} (omega (arith, h)))
      go (StepTaken.stop place e f) p i r = impossible (cc)
      go (StepTaken.hit b w e f g) p i r =
          let z : children s (bare_tree a v) ≡ bare_tree b w ∷ [] = cc in
          let pa : Fair (bare_tree b w) × Unit {0} = rw z at p in
          let fits : InRecord (length text) (Found b (b + length (bare_bytes w))) = rw f at i in
          rw (z, f, append-nil, add-one) (r b w pa.0 g fits.1)

  -- whatever the names: no broken item but for an unpaired surrogate
  walked_unbroken : (ss : List Selector) (k a : ℕ) (v : Bare) → Good text k a v → Unbroken (walk_from (byte_in text) (ruled text) (suc k) ss a (a + length (bare_bytes v)))
  unfolding walk_from
  walked_unbroken [] k a v g = λ i. omega (arith, i)
  walked_unbroken (s ∷ ss) k a v g = go (step_right text k s a v g) (λ a v g. walked_unbroken ss (suc k) a v g)
    where
      go : {x : Answer} → StepTaken text (suc k) (first_ones s (bare_tree a v)) x
          → ((a : ℕ) (v : Bare) → Good text (suc k) a v → Unbroken (walk_from (byte_in text) (ruled text) (suc (suc k)) ss a (a + length (bare_bytes v))))
          → Unbroken (on_found x (λ b f. walk_from (byte_in text) (ruled text) (suc k + 1) ss b f) Refused)
      go (StepTaken.miss why h e f) r = rw f (λ i. omega (arith, i, h))
      go (StepTaken.stop place e f) r = rw f (λ i. omega (arith, i))
      go (StepTaken.hit b w e f g) r = rw (f, add-one) (r b w g)

-- the whole text is a value and blanks
whole : (text : List ℕ) (t : Text text) → deep (value_of t.derivation) ≤ 64 → Hit text 0 (value_of t.derivation) (value_at (byte_in text) 0 0 (length text))
whole text t d =
    let p : Pad = padded_text t.derivation in
    let e : pad_bytes p ≡ text = text_same_bytes t.derivation ∙ t.derives in
    let low : deep (padded 0 p) + 0 ≤ 64 = rw (add-zero, text_same_tree t.derivation) d in
    let h : Hit text 0 (padded 0 p) (value_at (byte_in text) 0 0 (0 + length (pad_bytes p))) = pad_hit text 0 0 0 p (rw e (seg_self text)) (at_start text) low in
    rw (zero-add, e, text_same_tree t.derivation) at h

-- ---- by the rules' bits

steps_plain : {bs : List ℕ} {ss : List Selector} → Steps bs ss → PlainNames ss
steps_plain Steps.none = tt
steps_plain (Steps.dot n s) = (name_ascii n, steps_plain s)
steps_plain (Steps.bracket d s) = (tt, steps_plain s)

path_plain : {bs : List ℕ} {ss : List Selector} → Path bs ss → PlainNames ss
path_plain (Path.root s) = steps_plain s

walk_selects : (text : List ℕ) (t : Obeys text) (path : List ℕ) (ss : List Selector) → Path path ss → Selects text (select ss (root t)) (walk text (ruled text) ss)
unfolding select walk
walk_selects text t path ss p =
    let h = whole text t.json t.shallow in
    let fits = value_in (byte_in text) 0 0 (length text) (length text) (omega arith) (omega arith) in
    let f : ItemInRecord (length text) (Items.Found h.place (h.place + length (bare_bytes h.value))) = rw h.is_part at fits in
    rw (h.is_tree, h.is_part) (walked text ss 0 h.place h.value (path_plain p) (rw h.is_tree at t.fair) h.good f.1)

walk_unbroken : (text : List ℕ) (t : Text text) → deep (value_of t.derivation) ≤ 64 → (ss : List Selector) → Unbroken (walk text (ruled text) ss)
unfolding walk
walk_unbroken text t d ss = let h = whole text t d in rw h.is_part (walked_unbroken text ss 0 h.place h.value h.good)

-- ---- by lent words: the checks in their order, then the walk

pub value_some : (text : List ℕ) (t : Text text) → 1 ≤ length text
value_some text t = rw (← e) (some (padded_text t.derivation))
  where
    e : pad_bytes (padded_text t.derivation) ≡ text
    e = text_same_bytes t.derivation ∙ t.derives

    some : (p : Pad) → 1 ≤ length (pad_bytes p)
    some (Pad.pad {w} {w'} b v b') =
        let h = value_ends (bare_bytes v) 0 v (seg_self (bare_bytes v)) in
        omega (arith, length-append w (bare_bytes v ++ w'), length-append (bare_bytes v) w', h.size)

selected : (text words : List ℕ) (levels : ℕ) (path : List ℕ) (ss : List Selector) (t : Obeys text) → AskedWith text words levels path ss
    → Selects text (select ss (root t)) (answer_of text words levels path)
unfolding answer_of
selected text words levels path ss t x =
    rw (
      ne_eqb (length text) 0 (omega (arith, value_some text t.json)),
      le-ltb 16777216 (length text) x.size,
      le-leb 1 levels x.range.low,
      le-leb levels 16 x.range.high,
      eq-eqb (length words) (size_of levels (length text)) x.promised.long,
      le-ltb 1024 (length path) x.within.short,
      reads x.within.derived,
      x.within.small,
      le-ltb levels (length ss) x.within.enough,
      walk_promised text levels words ss x.promised x.within.enough,
    )
    (walk_selects text t path ss x.within.derived)

-- what holds of every refusal before the walk, and of every walk along a path of the subset, holds of the answer
answered : (P : Answer → Type 0) (text words : List ℕ) (levels : ℕ) (path : List ℕ) → ((why : Refusal) → refusal_number why < 23 → P (Refused why))
    → ((ss : List Selector) → Path path ss → P (walk text (ruled text) ss)) → Promise text levels words → P (answer_of text words levels path)
unfolding answer_of
answered P text words levels path early walks p =
    pick_ind P (eqb (length text) 0) (Refused EmptyRecord) _ (λ _. early EmptyRecord (omega arith)) (λ _.
    pick_ind P (ltb 16777216 (length text)) (Refused LongRecord) _ (λ _. early LongRecord (omega arith)) (λ _.
    pick_ind P (not (leb 1 levels && leb levels 16)) (Refused BadLevels) _ (λ _. early BadLevels (omega arith)) (λ _.
    pick_ind P (not (eqb (length words) (size_of levels (length text)))) (Refused BadBuffer) _ (λ _. early BadBuffer (omega arith)) (λ _.
    pick_ind P (ltb 1024 (length path)) (Refused TooLarge) _ (λ _. early TooLarge (omega arith)) (λ _. go (read_path path) refl)))))
  where
    go : (r : Reading) → read_path path ≡ r → P (after_reading text words levels r)
    go (bad q) e = early (BadPath q) (omega arith)
    go (good ss) e =
        pick_ind P (large ss) (Refused TooLarge) _ (λ _. early TooLarge (omega arith)) (λ _.
        pick_ind P (ltb levels (length ss)) (Refused TooDeep) _ (λ _. early TooDeep (omega arith)) (λ h.
        rw (walk_promised text levels words ss p (ltb-false levels (length ss) h)) (walks ss (read_is_path path ss e))))

unbroken : (text words : List ℕ) (levels : ℕ) (path : List ℕ) (t : Text text) → deep (value_of t.derivation) ≤ 64 → Promise text levels words
    → Unbroken (answer_of text words levels path)
unbroken text words levels path t d = answered Unbroken text words levels path (λ why l i. omega (arith, i)) (λ ss p. walk_unbroken text t d ss)

selects_read : {text : List ℕ} {ts : List Json} {x : Answer} → Selects text ts x → number_of x ≡ 30 → ⊥
selects_read (Selects.one t f) e = omega arith
selects_read (Selects.none h) e = omega (arith, h)

read : (text words : List ℕ) (levels : ℕ) (path : List ℕ) → Obeys text → Promise text levels words → number_of (answer_of text words levels path) ≡ 30 → ⊥
read text words levels path t =
    answered (λ r. number_of r ≡ 30 → ⊥) text words levels path (λ why l e. omega arith) (λ ss p. selects_read (walk_selects text t path ss p))

-- demand 2, of paths
pub claim : Claim
claim = record { selected = selected; unbroken = unbroken; read = read; taken = text_sound }
