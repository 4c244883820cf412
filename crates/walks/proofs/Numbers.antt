-- Each number exactly under its condition, and in its order: what a query answers is what is given, and nothing else is. By the tests of the definition,
-- one after another, and the exactness of the path's reading and of the walk.
use Prim.Native.Nat.{ℕ, ◌≤◌, ◌<◌}
use mathlib.Core.Path.{◌≡◌, refl, sym, ap, ◌∙◌, subst}
use mathlib.Core.Bool.{Bool, true, false, not, ◌&&◌}
use mathlib.Core.List.{List}
use mathlib.Core.Logic.{◌⊎◌, inl, inr, ⊎_elim, ◌↔◌}
use native.Mathlib.Omega.{arith}
use lib.Dec.{eqb, ltb, leb}
use lib.ListN.{length}
use borrow.Author.Tests.{not-true, not-false, ltb-true, ltb-false, leb-true, leb-false, eqb-true, eqb-false, lt-ltb, le-ltb, le-leb, lt-leb, eq-eqb, ne_eqb}
use Rattle.std.specs.Prelude.{Ok}
use Rattle.rules.specs.Word.{pick}
use Rattle.rules.specs.Layout.{width_of, size_of}
use Rattle.rules.proofs.Booleans.{impossible}
use Rattle.paths.specs.Grammar.{Selector, Path, RefusedAt}
use Rattle.paths.specs.Path.{Reading, good, bad, read_path, large}
use Rattle.query.specs.Items.{lent}
use Rattle.query.specs.Answers.{miss_number, cause_number, refusal_number, refusal_place, refusal_step, number_of, place_of, step_of, after_reading, answer_of}
use Rattle.walks.specs.Conditions.{Sized, Levelled, Lendable, Brief, Walkable, Given, empty, long, levels_out, other_buffer, long_path, no_path, large_number, deep, walked, Walks, Misses, Breaks, Says, WalkGives}
use Rattle.query.specs.declared.types.Miss.{Miss}
use Rattle.query.specs.declared.types.Miss.TheVariants.{NotObject, NotArray, NoName, NoNumber}
use Rattle.query.specs.declared.types.Cause.{Cause}
use Rattle.query.specs.declared.types.Cause.TheVariants.{NoColon, BadName, EmptyValue, BadEscape}
use Rattle.query.specs.declared.types.Refusal.{Refusal}
use Rattle.query.specs.declared.types.Refusal.TheVariants.{EmptyRecord, LongRecord, BadLevels, BadBuffer, BadPath, TooLarge, TooDeep, Missed, Broken}
use Rattle.query.specs.Answer.{Answer, Found, Refused}
use Rattle.paths.proofs.PlaceLaws.{pick_ind}
use Rattle.paths.proofs.Reading.{reads, read_is_path, refused_is_place, place_is_refused}
use Rattle.walks.proofs.Giving.{walk_gives, walk_number}

module _ (text words : List ℕ) (levels : ℕ) (path : List ℕ) where
  -- ---- what is answered is given

  levels_of : not (leb 1 levels && leb levels 16) ≡ false → (1 ≤ levels) × (levels ≤ 16)
  levels_of e = go (leb 1 levels) (leb levels 16) refl refl e
    where
      go : (a b : Bool) → leb 1 levels ≡ a → leb levels 16 ≡ b → not (a && b) ≡ false → (1 ≤ levels) × (levels ≤ 16)
      go true true p q e = (leb-true 1 levels p, leb-true levels 16 q)
      go true false p q e = impossible (cc)
      go false b p q e = impossible (cc)

  levels_not : not (leb 1 levels && leb levels 16) ≡ true → (levels ≡ 0) ⊎ (16 < levels)
  levels_not e = go (leb 1 levels) (leb levels 16) refl refl e
    where
      go : (a b : Bool) → leb 1 levels ≡ a → leb levels 16 ≡ b → not (a && b) ≡ true → (levels ≡ 0) ⊎ (16 < levels)
      go true true p q e = impossible (cc)
      go true false p q e = inr (leb-false levels 16 q)
      go false b p q e = inl (omega (arith, leb-false 1 levels p))

  reading_given : Brief text words levels path → (r : Reading) → read_path path ≡ r → Given text words levels path (after_reading text words levels r)
  reading_given h (bad p) e = no_path h (refused_is_place path p e)
  reading_given h (good ss) e =
      let w = read_is_path path ss e in
      pick_ind (Given text words levels path) (large ss) (Refused TooLarge) _ (λ l. large_number h w l)
      (λ l. pick_ind (Given text words levels path) (ltb levels (length ss)) (Refused TooDeep) _ (λ d. deep h w l (ltb-true levels (length ss) d))
      (λ d. walked (record { brief = h; parsed = w; small = l; few = ltb-false levels (length ss) d }) ((walk_gives text (lent words levels (width_of (length text))) ss _).0 refl)))

  pub answer_given : Given text words levels path (answer_of text words levels path)
  unfolding answer_of
  answer_given =
      let P = Given text words levels path in
      pick_ind P (eqb (length text) 0) (Refused EmptyRecord) _ (λ e. empty (eqb-true (length text) 0 e)) (λ e.
      let some = eqb-false (length text) 0 e in
      pick_ind P (ltb 16777216 (length text)) (Refused LongRecord) _ (λ f. long (ltb-true 16777216 (length text) f)) (λ f.
      let s : Sized text = record { some = omega arith; short = ltb-false 16777216 (length text) f } in
      pick_ind P (not (leb 1 levels && leb levels 16)) (Refused BadLevels) _ (λ g. levels_out s (levels_not g)) (λ g.
      let l : Levelled text levels = record { sized = s; low = (levels_of g).0; high = (levels_of g).1 } in
      pick_ind P (not (eqb (length words) (size_of levels (length text)))) (Refused BadBuffer) _ (λ h. other_buffer l (eqb-false _ _ (not-true _ h))) (λ h.
      let k : Lendable text words levels = record { levelled = l; long = eqb-true _ _ (not-false _ h) } in
      pick_ind P (ltb 1024 (length path)) (Refused TooLarge) _ (λ j. long_path k (ltb-true 1024 (length path) j)) (λ j.
      reading_given (record { lendable = k; short = ltb-false 1024 (length path) j }) (read_path path) refl)))))

  -- ---- what is given is answered

  past_sized : Sized text → answer_of text words levels path
      ≡ pick (not (leb 1 levels && leb levels 16)) (Refused BadLevels) (pick (not (eqb (length words) (size_of levels (length text)))) (Refused BadBuffer)
      (pick (ltb 1024 (length path)) (Refused TooLarge) (after_reading text words levels (read_path path))))
  unfolding answer_of
  past_sized s = rw (ne_eqb (length text) 0 (λ e. omega (arith, s.some)), le-ltb 16777216 (length text) s.short)

  past_levelled : Levelled text levels → answer_of text words levels path
      ≡ pick (not (eqb (length words) (size_of levels (length text)))) (Refused BadBuffer) (pick (ltb 1024 (length path)) (Refused TooLarge) (after_reading text words levels (read_path path)))
  past_levelled l = past_sized l.sized ∙ rw (le-leb 1 levels l.low, le-leb levels 16 l.high)

  past_lendable : Lendable text words levels → answer_of text words levels path ≡ pick (ltb 1024 (length path)) (Refused TooLarge) (after_reading text words levels (read_path path))
  past_lendable k = past_levelled k.levelled ∙ rw (eq-eqb (length words) (size_of levels (length text)) k.long)

  past_brief : {r : Reading} → Brief text words levels path → read_path path ≡ r → answer_of text words levels path ≡ after_reading text words levels r
  past_brief h e = past_lendable h.lendable ∙ rw (le-ltb 1024 (length path) h.short, e)

  pub given_answer : {r : Answer} → Given text words levels path r → answer_of text words levels path ≡ r
  unfolding answer_of
  given_answer (empty e) = rw (eq-eqb (length text) 0 e)
  given_answer (long l) = rw (ne_eqb (length text) 0 (λ e. omega arith), lt-ltb 16777216 (length text) l)
  given_answer (levels_out s l) = past_sized s ∙ ⊎_elim (λ e. rw (lt-leb 1 levels (omega arith))) (λ m. rw (le-leb 1 levels (omega arith), lt-leb levels 16 m)) l
  given_answer (other_buffer l n) = past_levelled l ∙ rw (ne_eqb (length words) (size_of levels (length text)) n)
  given_answer (long_path k l) = past_lendable k ∙ rw (lt-ltb 1024 (length path) l)
  given_answer (no_path {p} h n) = past_brief h (place_is_refused path p n)
  given_answer (large_number h w l) = past_brief h (reads w) ∙ rw l
  given_answer (deep {ss} h w l d) = past_brief h (reads w) ∙ rw (l, lt-ltb levels (length ss) d)
  given_answer (walked {r} {ss} w g) = past_brief w.brief (reads w.parsed) ∙ rw (w.small, le-ltb levels (length ss) w.few) ((walk_gives text (lent words levels (width_of (length text))) ss r).1 g)

  -- a query gives an answer exactly where it is given
  pub answer_exactly : (r : Answer) → (answer_of text words levels path ≡ r) ↔ (Given text words levels path r)
  answer_exactly r = (λ e. subst (Given text words levels path) e answer_given, given_answer)

  -- ---- by number

  -- the condition of each number
  abbrev Condition : ℕ → Type 0
  Condition n =
      pick (eqb n 0) ((s : ℕ) × (e : ℕ) × Walks text words levels path (Found s e))
      (pick (eqb n 1) (length text ≡ 0)
      (pick (eqb n 2) (16777216 < length text)
      (pick (eqb n 3) (Sized text × ((levels ≡ 0) ⊎ (16 < levels)))
      (pick (eqb n 4) (Levelled text levels × (length words ≡ size_of levels (length text) → ⊥))
      (pick (eqb n 20) ((p : ℕ) × Brief text words levels path × RefusedAt path p)
      (pick (eqb n 21) ((Lendable text words levels × (1024 < length path)) ⊎ ((ss : List Selector) × Brief text words levels path × Path path ss × (large ss ≡ true)))
      (pick (eqb n 22) ((ss : List Selector) × Brief text words levels path × Path path ss × (large ss ≡ false) × (levels < length ss))
      (pick (eqb n 23) (Misses text words levels path NotObject)
      (pick (eqb n 24) (Misses text words levels path NotArray)
      (pick (eqb n 25) (Misses text words levels path NoName)
      (pick (eqb n 26) (Misses text words levels path NoNumber)
      (pick (eqb n 27) (Breaks text words levels path NoColon) (pick (eqb n 28) (Breaks text words levels path BadName) (pick (eqb n 29) (Breaks text words levels path EmptyValue) (Breaks text words levels path BadEscape)))))))))))))))

  walks : {ss : List Selector} {r : Answer} → Walkable text words levels path ss → WalkGives text (lent words levels (width_of (length text))) ss r → Walks text words levels path r
  walks {ss} w g = record { selectors = ss; walkable = w; gives = g }

  walked_number : {ss : List Selector} → Walkable text words levels path ss → (r : Answer) → WalkGives text (lent words levels (width_of (length text))) ss r → Condition (number_of r)
  walked_number {ss} w (Ok part) g = (part.start, part.end, walks w g)
  walked_number {ss} w (Refused why) g = halted why g (walk_number text (lent words levels (width_of (length text))) ss g)
    where
      halted : (why : Refusal) → WalkGives text (lent words levels (width_of (length text))) ss (Refused why) → 23 ≤ refusal_number why → Condition (refusal_number why)
      halted EmptyRecord g l = absurd (omega arith)
      halted LongRecord g l = absurd (omega arith)
      halted BadLevels g l = absurd (omega arith)
      halted BadBuffer g l = absurd (omega arith)
      halted (BadPath p) g l = absurd (omega arith)
      halted TooLarge g l = absurd (omega arith)
      halted TooDeep g l = absurd (omega arith)
      halted (Missed NotObject k p) g l = (k, p, walks w g)
      halted (Missed NotArray k p) g l = (k, p, walks w g)
      halted (Missed NoName k p) g l = (k, p, walks w g)
      halted (Missed NoNumber k p) g l = (k, p, walks w g)
      halted (Broken NoColon k p) g l = (k, p, walks w g)
      halted (Broken BadName k p) g l = (k, p, walks w g)
      halted (Broken EmptyValue k p) g l = (k, p, walks w g)
      halted (Broken BadEscape k p) g l = (k, p, walks w g)

  numbered : {r : Answer} → Given text words levels path r → Condition (number_of r)
  numbered (empty e) = e
  numbered (long l) = l
  numbered (levels_out s l) = (s, l)
  numbered (other_buffer l n) = (l, n)
  numbered (long_path k l) = inl (k, l)
  numbered (no_path {p} h n) = (p, h, n)
  numbered (large_number {ss} h w l) = inr (ss, h, w, l)
  numbered (deep {ss} h w l d) = (ss, h, w, l, d)
  numbered (walked {r} w g) = walked_number w r g

  because : {n : ℕ} → number_of (answer_of text words levels path) ≡ n → Condition n
  because e = subst Condition e (numbered answer_given)

  so : {r : Answer} → Given text words levels path r → number_of (answer_of text words levels path) ≡ number_of r
  so g = ap number_of (given_answer g)

  walks_so : {r : Answer} → Walks text words levels path r → number_of (answer_of text words levels path) ≡ number_of r
  walks_so h = so (walked h.walkable h.gives)

  -- done
  pub number_0 : (number_of (answer_of text words levels path) ≡ 0) ↔ ((s : ℕ) × (e : ℕ) × Walks text words levels path (Found s e))
  number_0 = (λ e. because e, λ h. walks_so h.2)

  -- "record empty"
  pub number_1 : (number_of (answer_of text words levels path) ≡ 1) ↔ (length text ≡ 0)
  number_1 = (λ e. because e, λ h. so (empty h))

  -- "record above 16,777,216 bytes"
  pub number_2 : (number_of (answer_of text words levels path) ≡ 2) ↔ (16777216 < length text)
  number_2 = (λ e. because e, λ h. so (long h))

  -- "L not in 1..16"
  pub number_3 : (number_of (answer_of text words levels path) ≡ 3) ↔ (Sized text × ((levels ≡ 0) ⊎ (16 < levels)))
  number_3 = (λ e. because e, λ h. so (levels_out h.0 h.1))

  -- "word buffer not (2+2L)·W long"
  pub number_4 : (number_of (answer_of text words levels path) ≡ 4) ↔ (Levelled text levels × (length words ≡ size_of levels (length text) → ⊥))
  number_4 = (λ e. because e, λ h. so (other_buffer h.0 h.1))

  -- "path not in the grammar"
  pub number_20 : (number_of (answer_of text words levels path) ≡ 20) ↔ ((p : ℕ) × Brief text words levels path × RefusedAt path p)
  number_20 = (λ e. because e, λ h. so (no_path h.1 h.2))

  -- with its place
  pub place_20 : (p : ℕ) → Brief text words levels path → RefusedAt path p → place_of (answer_of text words levels path) ≡ p
  place_20 p h n = ap place_of (given_answer (no_path h n))

  -- "path above 1,024 bytes, or a number above 16,777,215"
  pub number_21 : (number_of (answer_of text words levels path) ≡ 21) ↔
      ((Lendable text words levels × (1024 < length path)) ⊎ ((ss : List Selector) × Brief text words levels path × Path path ss × (large ss ≡ true)))
  number_21 = (λ e. because e, ⊎_elim (λ h. so (long_path h.0 h.1)) (λ h. so (large_number h.1 h.2 h.3)))

  -- "more steps than L"
  pub number_22 : (number_of (answer_of text words levels path) ≡ 22) ↔ ((ss : List Selector) × Brief text words levels path × Path path ss × (large ss ≡ false) × (levels < length ss))
  number_22 = (λ e. because e, λ h. so (deep h.1 h.2 h.3 h.4))

  -- "value is not an object / not an array"
  pub number_23 : (number_of (answer_of text words levels path) ≡ 23) ↔ Misses text words levels path NotObject
  number_23 = (λ e. because e, λ h. walks_so h.2)

  pub number_24 : (number_of (answer_of text words levels path) ≡ 24) ↔ Misses text words levels path NotArray
  number_24 = (λ e. because e, λ h. walks_so h.2)

  -- "no such name / no such number"
  pub number_25 : (number_of (answer_of text words levels path) ≡ 25) ↔ Misses text words levels path NoName
  number_25 = (λ e. because e, λ h. walks_so h.2)

  pub number_26 : (number_of (answer_of text words levels path) ≡ 26) ↔ Misses text words levels path NoNumber
  number_26 = (λ e. because e, λ h. walks_so h.2)

  -- "27 no colon, 28 bad name, 29 empty value"
  pub number_27 : (number_of (answer_of text words levels path) ≡ 27) ↔ Breaks text words levels path NoColon
  number_27 = (λ e. because e, λ h. walks_so h.2)

  pub number_28 : (number_of (answer_of text words levels path) ≡ 28) ↔ Breaks text words levels path BadName
  number_28 = (λ e. because e, λ h. walks_so h.2)

  pub number_29 : (number_of (answer_of text words levels path) ≡ 29) ↔ Breaks text words levels path EmptyValue
  number_29 = (λ e. because e, λ h. walks_so h.2)

  -- "a name with an escape RFC 8259 has not, or an unpaired surrogate"
  pub number_30 : (number_of (answer_of text words levels path) ≡ 30) ↔ Breaks text words levels path BadEscape
  number_30 = (λ e. because e, λ h. walks_so h.2)

  -- ---- with step and place

  walks_say : {why : Refusal} → Walks text words levels path (Refused why) → Says text words levels path (refusal_number why) (refusal_step why) (refusal_place why)
  walks_say h = let e = given_answer (walked h.walkable h.gives) in (ap number_of e, ap step_of e, ap place_of e)

  -- a walk that stops stops at the step and place that are told
  there : {n k p j q : ℕ} (at : ℕ → ℕ → Refusal) → Says text words levels path n k p → Says text words levels path n j q → Walks text words levels path (Refused (at j q)) → Walks text words levels path (Refused (at k p))
  there {k = k} {q = q} at s t w =
      subst (λ (y : ℕ). Walks text words levels path (Refused (at k y))) (sym t.2 ∙ s.2) (subst (λ (x : ℕ). Walks text words levels path (Refused (at x q))) (sym t.1 ∙ s.1) w)

  pub missed_exactly : (why : Miss) (k p : ℕ) → Says text words levels path (miss_number why) k p ↔ Walks text words levels path (Refused (Missed why k p))
  missed_exactly why k p = (λ s. let h = some why s.0 in there (Missed why) s (walks_say h.2) h.2, λ w. walks_say w)
    where
      some : (why : Miss) → number_of (answer_of text words levels path) ≡ miss_number why → Misses text words levels path why
      some NotObject e = because e
      some NotArray e = because e
      some NoName e = because e
      some NoNumber e = because e

  pub broken_exactly : (why : Cause) (k p : ℕ) → Says text words levels path (cause_number why) k p ↔ Walks text words levels path (Refused (Broken why k p))
  broken_exactly why k p = (λ s. let h = some why s.0 in there (Broken why) s (walks_say h.2) h.2, λ w. walks_say w)
    where
      some : (why : Cause) → number_of (answer_of text words levels path) ≡ cause_number why → Breaks text words levels path why
      some NoColon e = because e
      some BadName e = because e
      some EmptyValue e = because e
      some BadEscape e = because e
