-- What the tests of a value and of an item say of places, each exactly: by the first place of a test from the left, and the last from the right.
use Rattle.std.proofs.Common.{Ok, Err}
use Prim.Native.Nat.{ℕ, ◌+◌, ◌-◌, ◌≤◌, ◌<◌}
use mathlib.Core.Path.{◌≡◌, refl, sym, ap, ap₂, ◌∙◌, subst}
use mathlib.Core.Logic.{◌↔◌}
use mathlib.Core.Bool.{Bool, true, false, true≢false, ◌&&◌, not-eq-not}
use mathlib.Core.List.{List}
use native.Mathlib.Omega.{arith}
use native.Mathlib.Decide.{dec_lt}
use lib.Dec.{ltb, eqb}
use borrow.Author.Tests.{ltb-true, ltb-false, lt-ltb, le-ltb, eqb-true, eq-eqb}
use Rattle.paths.specs.Places.{between, first_at, past_last}
use Rattle.names.specs.Spelling.{matched, on_match, no_escape, Match}
use Rattle.names.specs.Spells.{Spells, Compares}
use Rattle.query.specs.Items.{Bits, solid, trim_start, trim_end, value_at, quoted, keyed, item_at}
use Rattle.query.specs.Walk.{framed, filled}
use Rattle.walks.specs.Members.{FirstPlace, OnlyBlanks, Trimmed, Framed, Quoted, Whole, Member, no_colon, bad_name, bad_escape, other, empty, found}
use Rattle.query.specs.declared.types.Cause.TheVariants.{EmptyValue, BadEscape}
use Rattle.query.specs.Item.{Item, Found, Other, Broken}
use Rattle.paths.proofs.PlaceLaws.{pick_ind, first_ge, first_le, first_hit, first_miss, first_at_is, first_all, last_none, last_bounds, last_hit, last_miss, last_at}
use Rattle.paths.proofs.PathLaws.{both_true}
use Rattle.names.proofs.Spelled.{matched_exactly}

-- ---- a value

-- what lies from a to e "without end blanks", or that there are only blanks, in the item that begins at `place`
pub data Value (byte : ℕ → ℕ) (place a e : ℕ) : Item → Type 0 where
  part : {p q : ℕ} → Trimmed byte a e p q → Value byte place a e (Found p q)
  blank : OnlyBlanks byte a e → Value byte place a e (Broken EmptyValue place)

module _ (byte : ℕ → ℕ) (a e : ℕ) (h : a ≤ e) where
  trimmed : trim_start byte a e < trim_end byte a e → Trimmed byte a e (trim_start byte a e) (trim_end byte a e)
  trimmed l =
      let t = solid byte in
      let p = trim_start byte a e in
      let o = first_le t a e h in
      let i = last_bounds t p e o in
      record {
        from = first_ge t a e h;
        some = l;
        to = i.1;
        before = first_miss t a e h;
        first = first_hit t a e h (omega arith);
        last = last_hit t p e l;
        behind = last_miss t p e o;
      }

  untrimmed : trim_end byte a e ≤ trim_start byte a e → OnlyBlanks byte a e
  untrimmed l i f g =
      let t = solid byte in
      let p = trim_start byte a e in
      elim (dec_lt p e) [
        | yes m ↦ absurd (true≢false (sym (first_hit t a e h m) ∙ last_miss t p e (first_le t a e h) p l m))
        | no m ↦ first_miss t a e h i f (omega arith)
      ]

  pub value_is : (place : ℕ) → Value byte place a e (value_at byte place a e)
  unfolding value_at
  value_is place =
      pick_ind (Value byte place a e) (ltb (trim_start byte a e) (trim_end byte a e)) _ _ (λ l. part (trimmed (ltb-true _ _ l))) (λ l. blank (untrimmed (ltb-false _ _ l)))

  trim_start_is : {p q : ℕ} → Trimmed byte a e p q → trim_start byte a e ≡ p
  trim_start_is {p} {q} w = first_at_is (solid byte) a p e w.from (omega (arith, w.some, w.to)) w.before w.first

  trim_end_is : {p q : ℕ} → Trimmed byte a e p q → trim_end byte a e ≡ q
  trim_end_is {p} {q} w = ap (λ (x : ℕ). past_last (solid byte) x e) (trim_start_is w) ∙ last_at (solid byte) p q e w.some w.to w.last w.behind

  pub value_at_is : {place : ℕ} {r : Item} → Value byte place a e r → value_at byte place a e ≡ r
  unfolding value_at
  value_at_is (part {p} {q} w) = rw (trim_end_is w, trim_start_is w, lt-ltb p q w.some)
  value_at_is (blank o) = rw (first_all (solid byte) a e h o, last_none (solid byte) e e (omega arith), le-ltb e e (omega arith))

-- ---- a value's ends

pub framed_exactly : (byte : ℕ → ℕ) (head tail a e : ℕ) → (framed byte head tail a e ≡ true) ↔ Framed byte head tail a e
unfolding framed
framed_exactly byte head tail a e = (to, λ w. rw (lt-ltb (a + 1) e w.long, eq-eqb (byte a) head w.first, eq-eqb (byte (e - 1)) tail w.last))
  where
    to : (ltb (a + 1) e && (eqb (byte a) head && eqb (byte (e - 1)) tail)) ≡ true → Framed byte head tail a e
    to q =
        let x = both_true (ltb (a + 1) e) _ q in
        let y = both_true (eqb (byte a) head) _ x.1 in
        record { long = ltb-true (a + 1) e x.0; first = eqb-true (byte a) head y.0; last = eqb-true (byte (e - 1)) tail y.1 }

pub filled_exactly : (byte : ℕ → ℕ) (a e : ℕ) → a + 1 < e → (filled byte a e ≡ false) ↔ OnlyBlanks byte (a + 1) (e - 1)
unfolding filled
filled_exactly byte a e h =
    let t = solid byte in (
      λ q i f g. first_miss t (a + 1) (e - 1) (omega arith) i f (omega (arith, ltb-false (trim_start byte (a + 1) (e - 1)) (e - 1) q)),
      λ o. rw (first_all t (a + 1) (e - 1) (omega arith) o, le-ltb (e - 1) (e - 1) (omega arith)),
    )

-- ---- an item of a name step

module _ (quote : ℕ → Bool) (p q : ℕ) where
  pub quoted_exactly : (quoted quote p q ≡ true) ↔ Quoted quote p q
  unfolding quoted
  quoted_exactly = (to, λ w. rw (lt-ltb (p + 1) q w.long, w.opens, eq-eqb (first_at quote (p + 1) q + 1) q (ends_at w)))
    where
      to : (ltb (p + 1) q && (quote p && eqb (first_at quote (p + 1) q + 1) q)) ≡ true → Quoted quote p q
      to e =
          let x = both_true (ltb (p + 1) q) _ e in
          let y = both_true (quote p) _ x.1 in
          let l = ltb-true (p + 1) q x.0 in
          let z = eqb-true (first_at quote (p + 1) q + 1) q y.1 in
          let c : first_at quote (p + 1) q ≡ q - 1 = omega arith in
          record {
            long = l;
            opens = y.0;
            inner = λ i f g. first_miss quote (p + 1) q (omega arith) i f (omega arith);
            closes = ap quote (sym c) ∙ first_hit quote (p + 1) q (omega arith) (omega arith);
          }

      ends_at : Quoted quote p q → first_at quote (p + 1) q + 1 ≡ q
      ends_at w = let l = w.long in omega (arith, first_at_is quote (p + 1) (q - 1) q (omega arith) (omega arith) w.inner w.closes)

module _ (byte : ℕ → ℕ) (bits : Bits) (k : ℕ) (n : List ℕ) (s f : ℕ) where
  first_colon : s ≤ f → first_at (bits.colon k) s f < f → FirstPlace (bits.colon k) s f (first_at (bits.colon k) s f)
  first_colon h l = record { from = first_ge (bits.colon k) s f h; inside = l; holds = first_hit (bits.colon k) s f h l; none = first_miss (bits.colon k) s f h }

  named : {d : ℕ} {m : List ℕ} {r : Item} → Whole byte bits k s f d m → Spells m n → Value byte s (d + 1) f r → Member byte bits k n s f r
  named w e (part v) = found w e v
  named w e (blank o) = empty w e o

  by_name : {d : ℕ} {m : List ℕ} {r : Match} → Whole byte bits k s f d m → Compares n m r → Member byte bits k n s f (on_match r (value_at byte s (d + 1) f) Other (Broken BadEscape s))
  by_name {d} w (Compares.same e) = named w e (value_is byte (d + 1) f (omega (arith, w.colon.inside)) s)
  by_name w (Compares.different e h) = other w e h
  by_name w (Compares.bad_escape h) = bad_escape w h

  keyed_is : {d : ℕ} → FirstPlace (bits.colon k) s f d → Member byte bits k n s f (keyed byte bits.quote (matched n) s d f)
  unfolding keyed
  keyed_is {d} c =
      let M = Member byte bits k n s f in
      let p = trim_start byte s d in
      let q = trim_end byte s d in
      let m = between byte (p + 1) (q - 1) in
      pick_ind M (quoted bits.quote p q) _ _
      (λ y.
      let z = (quoted_exactly bits.quote p q).0 y in
      let w : Whole byte bits k s f d m = record { from = p; to = q; colon = c; front = trimmed byte s d c.from (omega (arith, z.long)); quoted = z; name = refl } in
      by_name w ((matched_exactly n m (matched n m)).0 refl))
      (λ y. bad_name c (λ p' q' t z.
      true≢false (sym (ap₂ (quoted bits.quote) (trim_start_is byte s d c.from t) (trim_end_is byte s d c.from t) ∙ (quoted_exactly bits.quote p' q').1 z) ∙ y)))

  item_is : s ≤ f → Member byte bits k n s f (item_at byte bits k (matched n) s f)
  unfolding item_at
  item_is h =
      let d = first_at (bits.colon k) s f in
      pick_ind (Member byte bits k n s f) (ltb d f) _ _ (λ l. keyed_is (first_colon h (ltb-true d f l)))
      (λ l. no_colon (λ i g j. first_miss (bits.colon k) s f h i g (omega (arith, ltb-false d f l))))

  at_colon : {d : ℕ} → FirstPlace (bits.colon k) s f d → item_at byte bits k (matched n) s f ≡ keyed byte bits.quote (matched n) s d f
  unfolding item_at
  at_colon {d} c = rw (first_at_is (bits.colon k) s d f c.from c.inside c.none c.holds, lt-ltb d f c.inside)

  at_name : {d : ℕ} {m : List ℕ} → Whole byte bits k s f d m → item_at byte bits k (matched n) s f ≡ on_match (matched n m) (value_at byte s (d + 1) f) Other (Broken BadEscape s)
  unfolding keyed
  at_name {d} w = at_colon w.colon
      ∙ rw (trim_end_is byte s d w.colon.from w.front, trim_start_is byte s d w.colon.from w.front, (quoted_exactly bits.quote w.from w.to).1 w.quoted, ← w.name)

  item_at_is : {r : Item} → s ≤ f → Member byte bits k n s f r → item_at byte bits k (matched n) s f ≡ r
  unfolding item_at keyed
  item_at_is h (no_colon o) = rw (first_all (bits.colon k) s f h o, le-ltb f f (omega arith))
  item_at_is h (bad_name {d} c o) = at_colon c ∙ rw ((not-eq-not {a = quoted bits.quote (trim_start byte s d) (trim_end byte s d)} {b = false}).0 (λ y. let z = (quoted_exactly bits.quote _ _).0 y in o _ _ (trimmed byte s d c.from (omega (arith, z.long))) z))
  item_at_is h (bad_escape w g) = at_name w ∙ rw ((matched_exactly n _ (Err no_escape)).1 (Compares.bad_escape g))
  item_at_is h (other w e g) = at_name w ∙ rw ((matched_exactly n _ (Ok false)).1 (Compares.different e g))
  item_at_is h (empty {d} w e o) = at_name w ∙ rw ((matched_exactly n _ (Ok true)).1 (Compares.same e)) (value_at_is byte (d + 1) f (omega (arith, w.colon.inside)) (blank o))
  item_at_is h (found {d} w e v) = at_name w ∙ rw ((matched_exactly n _ (Ok true)).1 (Compares.same e)) (value_at_is byte (d + 1) f (omega (arith, w.colon.inside)) (part v))

  -- what an item is to a name step
  pub item_exactly : (r : Item) → s ≤ f → (item_at byte bits k (matched n) s f ≡ r) ↔ Member byte bits k n s f r
  item_exactly r h = (λ e. subst (Member byte bits k n s f) e (item_is h), item_at_is h)
