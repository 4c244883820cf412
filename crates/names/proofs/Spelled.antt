-- The reading of a name is exactly the derivations of `Spells`, and the comparison goes by them. One way by taking apart the tests that a character
-- passed, the other by computing them for each derivation.
use Prim.Native.Nat.{ℕ, zero, suc, ◌+◌, ◌*◌, ◌<◌}
use mathlib.Core.Path.{◌≡◌, refl, sym, ap, ◌∙◌, subst}
use mathlib.Core.Bool.{Bool, true, false, ◌&&◌, true≢false, false≢true, not-eq-not}
use mathlib.Core.Logic.{◌≢◌, ◌↔◌}
use mathlib.Core.List.{List, [], ◌∷◌}
use native.Mathlib.Omega.{arith}
use lib.Dec.{eqb, ltb}
use lib.ListN.{get_or, drop}
use lib.Seq.{drop-drop}
use borrow.Author.Tests.{ne_eqb, eqb-true, eqb-false, lt-ltb, ltb-true}
use Rattle.rules.specs.Word.{pick}
use Rattle.rules.proofs.Booleans.{impossible}
use Rattle.paths.specs.Path.{in_range}
use Rattle.paths.proofs.PlaceLaws.{pick_ind}
use Rattle.paths.proofs.PathLaws.{range_in, range_above, range_of, both_true}
use Rattle.texts.specs.Grammar.{Hexdig, Short}
use Rattle.texts.specs.Nodes.{is_high, is_low, paired}
use Rattle.names.specs.Spelling.{hex_of, is_hex, four_of, unit_of, short_of, wide, one, spelt, Spelling, spelled, wrong, on_spelt, with_one, spell_from, spelling, same, Match, compared, matched}
use Rattle.names.specs.Spells.{Unit4, u_xxxx, Spells, Compares}
use Rattle.names.specs.declared.Spelt.{Spelt}
use Rattle.names.specs.declared.BadEscape.{BadEscape}
use Rattle.std.proofs.Common.{Result, Ok, Err}
use Rattle.names.proofs.Comparing.{same_exactly}
use Rattle.names.proofs.SpellingLaws.{spelling_none, spelling_one, spelling_wrong}

-- ---- a hexadecimal digit, four, and `\u` before them

hex_value : {b x : ℕ} → Hexdig b x → (hex_of b ≡ x) × (x < 16)
unfolding hex_of
hex_value (Hexdig.digit {b} i) = (rw (range_in 0x30 0x39 b i.low i.high), omega (arith, i.low, i.high))
hex_value (Hexdig.upper {b} i) = (rw (range_above 0x30 0x39 b (omega (arith, i.low)) (omega (arith, i.low)), range_in 0x41 0x46 b i.low i.high), omega (arith, i.low, i.high))
hex_value (Hexdig.lower {b} i) = (
  rw (range_above 0x30 0x39 b (omega (arith, i.low)) (omega (arith, i.low)), range_above 0x41 0x46 b (omega (arith, i.low)) (omega (arith, i.low)), range_in 0x61 0x66 b i.low i.high),
  omega (arith, i.low, i.high),
)

is_hex_holds : {b x : ℕ} → Hexdig b x → is_hex b ≡ true
is_hex_holds {b} {x} h = let v = hex_value h in rw v.0 (lt-ltb x 16 v.1)

hex_sound : (b : ℕ) → is_hex b ≡ true → Hexdig b (hex_of b)
unfolding hex_of
hex_sound b e =
    pick_ind (λ v. ltb v 16 ≡ true → Hexdig b v) (in_range 0x30 0x39 b) _ _ (λ h _. let r = range_of 0x30 0x39 b h in Hexdig.digit (record { low = r.0; high = r.1 }))
    (λ _. pick_ind (λ v. ltb v 16 ≡ true → Hexdig b v) (in_range 0x41 0x46 b) _ _ (λ h _. let r = range_of 0x41 0x46 b h in Hexdig.upper (record { low = r.0; high = r.1 }))
    (λ _. pick_ind (λ v. ltb v 16 ≡ true → Hexdig b v) (in_range 0x61 0x66 b) _ _ (λ h _. let r = range_of 0x61 0x66 b h in Hexdig.lower (record { low = r.0; high = r.1 })) (λ _ f. absurd (false≢true f)))) e

-- `\u` with its digits in front: the 16 bits, and how the list goes on
pub unit_value : {bs rest : List ℕ} {u : ℕ} → Unit4 bs u rest → (unit_of bs ≡ u) × (u < 0x10000)
unfolding unit_of four_of
unit_value (u_xxxx a b c d) =
    let x = hex_value a in
    let y = hex_value b in
    let z = hex_value c in
    let u = hex_value d in
    (rw (is_hex_holds a, is_hex_holds b, is_hex_holds c, is_hex_holds d, x.0, y.0, z.0, u.0), omega (arith, x.1, y.1, z.1, u.1))

unit_spelt : {bs mid : List ℕ} {u : ℕ} → Unit4 bs u mid → spelt bs ≡ wide u (unit_of mid)
unfolding spelt
unit_spelt {mid} {u} (u_xxxx a b c d) = let v = unit_value (u_xxxx {bs = mid} a b c d) in rw (v.0, lt-ltb u 0x10000 v.1)

-- ---- a derivation, read

pub plain_one : (b : ℕ) (bs : List ℕ) → b ≢ 0x5C → spelling (b ∷ bs) ≡ with_one b (spelling bs)
unfolding spelt
plain_one b bs h = spelling_one {s = record { character = b; more = 0 }} b bs (rw (ne_eqb b 0x5C h))

short_spelt : {a u : ℕ} (bs : List ℕ) → Short a u → spelt (0x5C ∷ a ∷ bs) ≡ one u 1
unfolding spelt unit_of short_of
short_spelt bs Short.quotation_mark = refl
short_spelt bs Short.reverse_solidus = refl
short_spelt bs Short.solidus = refl
short_spelt bs Short.backspace = refl
short_spelt bs Short.form_feed = refl
short_spelt bs Short.line_feed = refl
short_spelt bs Short.carriage_return = refl
short_spelt bs Short.tab = refl

pub short_one : {a u : ℕ} (bs : List ℕ) → Short a u → spelling (0x5C ∷ a ∷ bs) ≡ with_one u (spelling bs)
short_one {a} bs s = spelling_one 0x5C (a ∷ bs) (short_spelt bs s)

pub unit_one : {bs mid : List ℕ} {u : ℕ} → Unit4 bs u mid → is_high u ≡ false → is_low u ≡ false → spelling bs ≡ with_one u (spelling mid)
unit_one {mid} {u} (u_xxxx a b c d) h l = spelling_one {s = record { character = u; more = 5 }} 0x5C _ (unit_spelt (u_xxxx {bs = mid} a b c d) ∙ rw (h, l))

pub unit_low : {bs mid : List ℕ} {u : ℕ} → Unit4 bs u mid → is_high u ≡ false → is_low u ≡ true → spelling bs ≡ wrong
unit_low {mid} (u_xxxx a b c d) h l = spelling_wrong 0x5C _ (unit_spelt (u_xxxx {bs = mid} a b c d) ∙ rw (h, l))

pub unit_half : {bs mid : List ℕ} {u : ℕ} → Unit4 bs u mid → is_high u ≡ true → is_low (unit_of mid) ≡ false → spelling bs ≡ wrong
unit_half {mid} (u_xxxx a b c d) h l = spelling_wrong 0x5C _ (unit_spelt (u_xxxx {bs = mid} a b c d) ∙ rw (h, l))

pub unit_pair : {bs mid rest : List ℕ} {u v : ℕ} → Unit4 bs u mid → is_high u ≡ true → Unit4 mid v rest → is_low v ≡ true → spelling bs ≡ with_one (paired u v) (spelling rest)
unit_pair {rest} {u} {v} (u_xxxx a b c d) h (u_xxxx e f g i) l =
    spelling_one {s = record { character = paired u v; more = 11 }} 0x5C _ (unit_spelt (u_xxxx a b c d) ∙ rw (h, (unit_value (u_xxxx {bs = rest} e f g i)).0, l))

spells_spelled : {bs us : List ℕ} → Spells bs us → spelling bs ≡ spelled us
spells_spelled Spells.none = spelling_none
spells_spelled (Spells.plain {b} {bs} h s) = plain_one b bs h ∙ ap (with_one b) (spells_spelled s)
spells_spelled (Spells.short {u} {bs} h s) = short_one bs h ∙ ap (with_one u) (spells_spelled s)
spells_spelled (Spells.u_xxxx {u} x h l s) = unit_one x h l ∙ ap (with_one u) (spells_spelled s)
spells_spelled (Spells.pair {u} {v} x h y l s) = unit_pair x h y l ∙ ap (with_one (paired u v)) (spells_spelled s)

-- ---- what is read, derived

-- the tests that `\u` and four digits have passed
record Tested (bs : List ℕ) : Type 0 where
  first : get_or bs 0 0 ≡ 0x5C
  second : get_or bs 1 0 ≡ 0x75
  digits : (is_hex (get_or bs 2 0) ≡ true) × (is_hex (get_or bs 3 0) ≡ true) × (is_hex (get_or bs 4 0) ≡ true) × (is_hex (get_or bs 5 0) ≡ true)
  value : unit_of bs ≡ ((hex_of (get_or bs 2 0) * 16 + hex_of (get_or bs 3 0)) * 16 + hex_of (get_or bs 4 0)) * 16 + hex_of (get_or bs 5 0)

picked : (b : Bool) (x : ℕ) → pick b x 0x10000 < 0x10000 → b ≡ true
picked true x l = refl
picked false x l = absurd (omega arith)

tested : (bs : List ℕ) → unit_of bs < 0x10000 → Tested bs
unfolding unit_of four_of
tested bs l =
    let at : ℕ → ℕ = λ k. get_or bs k 0 in
    let p = picked (eqb (at 0) 0x5C && eqb (at 1) 0x75) _ l in
    let q = picked (is_hex (at 2) && (is_hex (at 3) && (is_hex (at 4) && is_hex (at 5)))) _ (rw p at l) in
    let u = both_true (eqb (at 0) 0x5C) _ p in
    let x = both_true (is_hex (at 2)) _ q in
    let y = both_true (is_hex (at 3)) _ x.1 in
    let z = both_true (is_hex (at 4)) _ y.1 in
    record { first = eqb-true (at 0) 0x5C u.0; second = eqb-true (at 1) 0x75 u.1; digits = (x.0, y.0, z.0, z.1); value = rw (p, q) }

-- no digit, where the list has ended
unit_derived : (bs : List ℕ) → Tested bs → Unit4 bs (unit_of bs) (drop 6 bs)
unfolding hex_of
unit_derived [] t = absurd (false≢true t.digits.3)
unit_derived (a ∷ []) t = absurd (false≢true t.digits.3)
unit_derived (a ∷ b ∷ []) t = absurd (false≢true t.digits.3)
unit_derived (a ∷ b ∷ c ∷ []) t = absurd (false≢true t.digits.3)
unit_derived (a ∷ b ∷ c ∷ d ∷ []) t = absurd (false≢true t.digits.3)
unit_derived (a ∷ b ∷ c ∷ d ∷ e ∷ []) t = absurd (false≢true t.digits.3)
unit_derived (a ∷ b ∷ c ∷ d ∷ e ∷ f ∷ bs) t =
    let h = t.digits in
    rw (t.value, t.first, t.second) (u_xxxx (hex_sound c h.0) (hex_sound d h.1) (hex_sound e h.2) (hex_sound f h.3))

-- a letter behind the backslash
abbrev Letter : ℕ → ℕ → Type 0
Letter b u = 0 < u → Short b u

short_derived : (b : ℕ) → Letter b (short_of b)
unfolding short_of
short_derived b =
    pick_ind (Letter b) (eqb b 0x22) _ _ (λ h _. rw (eqb-true b 0x22 h) Short.quotation_mark)
    (λ _. pick_ind (Letter b) (eqb b 0x5C) _ _ (λ h _. rw (eqb-true b 0x5C h) Short.reverse_solidus)
    (λ _. pick_ind (Letter b) (eqb b 0x2F) _ _ (λ h _. rw (eqb-true b 0x2F h) Short.solidus)
    (λ _. pick_ind (Letter b) (eqb b 0x62) _ _ (λ h _. rw (eqb-true b 0x62 h) Short.backspace)
    (λ _. pick_ind (Letter b) (eqb b 0x66) _ _ (λ h _. rw (eqb-true b 0x66 h) Short.form_feed)
    (λ _. pick_ind (Letter b) (eqb b 0x6E) _ _ (λ h _. rw (eqb-true b 0x6E h) Short.line_feed)
    (λ _. pick_ind (Letter b) (eqb b 0x72) _ _ (λ h _. rw (eqb-true b 0x72 h) Short.carriage_return)
    (λ _. pick_ind (Letter b) (eqb b 0x74) _ _ (λ h _. rw (eqb-true b 0x74 h) Short.tab) (λ _ l. absurd (omega arith)))))))))

-- what stands in front, and a derivation of what is behind it
abbrev Derives : ℕ → List ℕ → Result Spelt BadEscape → Type 0
Derives b bs (Ok s) = (us : List ℕ) → Spells (drop s.more bs) us → Spells (b ∷ bs) (s.character ∷ us)
Derives b bs (Err e) = Unit {0}

low_small : (v : ℕ) → is_low v ≡ true → v < 0x10000
low_small v h = let r = range_of 0xDC00 0xDFFF v h in omega arith

wide_derived : (b : ℕ) (bs : List ℕ) → unit_of (b ∷ bs) < 0x10000 → Derives b bs (wide (unit_of (b ∷ bs)) (unit_of (drop 5 bs)))
wide_derived b bs l =
    let u = unit_of (b ∷ bs) in
    let v = unit_of (drop 5 bs) in
    let x = unit_derived (b ∷ bs) (tested (b ∷ bs) l) in
    pick_ind (Derives b bs) (is_high u) _ _
    (λ h. pick_ind (Derives b bs) (is_low v) _ _
    (λ k us s. Spells.pair x h (unit_derived (drop 5 bs) (tested (drop 5 bs) (low_small v k))) k (rw (drop-drop 6 5 bs) s)) (λ _. tt))
    (λ h. pick_ind (Derives b bs) (is_low u) _ _ (λ _. tt) (λ k us s. Spells.u_xxxx x h k s))

letter_derived : (bs : List ℕ) → 0 < short_of (get_or bs 0 0) → Derives 0x5C bs (one (short_of (get_or bs 0 0)) 1)
unfolding short_of
letter_derived [] l = absurd (omega arith)
letter_derived (a ∷ bs) l = λ us s. Spells.short (short_derived a l) s

front_derived : (b : ℕ) (bs : List ℕ) → Derives b bs (spelt (b ∷ bs))
unfolding spelt
front_derived b bs =
    pick_ind (Derives b bs) (eqb b 0x5C) _ _
    (λ h. pick_ind (Derives b bs) (ltb (unit_of (b ∷ bs)) 0x10000) _ _ (λ l. wide_derived b bs (ltb-true _ 0x10000 l))
    (λ _. pick_ind (Derives b bs) (ltb 0 (short_of (get_or bs 0 0))) _ _ (λ l. rw (eqb-true b 0x5C h) (letter_derived bs (ltb-true 0 _ l))) (λ _. tt)))
    (λ h us s. Spells.plain (eqb-false b 0x5C h) s)

derived : (k : ℕ) (bs us : List ℕ) → spell_from k bs ≡ spelled us → Spells (drop k bs) us
unfolding spell_from
derived zero [] us e = let q : [] ≡ us = cc in rw (← q) Spells.none
derived (suc k) [] us e = let q : [] ≡ us = cc in rw (← q) Spells.none
derived (suc k) (b ∷ bs) us e = derived k bs us e
derived zero (b ∷ bs) us e = front (spelt (b ∷ bs)) (front_derived b bs) (λ m vs f. derived m bs vs f) e
  where
    behind : (u m : ℕ) → Derives b bs (one u m) → (x : Spelling) → ((vs : List ℕ) → x ≡ spelled vs → Spells (drop m bs) vs) → with_one u x ≡ spelled us → Spells (b ∷ bs) us
    behind u m d (spelled vs) f e = let q : u ∷ vs ≡ us = cc in rw (← q) (d vs (f vs refl))
    behind u m d wrong f e = impossible (cc)

    front : (x : Result Spelt BadEscape) → Derives b bs x → ((m : ℕ) (vs : List ℕ) → spell_from m bs ≡ spelled vs → Spells (drop m bs) vs)
        → on_spelt x (λ u more. with_one u (spell_from more bs)) wrong ≡ spelled us → Spells (b ∷ bs) us
    front (Ok s) d f e = behind s.character s.more d (spell_from s.more bs) (f s.more) e
    front (Err w) d f e = impossible (cc)

-- ---- exactly

-- "the reading of a name is exactly the derivations"
pub spelled_exactly : (bs us : List ℕ) → (spelling bs ≡ spelled us) ↔ Spells bs us
unfolding spelling
spelled_exactly bs us = (derived 0 bs us, spells_spelled)

-- "else wrong"
pub wrong_exactly : (bs : List ℕ) → (spelling bs ≡ wrong) ↔ ((us : List ℕ) → Spells bs us → ⊥)
wrong_exactly bs = (λ e us s. impossible (cc (e, spells_spelled s)), λ h. go (spelling bs) refl h)
  where
    go : (x : Spelling) → spelling bs ≡ x → ((us : List ℕ) → Spells bs us → ⊥) → x ≡ wrong
    go (spelled us) e h = absurd (h us ((spelled_exactly bs us).0 e))
    go wrong e h = refl

compares : (n bs : List ℕ) → Compares n bs (matched n bs)
unfolding matched
compares n bs = go (spelling bs) refl
  where
    by : (us : List ℕ) → Spells bs us → (b : Bool) → same us n ≡ b → Compares n bs (Ok b)
    by us s true h = Compares.same (rw ((same_exactly us n).0 h) at s)
    by us s false h = Compares.different s (λ q. true≢false (sym ((same_exactly us n).1 q) ∙ h))

    go : (x : Spelling) → spelling bs ≡ x → Compares n bs (compared n x)
    go (spelled us) e = by us ((spelled_exactly bs us).0 e) (same us n) refl
    go wrong e = Compares.bad_escape ((wrong_exactly bs).0 e)

compared_so : {n bs : List ℕ} {r : Match} → Compares n bs r → matched n bs ≡ r
unfolding matched
compared_so {n} (Compares.same s) = rw (spells_spelled s, (same_exactly n n).1 refl)
compared_so {n} (Compares.different {us} s h) = rw (spells_spelled s, (not-eq-not {a = same us n} {b = false}).0 (λ e. h ((same_exactly us n).0 e)))
compared_so {bs} (Compares.bad_escape h) = rw ((wrong_exactly bs).1 h)

-- a comparison is exactly the comparison of what is spelt
pub matched_exactly : (n bs : List ℕ) (r : Match) → (matched n bs ≡ r) ↔ Compares n bs r
matched_exactly n bs r = (λ e. subst (Compares n bs) e (compares n bs), compared_so)
