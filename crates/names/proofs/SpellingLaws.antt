-- A name read from its front on: what stands there, then the name from behind that. And the comparison, character after character.
use Prim.Native.Nat.{ℕ, zero, suc, ◌+◌, ◌-◌, ◌≤◌, ◌<◌}
use mathlib.Core.Path.{◌≡◌, refl, ap, ◌∙◌}
use mathlib.Core.Bool.{Bool, true, false, ◌&&◌, ◌||◌}
use mathlib.Core.Logic.{◌≢◌}
use mathlib.Core.List.{List, [], ◌∷◌}
use native.Mathlib.Omega.{arith}
use native.Mathlib.Decide.{dec_lt}
use lib.Dec.{eqb, ltb}
use lib.ListN.{length, get_or, take, drop, get_or-eq_default}
use borrow.Author.Tests.{eq-eqb, ne_eqb, eqb-false, lt-ltb, le-ltb, ltb-true}
use Rattle.std.proofs.Common.{Option, Some, None, Result, Ok, Err}
use Rattle.std.specs.List.{list_any}
use Rattle.std.proofs.lemmas.Bool.Decides.{nat_tests}
use Rattle.std.specs.Char.{digit_value}
use Rattle.std.specs.Option.{SomeIff}
use Rattle.std.proofs.lemmas.List.{get_or-drop, length-drop}
use Rattle.rules.specs.Word.{pick, below}
use Rattle.rules.proofs.Booleans.{bool3, impossible, told_some, told_none}
use Rattle.texts.proofs.Tests.{and_false}
use Rattle.paths.proofs.PlaceLaws.{pick_ind, rest_is}
use Rattle.paths.proofs.PathLaws.{range_of}
use Rattle.texts.specs.Nodes.{is_high, is_low}
use Rattle.names.specs.Spelling.{hex_of, is_hex, four_of, unit_of, short_of, no_escape, spelt, Spelling, spelled, wrong, with_one, spell_from, spelling, same, compared, matched}
use Rattle.names.specs.Spells.{Plain}
use Rattle.names.specs.Helpers.{another}
use Rattle.names.specs.declared.Spelt.{Spelt}
use Rattle.names.specs.declared.BadEscape.{BadEscape}

-- a digit, and a byte that is none, as the code tells them
pub hex_told : (b : ℕ) {x : ℕ} → below 16 (hex_of b) ≡ Some x → (is_hex b ≡ true) × (hex_of b ≡ x) × (x < 16)
hex_told b e = let t = told_some (is_hex b) (hex_of b) e in let l = ltb-true (hex_of b) 16 t.0 in (t.0, t.1, omega arith)

pub hex_untold : (b : ℕ) → below 16 (hex_of b) ≡ None → is_hex b ≡ false
hex_untold b e = told_none (is_hex b) (hex_of b) e

pub none_left : (xs : List ℕ) → length xs ≡ 0 → xs ≡ []
none_left [] e = refl
none_left (x ∷ xs) e = absurd (omega arith)

-- ---- the front of a name, and the name behind it

spell_drop : (k : ℕ) (bs : List ℕ) → spell_from k bs ≡ spelling (drop k bs)
unfolding spelling spell_from
spell_drop zero bs = refl
spell_drop (suc k) [] = refl
spell_drop (suc k) (b ∷ bs) = spell_drop k bs

pub spelling_none : spelling [] ≡ spelled []
unfolding spelling spell_from
spelling_none = refl

pub spelling_one : {s : Spelt} (b : ℕ) (bs : List ℕ) → spelt (b ∷ bs) ≡ Ok s → spelling (b ∷ bs) ≡ with_one s.character (spelling (drop s.more bs))
unfolding spelling spell_from
spelling_one {s} b bs e = rw e (ap (with_one s.character) (spell_drop s.more bs))

pub spelling_wrong : {e : BadEscape} (b : ℕ) (bs : List ℕ) → spelt (b ∷ bs) ≡ Err e → spelling (b ∷ bs) ≡ wrong
unfolding spelling spell_from
spelling_wrong b bs e = rw e

pub plain_spelling : (bs : List ℕ) → Plain bs → spelling bs ≡ spelled bs
unfolding spelling spell_from spelt
plain_spelling [] h = refl
plain_spelling (b ∷ bs) h = rw (ne_eqb b 0x5C h.0) (ap (with_one b) (plain_spelling bs h.1))

or_none : (a b : Bool) → (a || b) ≡ false → (a ≡ false) × (b ≡ false)
or_none true b e = impossible (cc)
or_none false b e = (refl, e)

pub plain_any : (bs : List ℕ) → list_any (λ y. eqb y 0x5C) bs ≡ false → Plain bs
plain_any [] h = tt
plain_any (b ∷ bs) h = let o = or_none (eqb b 0x5C) (list_any (λ y. eqb y 0x5C) bs) h in (eqb-false b 0x5C o.0, plain_any bs o.1)

-- ---- what the code tells by an Option

-- std's digit is this digit
hex_digit : (b : ℕ) → hex_of b ≡ pick (ltb (digit_value b) 16) (digit_value b) 16
unfolding hex_of
hex_digit b = grind (arith, nat_tests)

pub digit_told : (b : ℕ) (r : Option ℕ) → SomeIff r (digit_value b < 16) (digit_value b) → r ≡ below 16 (hex_of b)
digit_told b None h = rw (hex_digit b, le-ltb (digit_value b) 16 (omega arith))
digit_told b (Some x) h = rw (hex_digit b, lt-ltb (digit_value b) 16 h.0, lt-ltb (digit_value b) 16 h.0) (ap (λ (v : ℕ). Some v) h.1)

-- ---- an escape

no_four : (x y z : Bool) → (x && (y && (z && false))) ≡ false
no_four = bool3 _ _ tt

either_way : {A : Type 0} {x : A} (b : Bool) → pick b x x ≡ x
either_way true = refl
either_way false = refl

-- no digit stands behind the end
pub unit_short : (bs : List ℕ) → length bs < 6 → unit_of bs ≡ 0x10000
unfolding unit_of four_of hex_of
unit_short bs l =
    let at : ℕ → ℕ = λ k. get_or bs k 0 in
    let n : get_or bs 5 0 ≡ 0 = get_or-eq_default bs 0 (omega arith) in
    rw (n, no_four (is_hex (at 2)) (is_hex (at 3)) (is_hex (at 4))) (either_way (eqb (at 0) 0x5C && eqb (at 1) 0x75))

pub unit_first : (bs : List ℕ) → get_or bs 0 0 ≢ 0x5C → unit_of bs ≡ 0x10000
unfolding unit_of
unit_first bs h = rw (ne_eqb (get_or bs 0 0) 0x5C h)

pub unit_second : (bs : List ℕ) → get_or bs 1 0 ≢ 0x75 → unit_of bs ≡ 0x10000
unfolding unit_of
unit_second bs h = rw (ne_eqb (get_or bs 1 0) 0x75 h, and_false (eqb (get_or bs 0 0) 0x5C))

pub unit_digits : (bs : List ℕ) → get_or bs 0 0 ≡ 0x5C → get_or bs 1 0 ≡ 0x75
    → unit_of bs ≡ four_of (get_or (take (length bs - 2) (drop 2 bs)) 0 0) (get_or (take (length bs - 2) (drop 2 bs)) 1 0) (get_or (take (length bs - 2) (drop 2 bs)) 2 0) (get_or (take (length bs - 2) (drop 2 bs)) 3 0)
unfolding unit_of
unit_digits bs h k =
    let at : (i : ℕ) → get_or (take (length bs - 2) (drop 2 bs)) i 0 ≡ get_or bs (2 + i) 0 = λ i. ap (λ (xs : List ℕ). get_or xs i 0) (rest_is bs 2) ∙ get_or-drop 2 bs i 0 in
    rw (h, k, at 0, at 1, at 2, at 3)

pub unit_long : (bs : List ℕ) → unit_of bs < 0x10000 → 6 ≤ length bs
unit_long bs l =
    elim (dec_lt (length bs) 6) [
      | yes s ↦ absurd (omega (arith, unit_short bs s))
      | no n ↦ omega arith
    ]

pub short_long : (bs : List ℕ) → 0 < short_of (get_or bs 1 0) → 2 ≤ length bs
unfolding short_of
short_long bs l =
    elim (dec_lt (length bs) 2) [
      | yes s ↦ let n : get_or bs 1 0 ≡ 0 = get_or-eq_default bs 0 (omega arith) in absurd (omega (arith, ap short_of n))
      | no n ↦ omega arith
    ]

-- ---- what stands in front lies in the name, and no character is written in more than twelve bytes

abbrev In : List ℕ → Result Spelt BadEscape → Type 0
In bs (Ok s) = (s.more < length bs) × (s.more ≤ 11)
In bs (Err e) = Unit {0}

low_unit : (bs : List ℕ) → is_low (unit_of bs) ≡ true → unit_of bs < 0x10000
low_unit bs h = let r = range_of 0xDC00 0xDFFF (unit_of bs) h in omega arith

front_in : (bs : List ℕ) → 0 < length bs → In bs (spelt bs)
unfolding spelt
front_in bs some =
    pick_ind (In bs) (eqb (get_or bs 0 0) 0x5C) _ _
    (λ _. pick_ind (In bs) (ltb (unit_of bs) 0x10000) _ _
    (λ u. let n = unit_long bs (ltb-true _ _ u) in
    pick_ind (In bs) (is_high (unit_of bs)) _ _
    (λ _. pick_ind (In bs) (is_low (unit_of (drop 6 bs))) _ _ (λ v. let m = unit_long (drop 6 bs) (low_unit (drop 6 bs) v) in (omega (arith, length-drop 6 bs), omega arith)) (λ _. tt))
    (λ _. pick_ind (In bs) (is_low (unit_of bs)) _ _ (λ _. tt) (λ _. (omega arith, omega arith))))
    (λ _. pick_ind (In bs) (ltb 0 (short_of (get_or bs 1 0))) _ _ (λ l. let n = short_long bs (ltb-true _ _ l) in (omega arith, omega arith)) (λ _. tt)))
    (λ _. (omega arith, omega arith))

pub spelt_in : {s : Spelt} (bs : List ℕ) → 0 < length bs → spelt bs ≡ Ok s → (s.more < length bs) × (s.more ≤ 11)
spelt_in bs some e = rw e at (front_in bs some)

-- the same of a name by the code's test that it is not empty
pub spelt_within : {s : Spelt} (bs : List ℕ) → eqb (length bs) 0 ≡ false → spelt bs ≡ Ok s → (0 < length bs) × (s.more < length bs) × (s.more ≤ 11)
spelt_within bs some e = let n = eqb-false (length bs) 0 some in let l : 0 < length bs = omega arith in let h = spelt_in bs l e in (l, h.0, h.1)

-- ---- a name that is not empty

another_one : (u : ℕ) (s : Spelling) → another (with_one u s) ≡ another s
another_one u (spelled us) = refl
another_one u wrong = refl

-- behind what stands in front
abbrev pub behind : Spelt → List ℕ → List ℕ
behind s bs = drop (1 + s.more) bs

module _ {s : Spelt} where
  pub reads_one : (bs : List ℕ) → 0 < length bs → spelt bs ≡ Ok s → spelling bs ≡ with_one s.character (spelling (behind s bs))
  reads_one [] l e = absurd (omega arith)
  reads_one (b ∷ bs) l e = let n : 1 + s.more ≡ suc s.more = omega arith in rw n (spelling_one b bs e)

  pub reads_on : (bs : List ℕ) → 0 < length bs → spelt bs ≡ Ok s → another (spelling bs) ≡ another (spelling (behind s bs))
  reads_on bs l e = ap another (reads_one bs l e) ∙ another_one s.character (spelling (behind s bs))

pub reads_wrong : {e : BadEscape} (bs : List ℕ) → 0 < length bs → spelt bs ≡ Err e → spelling bs ≡ wrong
reads_wrong [] l e = absurd (omega arith)
reads_wrong (b ∷ bs) l e = spelling_wrong b bs e

-- ---- the comparison

compared_next : (u : ℕ) (n : List ℕ) (s : Spelling) → 0 < length n → u ≡ get_or n 0 0 → compared n (with_one u s) ≡ compared (drop 1 n) s
unfolding same
compared_next u [] s l e = absurd (omega arith)
compared_next u (y ∷ ys) (spelled us) l e = rw (eq-eqb u y e)
compared_next u (y ∷ ys) wrong l e = refl

compared_other : (u : ℕ) (n : List ℕ) (s : Spelling) → (0 < length n → u ≢ get_or n 0 0) → compared n (with_one u s) ≡ another s
unfolding same
compared_other u [] (spelled us) h = refl
compared_other u (y ∷ ys) (spelled us) h = rw (ne_eqb u y (h (omega arith)))
compared_other u n wrong h = refl

pub match_none : (n : List ℕ) → matched n [] ≡ Ok (eqb (length n) 0)
unfolding matched same
match_none [] = ap (compared []) spelling_none
match_none (y ∷ ys) = ap (compared (y ∷ ys)) spelling_none ∙ rw (ne_eqb (length (y ∷ ys)) 0 (omega arith))

pub match_wrong : {e : BadEscape} (n bs : List ℕ) → 0 < length bs → spelt bs ≡ Err e → matched n bs ≡ Err no_escape
unfolding matched
match_wrong n bs l e = rw (reads_wrong bs l e)

module _ {s : Spelt} (n bs : List ℕ) (l : 0 < length bs) (e : spelt bs ≡ Ok s) where
  pub match_next : 0 < length n → s.character ≡ get_or n 0 0 → matched n bs ≡ matched (drop 1 n) (behind s bs)
  unfolding matched
  match_next h k = rw (reads_one bs l e) (compared_next s.character n (spelling (behind s bs)) h k)

  pub match_other : (0 < length n → s.character ≢ get_or n 0 0) → matched n bs ≡ another (spelling (behind s bs))
  unfolding matched
  match_other h = rw (reads_one bs l e) (compared_other s.character n (spelling (behind s bs)) h)
