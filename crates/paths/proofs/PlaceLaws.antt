-- The laws of `first_at` and `past_last` by which loops are proved, by going from place to place.
use Prim.Native.Nat.{ℕ, zero, suc, ◌+◌, ◌-◌, ◌≤◌, ◌<◌}
use mathlib.Core.Path.{◌≡◌, refl, sym, ap, ◌∙◌, subst}
use mathlib.Core.Bool.{Bool, true, false, true≢false}
use mathlib.Core.Logic.{⊎_elim}
use mathlib.Core.List.{List, [], ◌∷◌}
use lib.ListN.{length, get_or, take, drop}
use lib.Seq.{drop-cons, take-length}
use Rattle.std.proofs.lemmas.List.{length-drop}
use native.Mathlib.Omega.{arith}
use native.Mathlib.Nat.{eq-or-lt_of_le}
use native.Mathlib.Decide.{dec_lt}
use native.Mathlib.Numerals.{add-one}
use borrow.Author.Tests.{lt-ltb, le-ltb}
use Rattle.rules.specs.Word.{pick, digit, count}
use Rattle.rules.proofs.Counting.{count_cat}
use Rattle.rules.specs.Layout.{listed}
use Rattle.paths.specs.Places.{byte_in, between, first_at, first_in, past_last, past_last_in, nth_at}

-- nothing to look at
pub first_none : (t : ℕ → Bool) (a e : ℕ) → e ≤ a → first_at t a e ≡ a
unfolding first_at first_in
first_none t a e h = let z : e - a ≡ 0 = omega arith in rw z

left : (a e : ℕ) → a < e → e - a ≡ suc (e - suc a)
left a e h = omega arith

pub first_here : (t : ℕ → Bool) (a e : ℕ) → a < e → t a ≡ true → first_at t a e ≡ a
unfolding first_at first_in
first_here t a e h y = rw (left a e h, y)

pub first_next : (t : ℕ → Bool) (a e : ℕ) → a < e → t a ≡ false → first_at t a e ≡ first_at t (a + 1) e
unfolding first_at first_in
first_next t a e h y = rw (left a e h, y, add-one)

-- a law about places is shown by going from a to e: P at the end, P where the test holds, and P from the next place where it does not
pub first_ind : (P : ℕ → ℕ → Type 0) (t : ℕ → Bool) (e : ℕ)
    → P e e
    → ((a : ℕ) → a < e → t a ≡ true → P a a)
    → ((a r : ℕ) → a < e → t a ≡ false → P (suc a) r → P a r)
    → (a : ℕ) → a ≤ e → P a (first_at t a e)
unfolding first_at first_in
first_ind P t e done here next a h = go (e - a) a (omega arith)
  where
    by : (b : Bool) (a r : ℕ) → t a ≡ b → a < e → P (suc a) r → P a (pick b a r)
    by true a r y l p = here a l y
    by false a r y l p = next a r l y p

    go : (k a : ℕ) → a + k ≡ e → P a (first_in t k a)
    go zero a q = let z : e ≡ a = omega arith in subst (λ (x : ℕ). P x x) z done
    go (suc k) a q = by (t a) a (first_in t k (suc a)) refl (omega arith) (go k (suc a) (omega arith))

pub first_ge : (t : ℕ → Bool) (a e : ℕ) → a ≤ e → a ≤ first_at t a e
first_ge t a e h = first_ind (λ a r. a ≤ r) t e (omega arith) (λ a l y. omega arith) (λ a r l y p. omega arith) a h

pub first_le : (t : ℕ → Bool) (a e : ℕ) → a ≤ e → first_at t a e ≤ e
first_le t a e h = first_ind (λ a r. r ≤ e) t e (omega arith) (λ a l y. omega arith) (λ a r l y p. p) a h

-- before the end, the test holds at the place found
pub first_hit : (t : ℕ → Bool) (a e : ℕ) → a ≤ e → first_at t a e < e → t (first_at t a e) ≡ true
first_hit t a e h =
    first_ind (λ a r. r < e → t r ≡ true) t e (λ l. absurd (omega arith)) (λ a l y _. y) (λ a r l y p. p) a h

-- and at no place that was passed
pub first_miss : (t : ℕ → Bool) (a e : ℕ) → a ≤ e → (k : ℕ) → a ≤ k → k < first_at t a e → t k ≡ false
first_miss t a e h =
    first_ind (λ a r. (k : ℕ) → a ≤ k → k < r → t k ≡ false) t e
    (λ k l m. absurd (omega arith))
    (λ a l y k m o. absurd (omega arith))
    (λ a r l y p k m o. ⊎_elim (λ (q : a ≡ k). subst (λ (x : ℕ). t x ≡ false) q y) (λ q. p k q o) (eq-or-lt_of_le m)) a h

-- places at which the test fails are passed over
pub first_skip : (t : ℕ → Bool) (a b e : ℕ) → a ≤ b → b ≤ e → ((k : ℕ) → a ≤ k → k < b → t k ≡ false) → first_at t a e ≡ first_at t b e
first_skip t a b e h m none = go (b - a) a (omega arith) none
  where
    go : (k a : ℕ) → a + k ≡ b → ((k : ℕ) → a ≤ k → k < b → t k ≡ false) → first_at t a e ≡ first_at t b e
    go zero a q n = let z : a ≡ b = omega arith in ap (λ (x : ℕ). first_at t x e) z
    go (suc k) a q n =
        first_next t a e (omega arith) (n a (omega arith) (omega arith))
        ∙ go k (a + 1) (omega arith) (λ j l o. n j (omega arith) o)

-- the place b, where the test fails before it and holds there
pub first_at_is : (t : ℕ → Bool) (a b e : ℕ) → a ≤ b → b < e → ((k : ℕ) → a ≤ k → k < b → t k ≡ false) → t b ≡ true → first_at t a e ≡ b
first_at_is t a b e h m none y = first_skip t a b e h (omega arith) none ∙ first_here t b e m y

-- the end, where the test fails everywhere
pub first_all : (t : ℕ → Bool) (a e : ℕ) → a ≤ e → ((k : ℕ) → a ≤ k → k < e → t k ≡ false) → first_at t a e ≡ e
first_all t a e h none = first_skip t a e e h (omega arith) none ∙ first_none t e e (omega arith)

-- what holds up to a place and from it on holds throughout
pub side_by_side : (P : ℕ → Type 0) (a b e : ℕ) → ((i : ℕ) → a ≤ i → i < b → P i) → ((i : ℕ) → b ≤ i → i < e → P i) → (i : ℕ) → a ≤ i → i < e → P i
side_by_side P a b e f g i l m = go (dec_lt i b)
  where
    go : Dec (i < b) → P i
    go (yes h) = f i l h
    go (no h) = g i (omega arith) m

-- what holds of both sides of a choice holds of the choice
pub pick_ind {ℓ} : {A : Type ℓ} (P : A → Type 0) (b : Bool) (x y : A) → (b ≡ true → P x) → (b ≡ false → P y) → P (pick b x y)
pick_ind P true x y f g = f refl
pick_ind P false x y f g = g refl

-- ---- from the right

pub last_none : (t : ℕ → Bool) (a e : ℕ) → e ≤ a → past_last t a e ≡ a
unfolding past_last past_last_in
last_none t a e h = let z : e - a ≡ 0 = omega arith in rw z

pub last_bounds : (t : ℕ → Bool) (a e : ℕ) → a ≤ e → (a ≤ past_last t a e) × (past_last t a e ≤ e)
unfolding past_last past_last_in
last_bounds t a e h = go (e - a) (omega arith)
  where
    go : (k : ℕ) → a + k ≤ e → (a ≤ past_last_in t k a) × (past_last_in t k a ≤ e)
    go zero q = (omega arith, omega arith)
    go (suc k) q = pick_ind (λ n. (a ≤ n) × (n ≤ e)) (t (a + k)) _ _ (λ _. (omega arith, omega arith)) (λ _. go k (omega arith))

-- before the end that was found, the test holds
pub last_hit : (t : ℕ → Bool) (a e : ℕ) → a < past_last t a e → t (past_last t a e - 1) ≡ true
unfolding past_last past_last_in
last_hit t a e = go (e - a)
  where
    go : (k : ℕ) → a < past_last_in t k a → t (past_last_in t k a - 1) ≡ true
    go zero = λ l. absurd (omega arith)
    go (suc k) =
        let z : a + suc k - 1 ≡ a + k = omega arith in
        pick_ind (λ n. a < n → t (n - 1) ≡ true) (t (a + k)) (a + suc k) (past_last_in t k a) (λ y _. ap t z ∙ y) (λ _. go k)

-- and at no place from there on
pub last_miss : (t : ℕ → Bool) (a e : ℕ) → a ≤ e → (k : ℕ) → past_last t a e ≤ k → k < e → t k ≡ false
unfolding past_last past_last_in
last_miss t a e h k l m = go (e - a) k l (omega arith)
  where
    go : (c k : ℕ) → past_last_in t c a ≤ k → k < a + c → t k ≡ false
    go zero = λ k l m. absurd (omega arith)
    go (suc c) =
        pick_ind (λ n. (k : ℕ) → n ≤ k → k < a + suc c → t k ≡ false) (t (a + c)) (a + suc c) (past_last_in t c a)
        (λ _ k l m. absurd (omega arith))
        (λ y k l m. let o : k ≤ a + c = omega arith in ⊎_elim (λ (q : k ≡ a + c). ap t q ∙ y) (λ q. go c k l q) (eq-or-lt_of_le o))

-- the place b, where the test holds before it and fails from there on
pub last_at : (t : ℕ → Bool) (a b e : ℕ) → a < b → b ≤ e → t (b - 1) ≡ true → ((k : ℕ) → b ≤ k → k < e → t k ≡ false) → past_last t a e ≡ b
last_at t a b e h m y none =
    let i = last_bounds t a e (omega arith) in
    elim (dec_lt (past_last t a e) b) [
      | yes l ↦ absurd (true≢false (sym y ∙ last_miss t a e (omega arith) (b - 1) (omega arith) (omega arith)))
      | no l ↦ elim (dec_lt b (past_last t a e)) [
        | yes g ↦ absurd (true≢false (sym (last_hit t a e (omega arith)) ∙ none (past_last t a e - 1) (omega arith) (omega arith)))
        | no g ↦ omega arith
      ]
    ]

-- ---- by number

pub nth_first : (t : ℕ → Bool) (a e : ℕ) → nth_at t 0 a e ≡ first_at t a e
unfolding nth_at
nth_first t a e = refl

pub nth_none : (t : ℕ → Bool) (m e : ℕ) → nth_at t m e e ≡ e
unfolding nth_at
nth_none t zero e = first_none t e e (omega arith)
nth_none t (suc m) e = rw (first_none t e e (omega arith), le-ltb e e (omega arith))

nth_false : (t : ℕ → Bool) (m a e : ℕ) → a < e → t a ≡ false → nth_at t m a e ≡ nth_at t m (suc a) e
unfolding nth_at
nth_false t zero a e h y = first_next t a e h y ∙ ap (λ (x : ℕ). first_at t x e) (add-one a)
nth_false t (suc m) a e h y = let z = add-one a in rw (first_next t a e h y, z)

nth_true : (t : ℕ → Bool) (m a e : ℕ) → a < e → t a ≡ true → nth_at t (suc m) a e ≡ nth_at t m (suc a) e
unfolding nth_at
nth_true t m a e h y = rw (first_here t a e h y, lt-ltb a e h, add-one)

-- a range is passed over by its count
pub nth_skip : (t : ℕ → Bool) (m a b e : ℕ) → a ≤ b → b ≤ e → count t b ≤ count t a + m → nth_at t m a e ≡ nth_at t (count t a + m - count t b) b e
unfolding count
nth_skip t m a b e h l c = go (b - a) m a (omega arith) c
  where
    by : (v : Bool) (m a : ℕ) → t a ≡ v → a < b → count t b ≤ count t a + m
        → ((n : ℕ) → count t b ≤ count t (suc a) + n → nth_at t n (suc a) e ≡ nth_at t (count t (suc a) + n - count t b) b e)
        → count t (suc a) ≤ count t b
        → nth_at t m a e ≡ nth_at t (count t a + m - count t b) b e
    by true zero a y p c r g = absurd (omega (arith, ap digit y))
    by true (suc m) a y p c r g =
        let d = ap digit y in
        let s : count t (suc a) + m - count t b ≡ count t a + suc m - count t b = omega arith in
        nth_true t m a e (omega arith) y ∙ r m (omega arith) ∙ ap (λ (j : ℕ). nth_at t j b e) s
    by false m a y p c r g =
        let d = ap digit y in
        let s : count t (suc a) + m - count t b ≡ count t a + m - count t b = omega arith in
        nth_false t m a e (omega arith) y ∙ r m (omega arith) ∙ ap (λ (j : ℕ). nth_at t j b e) s

    up : (k a : ℕ) → a + k ≡ b → count t a ≤ count t b
    up zero a q = let z : a ≡ b = omega arith in omega (arith, ap (count t) z)
    up (suc k) a q = omega (arith, up k (suc a) (omega arith))

    go : (k m a : ℕ) → a + k ≡ b → count t b ≤ count t a + m → nth_at t m a e ≡ nth_at t (count t a + m - count t b) b e
    go zero m a q c =
        let z : a ≡ b = omega arith in
        let o : count t a + m - count t b ≡ m = omega (arith, ap (count t) z) in
        rw (o, z)
    go (suc k) m a q c = by (t a) m a refl (omega arith) c (λ n d. go k n (suc a) (omega arith) d) (up k (suc a) (omega arith))

-- there are not so many
pub nth_few : (t : ℕ → Bool) (m a b e : ℕ) → a ≤ e → e ≤ b → count t b ≤ count t a + m → nth_at t m a e ≡ e
nth_few t m a b e h l c =
    let z : e + (b - e) ≡ b = omega arith in
    nth_skip t m a e e h (omega arith) (omega (arith, count_cat t e (b - e), ap (count t) z)) ∙ nth_none t (count t a + m - count t e) e

-- one place after the other
pub nth_after : (t : ℕ → Bool) (m a e p : ℕ) → 0 < m → first_at t a e ≡ p → p < e → nth_at t m a e ≡ nth_at t (m - 1) (p + 1) e
unfolding nth_at
nth_after t zero a e p z h l = absurd (omega arith)
nth_after t (suc m) a e p z h l = let q : suc m - 1 ≡ m = omega arith in rw (h, lt-ltb p e l, q)

pub nth_past : (t : ℕ → Bool) (m a e p : ℕ) → 0 < m → first_at t a e ≡ p → e ≤ p → nth_at t m a e ≡ e
unfolding nth_at
nth_past t zero a e p z h l = absurd (omega arith)
nth_past t (suc m) a e p z h l = rw (h, le-ltb p e l)

-- ---- the bytes between two places

pub between_none : (byte : ℕ → ℕ) (a e : ℕ) → e ≤ a → between byte a e ≡ []
unfolding listed
between_none byte a e h = let z : e - a ≡ 0 = omega arith in rw z

pub between_some : (byte : ℕ → ℕ) (a e : ℕ) → a < e → between byte a e ≡ byte a ∷ between byte (suc a) e
unfolding listed
between_some byte a e h = let z : e - a ≡ suc (e - suc a) = omega arith in rw z

-- ---- slices

-- `&xs[a..]`
pub rest_is : (xs : List ℕ) (a : ℕ) → take (length xs - a) (drop a xs) ≡ drop a xs
rest_is xs a = ap (λ (n : ℕ). take n (drop a xs)) (sym (length-drop a xs)) ∙ take-length (drop a xs)

-- `&text[a..e]`
pub between_is : (text : List ℕ) (a e : ℕ) → e ≤ length text → between (byte_in text) a e ≡ take (e - a) (drop a text)
unfolding listed byte_in
between_is text a e h = go (e - a) a (omega arith)
  where
    go : (c a : ℕ) → (0 < c → a + c ≤ length text) → listed (byte_in text) a c ≡ take c (drop a text)
    go zero a h = refl
    go (suc c) a h = ap {B = List ℕ} (λ r. get_or text a 0 ∷ r) (go c (suc a) (λ l. omega (arith, h))) ∙ sym (ap (take (suc c)) (drop-cons text a 0 (omega (arith, h))))
