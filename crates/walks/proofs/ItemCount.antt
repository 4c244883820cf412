-- "Otherwise there is one item more than commas": the item with a number is the one that so many commas precede, and there is none exactly where there are
-- fewer commas. By the commas, from the left.
use Prim.Native.Nat.{ℕ, zero, suc, ◌+◌, ◌-◌, ◌≤◌, ◌<◌}
use mathlib.Core.Path.{◌≡◌, refl, sym, ap, ap₂, ◌∙◌, subst}
use mathlib.Core.Logic.{⊎_elim, ◌↔◌}
use mathlib.Core.Bool.{Bool, true, false}
use native.Mathlib.Numerals.{add-one}
use native.Mathlib.Decide.{dec_lt}
use native.Mathlib.Omega.{arith}
use lib.Dec.{ltb}
use borrow.Author.Tests.{ltb-true, ltb-false}
use Rattle.rules.specs.Word.{digit, count}
use Rattle.rules.proofs.Counting.{count_cat}
use Rattle.paths.specs.Places.{first_at}
use Rattle.query.specs.Items.{value_at, item_no}
use Rattle.walks.specs.Members.{OnlyBlanks, Numbered}
use Rattle.query.specs.Item.{Item, Other, Broken}
use Rattle.query.specs.declared.types.Cause.{Cause}
use Rattle.query.specs.declared.types.Cause.TheVariants.{EmptyValue}
use Rattle.paths.proofs.PlaceLaws.{pick_ind, first_ge, first_hit, first_miss}
use Rattle.query.proofs.Standing.{count_none}
use Rattle.walks.proofs.Members.{Value, blank, value_is, value_at_is}
use Rattle.walks.proofs.Borders.{cut_from, cut_to, cut_end, cut_first, cut_next}

-- ---- how many places

count_up : (t : ℕ → Bool) (a b : ℕ) → a ≤ b → count t a ≤ count t b
count_up t a b h = let e : a + (b - a) ≡ b = omega arith in omega (arith, count_cat t a (b - a), ap (count t) e)

-- places without t count nothing
count_same : (t : ℕ → Bool) (a b : ℕ) → a ≤ b → ((i : ℕ) → a ≤ i → i < b → t i ≡ false) → count t b ≡ count t a
count_same t a b h none =
    let e : a + (b - a) ≡ b = omega arith in
    omega (arith, count_cat t a (b - a), ap (count t) e, count_none (λ j. t (a + j)) (b - a) (λ j l. none (a + j) (omega arith) (omega arith)))

-- one with t counts one
count_one : (t : ℕ → Bool) (i : ℕ) → t i ≡ true → count t (i + 1) ≡ count t i + 1
unfolding count
count_one t i y = ap (count t) (add-one i) ∙ ap (λ (b : Bool). count t i + digit b) y

-- ---- the item with number m

pub data ByNumber (byte : ℕ → ℕ) (comma : ℕ → Bool) (m a e : ℕ) : Item → Type 0 where
  few : count comma e < count comma a + m → ByNumber byte comma m a e Other
  one : {s f : ℕ} {r : Item} → Numbered comma a e m s f → Value byte s s f r → ByNumber byte comma m a e r

module _ (byte : ℕ → ℕ) (comma : ℕ → Bool) where
  module _ (m a e : ℕ) (h : a ≤ e) where
    by_next : {r : Item} → first_at comma a e < e → ByNumber byte comma m (first_at comma a e + 1) e r → ByNumber byte comma (suc m) a e r
    by_next l x = go x
      where
        past : count comma (first_at comma a e + 1) ≡ count comma a + 1
        past = count_one comma (first_at comma a e) (first_hit comma a e h l) ∙ ap (◌+ 1) (count_same comma a (first_at comma a e) (first_ge comma a e h) (first_miss comma a e h))

        go : {r : Item} → ByNumber byte comma m (first_at comma a e + 1) e r → ByNumber byte comma (suc m) a e r
        go (few c) = few (omega (arith, past))
        go (one n v) = one (record { cut = cut_next comma a e h l n.cut; number = omega (arith, past, n.number) }) v

    by_none : e ≤ first_at comma a e → ByNumber byte comma (suc m) a e Other
    by_none l = few (omega (arith, count_same comma a e h (λ i p o. first_miss comma a e h i p (omega arith))))

  number_is : (m a e : ℕ) → a ≤ e → ByNumber byte comma m a e (item_no byte comma m a e)
  unfolding item_no
  number_is zero a e h = one (record { cut = cut_first comma a e h; number = omega arith }) (value_is byte a (first_at comma a e) (first_ge comma a e h) a)
  number_is (suc m) a e h =
      let d = first_at comma a e in
      pick_ind (ByNumber byte comma (suc m) a e) (ltb d e) _ _ (λ l. by_next m a e h (ltb-true d e l) (number_is m (d + 1) e (omega (arith, ltb-true d e l))))
      (λ l. by_none m a e h (ltb-false d e l))

  -- at most one item has a number
  not_later : {m a e s f s' f' : ℕ} → Numbered comma a e m s f → Numbered comma a e m s' f' → s < s' → ⊥
  not_later {s = s} {s' = s'} n n' l =
      ⊎_elim (λ q. omega (arith, cut_from n.cut))
      (λ q. let z : s' - 1 + 1 ≡ s' = omega arith in
      omega (arith, count_up comma s (s' - 1) (omega arith), count_one comma (s' - 1) q.1, ap (count comma) z, n.number, n'.number)) n'.cut.begins

  one_start : {m a e s f s' f' : ℕ} → Numbered comma a e m s f → Numbered comma a e m s' f' → s ≡ s'
  one_start {s = s} {s' = s'} n n' =
      elim (dec_lt s s') [ yes l ↦ absurd (not_later n n' l) | no l ↦ elim (dec_lt s' s) [ yes k ↦ absurd (not_later n' n k) | no k ↦ omega arith ] ]

  -- and none where there are few
  not_few : {m a e s f : ℕ} → Numbered comma a e m s f → count comma e < count comma a + m → ⊥
  not_few {e = e} {s = s} n c = let k = n.cut in omega (arith, n.number, count_up comma s e (omega (arith, cut_to k, k.order)))

  by_one : {m a e : ℕ} {r r' : Item} → ByNumber byte comma m a e r → ByNumber byte comma m a e r' → r ≡ r'
  by_one (few c) (few c') = refl
  by_one (few c) (one n v) = absurd (not_few n c)
  by_one (one n v) (few c) = absurd (not_few n c)
  by_one {m} {a} {e} (one {s} {f} n v) (one {s = s'} {f = f'} n' v') =
      let z = one_start n n' in
      sym (value_at_is byte s f n.cut.order v)
      ∙ ap₂ (λ (x y : ℕ). value_at byte x x y) z (sym (cut_end n.cut) ∙ ap (λ (x : ℕ). first_at comma x e) z ∙ cut_end n'.cut)
      ∙ value_at_is byte s' f' n'.cut.order v'

  module _ (m a e : ℕ) (h : a ≤ e) where
    pub number_exactly : (r : Item) → (item_no byte comma m a e ≡ r) ↔ ByNumber byte comma m a e r
    number_exactly r = (λ q. subst (ByNumber byte comma m a e) q (number_is m a e h), λ x. by_one (number_is m a e h) x)

    -- of the commas from a to e there are fewer than m
    pub no_item : (item_no byte comma m a e ≡ Other) ↔ (count comma e < count comma a + m)
    no_item = (λ q. none ((number_exactly Other).0 q), λ c. (number_exactly Other).1 (few c))
      where
        none : ByNumber byte comma m a e Other → count comma e < count comma a + m
        none (few c) = c
        none (one {s = s} {f = f} _ v) = elim v [ ]

    -- the item with number m is only blanks
    pub empty_item : (why : Cause) (p : ℕ) → (item_no byte comma m a e ≡ Broken why p) ↔ ((f : ℕ) × Numbered comma a e m p f × OnlyBlanks byte p f × (why ≡ EmptyValue))
    empty_item why p = (λ q. some ((number_exactly (Broken why p)).0 q), λ x. (number_exactly (Broken why p)).1 (rw x.3 (one x.1 (blank x.2))))
      where
        some : {why : Cause} {p : ℕ} → ByNumber byte comma m a e (Broken why p) → ((f : ℕ) × Numbered comma a e m p f × OnlyBlanks byte p f × (why ≡ EmptyValue))
        some (one {s} {f} n (blank o)) = (f, n, o, refl)
