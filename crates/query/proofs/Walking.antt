-- The walk over the items of a level, a word of the commas at a time: where it stands, and each way on. "The items from here are the items from
-- the start" is kept, with the number of items that may be left.
use Rattle.std.specs.Prelude.{Ok, Err, Some}
use Prim.Native.Nat.{ℕ, zero, suc, ◌+◌, ◌-◌, ◌*◌, ◌/◌, ◌^◌, ◌≤◌, ◌<◌}
use mathlib.Core.Path.{◌≡◌, refl, sym, ◌∙◌}
use mathlib.Core.Bool.{Bool, false}
use native.Mathlib.Omega.{arith}
use native.Mathlib.Decide.{dec_lt}
use lib.Count.{count_trailing_zeros}
use borrow.Author.Tests.{lt-ltb, le-ltb}
use Rattle.paths.specs.Places.{first_at}
use Rattle.query.specs.Items.{or_else, first_item_in, first_item}
use Rattle.query.specs.declared.types.Part.{Part}
use Rattle.query.specs.Item.{Item, Other}
use Rattle.query.specs.declared.items.Broken.{Broken}
use Rattle.rules.proofs.Booleans.{impossible}
use Rattle.paths.proofs.PlaceLaws.{first_at_is, first_all}
use Rattle.query.proofs.Standing.{Standing, standing_zero, standing_low, standing_shift}

-- ---- the laws of `first_item_in`: another item goes on, one that is found or broken stops, and the last

after_keeps : (it r : Item) → (it ≡ Other → ⊥) → or_else it r ≡ it
after_keeps (Ok (Some part)) r h = refl
after_keeps Other r h = absurd (h refl)
after_keeps (Err b) r h = refl

after_last : (it : Item) → or_else it Other ≡ it
after_last (Ok (Some part)) = refl
after_last Other = refl
after_last (Err b) = refl

module _ (item : ℕ → ℕ → Item) (comma : ℕ → Bool) (e : ℕ) where
  pub items_next : (f a c : ℕ) → first_at comma a e ≡ c → c < e → item a c ≡ Other → first_item_in item comma (suc f) a e ≡ first_item_in item comma f (c + 1) e
  unfolding first_item_in
  items_next f a c h l o = rw (h, o, lt-ltb c e l)

  pub items_stop : (f a c : ℕ) → first_at comma a e ≡ c → (item a c ≡ Other → ⊥) → first_item_in item comma (suc f) a e ≡ item a c
  unfolding first_item_in
  items_stop f a c h o = rw h (after_keeps (item a c) _ o)

  pub items_last : (f a : ℕ) → first_at comma a e ≡ e → first_item_in item comma (suc f) a e ≡ item a e
  unfolding first_item_in
  items_last f a h = rw (h, le-ltb e e (omega arith)) (after_last (item a e))

-- ---- where the walk stands: the item that begins at `start` has no comma before `at`, and x has the word's bits from `at` on

pub record Walking (item : ℕ → ℕ → Item) (t : ℕ → Bool) (lo hi start at w x : ℕ) : Type 0 where
  pub standing : Standing t w at x
  pub order : start ≤ at
  pub within : at ≤ hi
  pub none : (k : ℕ) → start ≤ k → k < at → t k ≡ false
  pub fuel : ℕ
  pub enough : hi - start < fuel
  pub same : first_item item t lo hi ≡ first_item_in item t fuel start hi

both : (t : ℕ → Bool) (a b c : ℕ) → ((k : ℕ) → a ≤ k → k < b → t k ≡ false) → ((k : ℕ) → b ≤ k → k < c → t k ≡ false)
    → (k : ℕ) → a ≤ k → k < c → t k ≡ false
both t a b c p q k h l = elim (dec_lt k b) [ yes y ↦ p k h y | no n ↦ q k (omega arith) l ]

module _ (item : ℕ → ℕ → Item) (t : ℕ → Bool) (lo hi : ℕ) where
  pub walking_from : (w x : ℕ) → lo < hi → Standing t w lo x → Walking item t lo hi lo lo w x
  unfolding first_item
  walking_from w x l s =
      record {
        standing = s;
        order = omega arith;
        within = omega arith;
        none = λ k h g. absurd (omega arith);
        fuel = suc (hi - lo);
        enough = omega arith;
        same = refl;
      }

  module _ (start at w x : ℕ) (g : Walking item t lo hi start at w x) where
    -- the next comma, if it is before hi
    pub comma_here : (x ≡ 0 → ⊥) → at + count_trailing_zeros 64 x < hi → first_at t start hi ≡ at + count_trailing_zeros 64 x
    comma_here ne l =
        let s = standing_low t w at x g.standing ne in
        first_at_is t start (at + count_trailing_zeros 64 x) hi (omega (arith, g.order)) l (both t start at (at + count_trailing_zeros 64 x) g.none s.2) s.1

    comma_out : (x ≡ 0 → ⊥) → hi ≤ at + count_trailing_zeros 64 x → first_at t start hi ≡ hi
    comma_out ne l =
        let s = standing_low t w at x g.standing ne in
        first_all t start hi (omega (arith, g.order, g.within)) (both t start at hi g.none (λ k a b. s.2 k a (omega arith)))

    comma_none : x ≡ 0 → hi ≤ w * 64 + 64 → first_at t start hi ≡ hi
    comma_none z l =
        first_all t start hi (omega (arith, g.order, g.within)) (both t start at hi g.none (λ k a b. standing_zero t w at x g.standing z k a (omega arith)))

    last_one : first_at t start hi ≡ hi → first_item item t lo hi ≡ item start hi
    last_one h = go g.fuel g.enough g.same
      where
        go : (f : ℕ) → hi - start < f → first_item item t lo hi ≡ first_item_in item t f start hi → first_item item t lo hi ≡ item start hi
        go zero n e = absurd (omega arith)
        go (suc f) n e = e ∙ items_last item t hi f start h

    -- the last item, in the word and after the last word
    pub walking_out : (x ≡ 0 → ⊥) → hi ≤ at + count_trailing_zeros 64 x → first_item item t lo hi ≡ item start hi
    walking_out ne l = last_one (comma_out ne l)

    pub walking_end : x ≡ 0 → hi ≤ w * 64 + 64 → first_item item t lo hi ≡ item start hi
    walking_end z l = last_one (comma_none z l)

    -- an item that is found or broken
    walking_stop : (r : Item) → (r ≡ Other → ⊥) → (x ≡ 0 → ⊥) → at + count_trailing_zeros 64 x < hi → item start (at + count_trailing_zeros 64 x) ≡ r → first_item item t lo hi ≡ r
    walking_stop r o ne l i = go g.fuel g.enough g.same
      where
        go : (f : ℕ) → hi - start < f → first_item item t lo hi ≡ first_item_in item t f start hi → first_item item t lo hi ≡ r
        go zero n e = absurd (omega arith)
        go (suc f) n e = e ∙ items_stop item t hi f start (at + count_trailing_zeros 64 x) (comma_here ne l) (λ q. o (sym i ∙ q)) ∙ i

    pub walking_found : {part : Part} → (x ≡ 0 → ⊥) → at + count_trailing_zeros 64 x < hi → item start (at + count_trailing_zeros 64 x) ≡ Ok (Some part) → first_item item t lo hi ≡ Ok (Some part)
    walking_found = walking_stop (Ok (Some _)) (λ q. impossible (cc))

    pub walking_broken : {broken : Broken} → (x ≡ 0 → ⊥) → at + count_trailing_zeros 64 x < hi → item start (at + count_trailing_zeros 64 x) ≡ Err broken → first_item item t lo hi ≡ Err broken
    walking_broken = walking_stop (Err _) (λ q. impossible (cc))

    -- past an item that is another's
    pub walking_next : (x ≡ 0 → ⊥) → at + count_trailing_zeros 64 x < hi → item start (at + count_trailing_zeros 64 x) ≡ Other
        → Walking item t lo hi (at + count_trailing_zeros 64 x + 1) (at + count_trailing_zeros 64 x + 1) w (x / 2 ^ count_trailing_zeros 64 x / 2)
    walking_next ne l o = go g.fuel g.enough g.same
      where
        go : (f : ℕ) → hi - start < f → first_item item t lo hi ≡ first_item_in item t f start hi
            → Walking item t lo hi (at + count_trailing_zeros 64 x + 1) (at + count_trailing_zeros 64 x + 1) w (x / 2 ^ count_trailing_zeros 64 x / 2)
        go zero n e = absurd (omega arith)
        go (suc f) n e =
            let s = standing_low t w at x g.standing ne in
            record {
              standing = standing_shift t w at x g.standing (count_trailing_zeros 64 x) s.0;
              order = omega arith;
              within = omega arith;
              none = λ k h j. absurd (omega arith);
              fuel = f;
              enough = omega (arith, g.order);
              same = e ∙ items_next item t hi f start (at + count_trailing_zeros 64 x) (comma_here ne l) l o;
            }

    -- into the next word
    pub walking_word : (r : ℕ) → x ≡ 0 → (w + 1) * 64 < hi → Standing t (w + 1) ((w + 1) * 64) r → Walking item t lo hi start ((w + 1) * 64) (w + 1) r
    walking_word r z l s =
        record {
          standing = s;
          order = omega (arith, g.order, g.standing.high);
          within = omega arith;
          none = both t start at ((w + 1) * 64) g.none (λ k a b. standing_zero t w at x g.standing z k a (omega arith));
          fuel = g.fuel;
          enough = g.enough;
          same = g.same;
        }
