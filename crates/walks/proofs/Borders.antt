-- Items as pairs of borders, cut at the commas: an item is the first one, or an item of what follows the first comma. So what the walk takes is the first
-- item that is not another's, where all before it are, and it takes none exactly where all are. By the commas, from the left.
use Prim.Native.Nat.{ℕ, zero, suc, ◌+◌, ◌-◌, ◌≤◌, ◌<◌}
use mathlib.Core.Path.{◌≡◌, refl, sym, ap, ap₂, ◌∙◌, subst}
use mathlib.Core.Logic.{◌⊎◌, inl, inr, ⊎_elim, ◌↔◌}
use mathlib.Core.Bool.{Bool, true, true≢false}
use mathlib.Core.List.{List}
use native.Mathlib.Omega.{arith}
use native.Mathlib.Nat.{eq-or-lt_of_le}
use native.Mathlib.Decide.{dec_lt}
use Rattle.std.specs.Prelude.{Ok, Err, Some}
use Rattle.rules.proofs.Booleans.{impossible}
use Rattle.paths.specs.Places.{first_at}
use Rattle.names.specs.Spelling.{matched}
use Rattle.query.specs.Items.{Bits, item_at, first_item_in, first_item}
use Rattle.walks.specs.Members.{Borders, AllOther, FirstIs, Member}
use Rattle.query.specs.declared.types.Cause.{Cause}
use Rattle.query.specs.Item.{Item, Found, Other, Broken}
use Rattle.paths.proofs.PlaceLaws.{first_ge, first_le, first_hit, first_miss, first_at_is, first_all}
use Rattle.query.proofs.Walking.{items_next, items_stop, items_last}
use Rattle.walks.proofs.Members.{item_exactly}

-- ---- the items from a to e

pub cut_from : {comma : ℕ → Bool} {a e s f : ℕ} → Borders comma a e s f → a ≤ s
cut_from c = ⊎_elim (λ q. omega arith) (λ q. omega arith) c.begins

pub cut_to : {comma : ℕ → Bool} {a e s f : ℕ} → Borders comma a e s f → f ≤ e
cut_to c = ⊎_elim (λ q. omega arith) (λ q. omega arith) c.ends

-- an item ends at the first comma, or at the end
pub cut_end : {comma : ℕ → Bool} {a e s f : ℕ} → Borders comma a e s f → first_at comma s e ≡ f
cut_end {comma} {a} {e} {s} {f} c =
    ⊎_elim (λ (q : f ≡ e). first_all comma s e (omega (arith, c.order)) (λ i l m. c.uncut i l (omega arith)) ∙ sym q)
    (λ q. first_at_is comma s f e c.order q.0 c.uncut q.1) c.ends

module _ (comma : ℕ → Bool) (a e : ℕ) (h : a ≤ e) where
  pub cut_first : Borders comma a e a (first_at comma a e)
  cut_first =
      record {
        begins = inl refl;
        ends = ⊎_elim inl (λ l. inr (l, first_hit comma a e h l)) (eq-or-lt_of_le (first_le comma a e h));
        order = first_ge comma a e h;
        uncut = first_miss comma a e h;
      }

  -- behind the first comma
  pub cut_next : {s f : ℕ} → first_at comma a e < e → Borders comma (first_at comma a e + 1) e s f → Borders comma a e s f
  cut_next {s} l c =
      let d = first_at comma a e in
      let g = first_ge comma a e h in
      let b = cut_from c in
      record {
        begins = inr (omega arith, ⊎_elim (λ (q : s ≡ d + 1). let z : s - 1 ≡ d = omega arith in ap comma z ∙ first_hit comma a e h l) (λ q. q.1) c.begins);
        ends = c.ends;
        order = c.order;
        uncut = c.uncut;
      }

  -- no other
  pub cut_cases : {s f : ℕ} → Borders comma a e s f → (s ≡ a) ⊎ ((first_at comma a e < e) × Borders comma (first_at comma a e + 1) e s f)
  cut_cases {s} {f} c = ⊎_elim inl (λ q. inr (behind q.0 q.1)) c.begins
    where
      behind : a < s → comma (s - 1) ≡ true → (first_at comma a e < e) × Borders comma (first_at comma a e + 1) e s f
      behind l y =
          let d = first_at comma a e in
          let o = c.order in
          let t = cut_to c in
          elim (dec_lt (s - 1) d) [
            | yes m ↦ absurd (true≢false (sym y ∙ first_miss comma a e h (s - 1) (omega arith) m))
            | no m ↦ (
              omega arith,
              record {
                begins = ⊎_elim (λ (q : d + 1 ≡ s). inl (sym q)) (λ q. inr (q, y)) (eq-or-lt_of_le (let z : d + 1 ≤ s = omega arith in z));
                ends = c.ends;
                order = c.order;
                uncut = c.uncut;
              },
            )
          ]

-- ---- the first that is not another's

pub found_stops : {p q : ℕ} → Found p q ≡ Other → ⊥
found_stops e = impossible (cc)

pub broken_stops : {why : Cause} {p : ℕ} → Broken why p ≡ Other → ⊥
broken_stops e = impossible (cc)

other_or_not : (x : Item) → (x ≡ Other) ⊎ (x ≡ Other → ⊥)
other_or_not (Ok (Some part)) = inr (λ e. found_stops e)
other_or_not Other = inl refl
other_or_not (Err b) = inr (λ e. broken_stops e)

module _ (item : ℕ → ℕ → Item) (is : ℕ → ℕ → Item → Type 0) (law : (s f : ℕ) (r : Item) → s ≤ f → (item s f ≡ r) ↔ is s f r) (comma : ℕ → Bool) where
  data Taken (a e : ℕ) : Item → Type 0 where
    none : AllOther is comma a e → Taken a e Other
    first : {r : Item} → (r ≡ Other → ⊥) → FirstIs is comma a e r → Taken a e r

  item_here : {a e : ℕ} {r : Item} (w : FirstIs is comma a e r) → item w.start w.end ≡ r
  item_here {r = r} w = (law w.start w.end r w.cut.order).1 w.here

  -- no item is both
  not_both : {a e : ℕ} {r : Item} → (r ≡ Other → ⊥) → (w : FirstIs is comma a e r) → is w.start w.end Other → ⊥
  not_both g w o = g (sym (item_here w) ∙ (law w.start w.end Other w.cut.order).1 o)

  -- at most one item is the first
  taken_one : {a e : ℕ} {r r' : Item} → Taken a e r → Taken a e r' → r ≡ r'
  taken_one (none k) (none m) = refl
  taken_one (none k) (first g w) = absurd (not_both g w (k w.start w.end w.cut))
  taken_one (first g w) (none k) = absurd (not_both g w (k w.start w.end w.cut))
  taken_one {a} {e} (first g w) (first j v) =
      elim (dec_lt w.start v.start) [
        | yes l ↦ absurd (not_both g w (v.before w.start w.end w.cut (omega arith)))
        | no l ↦ elim (dec_lt v.start w.start) [
          | yes m ↦ absurd (not_both j v (w.before v.start v.end v.cut (omega arith)))
          | no m ↦
              let z : w.start ≡ v.start = omega arith in
              sym (item_here w) ∙ ap₂ item z (sym (cut_end w.cut) ∙ ap (λ (x : ℕ). first_at comma x e) z ∙ cut_end v.cut) ∙ item_here v
        ]
      ]

  module _ {a e : ℕ} (h : a ≤ e) (o : item a (first_at comma a e) ≡ Other) where
    -- the first item is another's
    other_first : {s f : ℕ} → Borders comma a e s f → s ≡ a → is s f Other
    other_first {s} {f} c q = (law s f Other c.order).0 (ap₂ item q (sym (cut_end c) ∙ ap (λ (x : ℕ). first_at comma x e) q) ∙ o)

    taken_next : {r : Item} → first_at comma a e < e → Taken (first_at comma a e + 1) e r → Taken a e r
    taken_next l (none k) = none (λ s f c. ⊎_elim (other_first c) (λ q. k s f q.1) (cut_cases comma a e h c))
    taken_next l (first g w) =
        first g (record {
          start = w.start;
          end = w.end;
          cut = cut_next comma a e h l w.cut;
          here = w.here;
          before = λ s f c b. ⊎_elim (other_first c) (λ q. w.before s f q.1 b) (cut_cases comma a e h c);
        })

    taken_none : e ≤ first_at comma a e → Taken a e Other
    taken_none l = none (λ s f c. ⊎_elim (other_first c) (λ q. absurd (omega arith)) (cut_cases comma a e h c))

  taken_first : {a e : ℕ} → a ≤ e → (item a (first_at comma a e) ≡ Other → ⊥) → Taken a e (item a (first_at comma a e))
  taken_first {a} {e} h g =
      let d = first_at comma a e in
      first g (record {
        start = a;
        end = d;
        cut = cut_first comma a e h;
        here = (law a d (item a d) (first_ge comma a e h)).0 refl;
        before = λ s f c l. absurd (omega (arith, cut_from c));
      })

  items_taken : (c a e : ℕ) → e - a < c → a ≤ e → Taken a e (first_item_in item comma c a e)
  items_taken zero a e n h = absurd (omega arith)
  items_taken (suc c) a e n h = ⊎_elim (other (λ b m k. items_taken c b e m k)) (λ g. rw (items_stop item comma e c a d refl g) (taken_first h g)) (other_or_not (item a d))
    where
      d : ℕ
      d = first_at comma a e

      other : ((b : ℕ) → e - b < c → b ≤ e → Taken b e (first_item_in item comma c b e)) → item a d ≡ Other → Taken a e (first_item_in item comma (suc c) a e)
      other ih o =
          elim (dec_lt d e) [
            | yes l ↦ rw (items_next item comma e c a d refl l o) (taken_next h o l (ih (d + 1) (omega (arith, first_ge comma a e h)) (omega arith)))
            | no l ↦
                let z : d ≡ e = omega (arith, first_le comma a e h) in
                rw (items_last item comma e c a z ∙ ap (item a) (sym z) ∙ o) (taken_none h o (omega arith))
          ]

  module _ (a e : ℕ) (h : a ≤ e) where
    taken : Taken a e (first_item item comma a e)
    unfolding first_item
    taken = items_taken (suc (e - a)) a e (omega arith) h

    -- none is taken exactly where all are others
    pub none_taken : (first_item item comma a e ≡ Other) ↔ AllOther is comma a e
    none_taken = (λ q. all (subst (Taken a e) q taken), λ k. taken_one taken (none k))
      where
        all : Taken a e Other → AllOther is comma a e
        all (none k) = k
        all (first g w) = absurd (g refl)

    -- and r exactly where the first that is not another is r
    pub first_taken : (r : Item) → (r ≡ Other → ⊥) → (first_item item comma a e ≡ r) ↔ FirstIs is comma a e r
    first_taken r g = (λ q. one g (subst (Taken a e) q taken), λ w. taken_one taken (first g w))
      where
        one : {r : Item} → (r ≡ Other → ⊥) → Taken a e r → FirstIs is comma a e r
        one g (none k) = absurd (g refl)
        one g (first j w) = w

-- ---- of a name step

module _ (byte : ℕ → ℕ) (bits : Bits) (k : ℕ) (n : List ℕ) (a e : ℕ) (h : a ≤ e) where
  -- "no such name": every item is whole and has another
  pub no_such_name : (first_item (item_at byte bits k (matched n)) (bits.comma k) a e ≡ Other) ↔ AllOther (Member byte bits k n) (bits.comma k) a e
  no_such_name = none_taken (item_at byte bits k (matched n)) (Member byte bits k n) (item_exactly byte bits k n) (bits.comma k) a e h

  -- "The walk stops at the first broken item .. or the first item whose name has the path's bytes"
  pub first_stops : (r : Item) → (r ≡ Other → ⊥) → (first_item (item_at byte bits k (matched n)) (bits.comma k) a e ≡ r) ↔ FirstIs (Member byte bits k n) (bits.comma k) a e r
  first_stops = first_taken (item_at byte bits k (matched n)) (Member byte bits k n) (item_exactly byte bits k n) (bits.comma k) a e h
