-- `store` meets its contract: of word w, the colons and commas of the first k levels are written.
use mathlib.Core.Path.{◌≡◌, refl, sym, ap, ap₂, ◌∙◌, subst}
use mathlib.Core.Bool.{Bool}
use mathlib.Core.Logic.{◌⊎◌, inl, inr}
use mathlib.Core.List.{List}
use Prim.Native.Nat.{ℕ, zero, suc, ◌+◌, ◌≤◌, ◌<◌}
use native.Mathlib.Numerals.{add-one}
use native.Mathlib.Decide.{ℕ_discrete}
use native.Mathlib.Omega.{arith}
use borrow.Author.Tests.{lt-ltb, le-ltb}
use lib.ListN.{get_or, set}
use lib.Bits.{bit_and}
use lib.Dec.{ltb}
use Rattle.rules.specs.Word.{pick}
use Rattle.rules.specs.Layout.{Bitmap, quotes, mask, colons, commas, address, Has}
use Rattle.rules.proofs.LayoutLaws.{Cells}
use Rattle.chunks.specs.Writing.{over, levels_till}
use Rattle.chunks.specs.Storing.{LevelsAt}
use Rattle.chunks.proofs.WriteLaws.{next_limit, over_same, write_next}
use Rattle.chunks.proofs.levelling.store.Invariants.{upto}
use Rattle.chunks.proofs.levelling.store.Goals as goal

other_level : (w p j : ℕ) → (j ≡ p → ⊥) → pick (ltb j p) (suc w) w ≡ pick (ltb j (suc p)) (suc w) w
other_level w p j n = ap (λ (b : Bool). pick b (suc w) w) (next_limit j p n)

decide : (b : ℕ → Bitmap) (w p : ℕ) (j : ℕ) → (b (suc j) ≡ b (suc p)) ⊎ (pick (ltb j p) (suc w) w ≡ pick (ltb j (suc p)) (suc w) w)
decide b w p j = go (ℕ_discrete j p)
  where
    go : Dec (j ≡ p) → (b (suc j) ≡ b (suc p)) ⊎ (pick (ltb j p) (suc w) w ≡ pick (ltb j (suc p)) (suc w) w)
    go (yes e) = inl (ap (λ (x : ℕ). b (suc x)) e)
    go (no n) = inr (other_level w p j n)

colons_only : (w p q : ℕ) (c : Bitmap) → (c ≡ colons (suc p)) ⊎ (upto w p q c ≡ upto w (suc p) q c)
unfolding upto
colons_only w p q quotes = inr refl
colons_only w p q mask = inr refl
colons_only w p q (colons zero) = inr refl
colons_only w p q (colons (suc j)) = decide colons w p j
colons_only w p q (commas zero) = inr refl
colons_only w p q (commas (suc j)) = inr refl

commas_only : (w p q : ℕ) (c : Bitmap) → (c ≡ commas (suc q)) ⊎ (upto w p q c ≡ upto w p (suc q) c)
unfolding upto
commas_only w p q quotes = inr refl
commas_only w p q mask = inr refl
commas_only w p q (colons zero) = inr refl
commas_only w p q (colons (suc j)) = inr refl
commas_only w p q (commas zero) = inr refl
commas_only w p q (commas (suc j)) = decide commas w q j

here_is : (w p : ℕ) → pick (ltb p p) (suc w) w ≡ w
here_is w p = ap (λ (b : Bool). pick b (suc w) w) (le-ltb p p (omega arith))

next_is : (w p : ℕ) → pick (ltb p (suc p)) (suc w) w ≡ suc w
next_is w p = ap (λ (b : Bool). pick b (suc w) w) (lt-ltb p (suc p) (omega arith))

-- the limits at the first level, and behind the last
none_yet : (levels w : ℕ) (b : Bitmap) → Has levels b → levels_till w b ≡ upto w 0 0 b
unfolding upto levels_till
none_yet levels w quotes h = refl
none_yet levels w mask h = refl
none_yet levels w (colons zero) h = refl
none_yet levels w (colons (suc j)) h = ap (λ (b : Bool). pick b (suc w) w) (sym (le-ltb j 0 (omega arith)))
none_yet levels w (commas zero) h = refl
none_yet levels w (commas (suc j)) h = ap (λ (b : Bool). pick b (suc w) w) (sym (le-ltb j 0 (omega arith)))

all_done : (levels w : ℕ) (b : Bitmap) → Has levels b → upto w levels levels b ≡ levels_till (suc w) b
unfolding upto levels_till
all_done levels w quotes h = refl
all_done levels w mask h = refl
all_done levels w (colons zero) h = absurd (omega (arith, h.0))
all_done levels w (colons (suc j)) h = ap (λ (b : Bool). pick b (suc w) w) (lt-ltb j levels (omega (arith, h.1)))
all_done levels w (commas zero) h = absurd (omega (arith, h.0))
all_done levels w (commas (suc j)) h = ap (λ (b : Bool). pick b (suc w) w) (lt-ltb j levels (omega (arith, h.1)))

-- limits that are the same where they matter
relimit : (levels width from : ℕ) (t u : Bitmap → ℕ) (f old : Bitmap → ℕ → ℕ) (words : List ℕ) → ((b : Bitmap) → Has levels b → t b ≡ u b) → Cells levels width words (over t from f old) → Cells levels width words (over u from f old)
relimit levels width from t u f old words same p =
    record { long = p.long; holds = λ b h w l. p.holds b h w l ∙ over_same t u from f old b w (ap (ltb w) (same b h)) }

turn : (levels width w from : ℕ) (f old : Bitmap → ℕ → ℕ) (slots : List ℕ) (colon comma k : ℕ) (words one two : List ℕ) → k < levels → w < width → from ≤ w → LevelsAt levels w slots colon comma f
    → Cells levels width words (over (upto w k k) from f old) → one ≡ set words (address levels width (colons (k + 1)) w) (bit_and colon (get_or slots (k + 1) 0))
    → two ≡ set one (address levels width (commas (k + 1)) w) (bit_and comma (get_or slots (k + 1) 0)) → Cells levels width two (over (upto w (k + 1) (k + 1)) from f old)
unfolding upto
turn levels width w from f old slots colon comma k words one two l m h given p e₁ e₂ =
    let v = bit_and colon (get_or slots (k + 1) 0) in
    let u = bit_and comma (get_or slots (k + 1) 0) in
    let step₁ = write_next levels width from f old (upto w k k) (upto w (suc k) k) (colons (suc k)) w v words p (omega arith, omega arith) h m (here_is w k) (next_is w k) (colons_only w k k) (given.colons_are k l) in
    let step₂ = write_next levels width from f old (upto w (suc k) k) (upto w (suc k) (suc k)) (commas (suc k)) w u _ step₁ (omega arith, omega arith) h m (here_is w k) (next_is w k) (commas_only w (suc k) k) (given.commas_are k l) in
    let one-is = e₁ ∙ ap (λ (j : ℕ). set words (address levels width (colons j) w) v) (add-one k) in
    let two_is = e₂ ∙ ap₂ (λ (x : List ℕ) (j : ℕ). set x (address levels width (commas j) w) u) one-is (add-one k) in
    subst (λ (x : ℕ). Cells levels width two (over (upto w x x) from f old)) (sym (add-one k))
    (subst (λ (x : List ℕ). Cells levels width x (over (upto w (suc k) (suc k)) from f old)) (sym two_is) step₂)

pub loop-k-init : goal.loop-k-init
loop-k-init c = let a = c.args in
    record {
      high = omega arith;
      long = refl;
      written = λ from f old h given p. relimit a.shape.levels a.shape.width from (levels_till a.w) (upto a.w 0 0) f old _ (none_yet a.shape.levels a.w) p;
    }

pub loop-k-preserved : goal.loop-k-preserved
loop-k-preserved c = let a = c.args in
    let inv = c.loop-k.invariant in
    record {
      high = omega arith;
      long = c.put-in-loop-k.auto.words ∙ c.put.auto.words ∙ inv.long;
      written = λ from f old h given p.
          turn a.shape.levels a.shape.width a.w from f old a.slots.now a.colon a.comma c.loop-k.k c.loop-k.words _ _ (omega arith) c.requires.0 h given (inv.written from f old h given p) c.put.ensures c.put-in-loop-k.ensures;
    }

pub returns : goal.returns
returns c = let a = c.args in
    let i = c.loop-k.invariant in
    let end : c.loop-k.k ≡ a.shape.levels = omega (arith, i.high) in
    record {
      stores = λ from f old h given p.
          relimit a.shape.levels a.shape.width from (upto a.w a.shape.levels a.shape.levels) (levels_till (suc a.w)) f old _ (all_done a.shape.levels a.w)
          (subst (λ (k : ℕ). Cells a.shape.levels a.shape.width c.loop-k.words (over (upto a.w k k) from f old)) end (i.written from f old h given p));
    }
