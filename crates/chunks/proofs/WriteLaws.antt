-- Words written over, one after the other: the next word of a bitmap, what is not yet written, and what is never written.
use mathlib.Core.Path.{◌≡◌, refl, sym, ap, ◌∙◌}
use mathlib.Core.Bool.{Bool, true, false, ◌&&◌}
use mathlib.Core.Logic.{◌⊎◌, inl, inr}
use mathlib.Core.List.{List}
use Prim.Native.Nat.{ℕ, suc, ◌+◌, ◌*◌, ◌≤◌, ◌<◌, max}
use native.Mathlib.Omega.{arith}
use borrow.Author.Tests.{lt-ltb, le-ltb, le-leb, lt-leb}
use native.Mathlib.Decide.{ℕ_discrete, dec_lt}
use native.Mathlib.Nat.{lt_of_not-le}
use lib.ListN.{length, set}
use lib.Dec.{ltb, leb}
use Rattle.rules.specs.Word.{pick}
use Rattle.rules.specs.Layout.{Bitmap, Has, address, cell}
use Rattle.rules.proofs.LayoutLaws.{Cells, cells_store, cells_only, laid_cells}
use Rattle.chunks.specs.Writing.{over, rewritten}

-- what a word is: in the part that is written, below it, and above it
module _ (till : Bitmap → ℕ) (from : ℕ) (f old : Bitmap → ℕ → ℕ) (b : Bitmap) (w : ℕ) where
  pub over_in : from ≤ w → w < till b → over till from f old b w ≡ f b w
  unfolding over
  over_in p q = simp (le-leb from w p, lt-ltb w (till b) q)

  pub over_below : w < from → over till from f old b w ≡ old b w
  unfolding over
  over_below p = simp (lt-leb from w p)

  pub over_above : till b ≤ w → over till from f old b w ≡ old b w
  unfolding over
  over_above q = go (leb from w)
    where
      go : (d : Bool) → pick (d && ltb w (till b)) (f b w) (old b w) ≡ old b w
      go true = simp (le-ltb w (till b) q)
      go false = refl

  pub over_out : (from ≤ w → w < till b → ⊥) → over till from f old b w ≡ old b w
  over_out n = go (dec_lt w from)
    where
      go : Dec (w < from) → over till from f old b w ≡ old b w
      go (yes l) = over_below l
      go (no m) = let h : from ≤ w = omega (arith, lt_of_not-le m) in over_above (omega (arith, n h))

-- two limits that say the same of a word
pub over_same : (t u : Bitmap → ℕ) (from : ℕ) (f old : Bitmap → ℕ → ℕ) (b : Bitmap) (w : ℕ) → ltb w (t b) ≡ ltb w (u b) → over t from f old b w ≡ over u from f old b w
unfolding over
over_same t u from f old b w e = ap (λ (d : Bool). pick (leb from w && d) (f b w) (old b w)) e

pub next_limit : (w t : ℕ) → (w ≡ t → ⊥) → ltb w t ≡ ltb w (suc t)
next_limit w t n = go (dec_lt w t)
  where
    go : Dec (w < t) → ltb w t ≡ ltb w (suc t)
    go (yes l) = lt-ltb w t l ∙ sym (lt-ltb w (suc t) (omega arith))
    go (no m) =
        let above : t ≤ w = omega (arith, lt_of_not-le m) in
        let more : suc t ≤ w = go2 above (ℕ_discrete w t) in
        le-ltb w t above ∙ sym (le-ltb w (suc t) more)
      where
        go2 : t ≤ w → Dec (w ≡ t) → suc t ≤ w
        go2 a (yes e) = absurd (n e)
        go2 a (no e) = omega (arith, e)

module _ (levels width from : ℕ) (f old : Bitmap → ℕ → ℕ) where
  -- the next word of one bitmap; the limits of the others stay
  pub write_next : (t u : Bitmap → ℕ) (b : Bitmap) (w v : ℕ) (words : List ℕ) → Cells levels width words (over t from f old) → Has levels b → from ≤ w → w < width
      → t b ≡ w → u b ≡ suc w → ((c : Bitmap) → (c ≡ b) ⊎ (t c ≡ u c)) → v ≡ f b w → Cells levels width (set words (address levels width b w) v) (over u from f old)
  write_next t u b w v words p h l k et eu others ev =
      cells_store levels width (over u from f old) b w v p h k (ev ∙ sym (over_in u from f old b w l (omega (arith, eu)))) rest
    where
      rest : (c : Bitmap) (x : ℕ) → (c ≡ b → x ≡ w → ⊥) → over t from f old c x ≡ over u from f old c x
      rest c x n = go (others c)
        where
          go : (c ≡ b) ⊎ (t c ≡ u c) → over t from f old c x ≡ over u from f old c x
          go (inl e) =
              over_same t u from f old c x
              (ap (ltb x) (ap t e ∙ et) ∙ next_limit x w (n e) ∙ ap (ltb x) (sym (ap u e ∙ eu)))
          go (inr e) = over_same t u from f old c x (ap (ltb x) e)

-- nothing is written yet
pub write_none : (levels width from : ℕ) (t : Bitmap → ℕ) (f : Bitmap → ℕ → ℕ) (words : List ℕ) → length words ≡ (2 + 2 * levels) * width → ((b : Bitmap) → t b ≤ from)
    → Cells levels width words (over t from f (cell words levels width))
write_none levels width from t f words e none =
    record { long = e; holds = λ b h w l. sym (over_out t from f (cell words levels width) b w (λ p q. omega (arith, none b))) }

-- all is written
pub write_all : (levels width from : ℕ) (t : Bitmap → ℕ) (f : Bitmap → ℕ → ℕ) (words out : List ℕ) → Cells levels width out (over t from f (cell words levels width))
    → out ≡ rewritten levels width t from f words
unfolding rewritten
write_all levels width from t f words out p = cells_only levels width p (laid_cells levels width (over t from f (cell words levels width))) (λ b h w l. refl)

-- a loop from `from` that has come to its end, or that had nothing to do
pub limit_end : (from to w x : ℕ) → to ≤ w → w ≤ max from to → from ≤ x → ltb x w ≡ ltb x to
limit_end from to w x l h m = go (dec_lt x to)
  where
    go : Dec (x < to) → ltb x w ≡ ltb x to
    go (yes k) = lt-ltb x w (omega arith) ∙ sym (lt-ltb x to k)
    go (no n) = le-ltb x w (omega (arith, lt_of_not-le n)) ∙ sym (le-ltb x to (omega (arith, lt_of_not-le n)))

pub write_end : (levels width from : ℕ) (t u : Bitmap → ℕ) (f : Bitmap → ℕ → ℕ) (words out : List ℕ) → Cells levels width out (over t from f (cell words levels width))
    → ((b : Bitmap) (w : ℕ) → from ≤ w → ltb w (t b) ≡ ltb w (u b)) → out ≡ rewritten levels width u from f words
unfolding rewritten
write_end levels width from t u f words out p same =
    cells_only levels width p (laid_cells levels width (over u from f (cell words levels width))) at
  where
    at : (b : Bitmap) → Has levels b → (w : ℕ) → w < width → over t from f (cell words levels width) b w ≡ over u from f (cell words levels width) b w
    at b h w l = go (dec_lt w from)
      where
        go : Dec (w < from) → over t from f (cell words levels width) b w ≡ over u from f (cell words levels width) b w
        go (yes k) = over_below t from f (cell words levels width) b w k ∙ sym (over_below u from f (cell words levels width) b w k)
        go (no n) = over_same t u from f (cell words levels width) b w (same b w (omega (arith, lt_of_not-le n)))

-- two rules that say the same of each word that is written
pub rewritten_ext : (levels width : ℕ) (t : Bitmap → ℕ) (from : ℕ) (f g : Bitmap → ℕ → ℕ) (words : List ℕ) → ((b : Bitmap) (w : ℕ) → from ≤ w → w < t b → f b w ≡ g b w)
    → rewritten levels width t from f words ≡ rewritten levels width t from g words
unfolding rewritten
rewritten_ext levels width t from f g words same =
    cells_only levels width (laid_cells levels width _) (laid_cells levels width _) (λ b h w l. go b w (dec_lt w from) (dec_lt w (t b)))
  where
    old : Bitmap → ℕ → ℕ
    old = cell words levels width

    go : (b : Bitmap) (w : ℕ) → Dec (w < from) → Dec (w < t b) → over t from f old b w ≡ over t from g old b w
    go b w (yes l) d = over_below t from f old b w l ∙ sym (over_below t from g old b w l)
    go b w (no n) (yes l) =
        let h : from ≤ w = omega (arith, lt_of_not-le n) in
        over_in t from f old b w h l ∙ same b w h l ∙ sym (over_in t from g old b w h l)
    go b w (no n) (no m) =
        let h : t b ≤ w = omega (arith, lt_of_not-le m) in
        over_above t from f old b w h ∙ sym (over_above t from g old b w h)
