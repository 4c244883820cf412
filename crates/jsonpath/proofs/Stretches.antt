-- Stretches of a record: a part of one is one, and the record is one of itself. By induction on the bytes.
use mathlib.Core.Path.{◌≡◌}
use mathlib.Core.List.{List, [], ◌∷◌, ◌++◌}
use Prim.Native.Nat.{ℕ, zero, suc, ◌+◌, ◌<◌}
use native.Mathlib.Nat.{add-zero, add-suc, suc-add, not-suc-le-zero, le_of_suc-le-suc}
use native.Mathlib.Numerals.{add-one}
use lib.ListN.{length, get_or, length-append}
use lib.Seq.{append_snoc, get_or-append_seam}
use Rattle.jsonpath.proofs.Trace.{Seg}

pub seg_left : (text : List ℕ) (i : ℕ) (xs ys : List ℕ) → Seg text i (xs ++ ys) → Seg text i xs
seg_left text i [] ys h = tt
seg_left text i (x ∷ xs) ys h = (h.0, seg_left text (suc i) xs ys h.1)

pub seg_right : (text : List ℕ) (i : ℕ) (xs ys : List ℕ) → Seg text i (xs ++ ys) → Seg text (i + length xs) ys
seg_right text i [] ys h = rw add-zero h
seg_right text i (x ∷ xs) ys h = rw (add-suc, ← suc-add) (seg_right text (suc i) xs ys h.1)

pub seg_at : (text : List ℕ) (i : ℕ) (xs : List ℕ) (j : ℕ) → Seg text i xs → j < length xs → get_or text (i + j) 0 ≡ get_or xs j 0
seg_at text i [] j h l = absurd (not-suc-le-zero l)
seg_at text i (x ∷ xs) zero h l = rw add-zero h.0
seg_at text i (x ∷ xs) (suc j) h l = rw (add-suc, ← suc-add) (seg_at text (suc i) xs j h.1 (le_of_suc-le-suc l))

behind : (xs ys : List ℕ) → Seg (xs ++ ys) (length xs) ys
behind xs [] = tt
behind xs (y ∷ ys) = (get_or-append_seam xs y ys 0, rw (append_snoc xs y ys, length-append xs (y ∷ []), add-one) at (behind (xs ++ (y ∷ [])) ys))

pub seg_self : (text : List ℕ) → Seg text 0 text
seg_self text = behind [] text
