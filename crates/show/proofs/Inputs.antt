-- The parts of an input, and the buffers for its record.
use Prim.Native.Nat.{ℕ, zero, suc, ◌+◌, ◌*◌, ◌≤◌, ◌<◌}
use mathlib.Core.Path.{◌≡◌, refl, sym, ap}
use mathlib.Core.List.{List, ◌∷◌}
use native.Mathlib.Omega.{arith}
use lib.ListN.{length, take, drop, length-replicate}
use lib.Seq.{length-take-le}
use borrow.Author.Tests.{lt-ltb, le-ltb}
use Rattle.rules.specs.Layout.{listed}
use Rattle.rules.proofs.LayoutLaws.{length_listed}
use Rattle.std.proofs.lemmas.List.{take-replicate}
use Rattle.show.specs.Running.{multiples}
use mathlib.Core.Bool.{false}
use Rattle.memchr.specs.Find.{Nowhere, NoneBefore, Passes, is_byte}
use Rattle.std.proofs.lemmas.Bool.{false_from_ne_true}
use Rattle.paths.proofs.PlaceLaws.{first_le, first_at_is, first_all}
use Rattle.show.specs.Printing.{is_feed, path_end, placed, zeros, printed_of, shown}

-- ---- buffers

take_listed : (f : ℕ → ℕ) (i m k : ℕ) → m ≤ k → take m (listed f i k) ≡ listed f i m
unfolding listed
take_listed f i zero k l = refl
take_listed f i (suc m) zero l = absurd (omega (arith, l))
take_listed f i (suc m) (suc k) l = ap {B = List ℕ} (λ r. f i ∷ r) (take_listed f (suc i) m k (omega (arith, l)))

pub take_multiples : (m k : ℕ) → m ≤ k → take m (multiples k) ≡ multiples m
unfolding multiples
take_multiples m k l = take_listed (λ i. 1024 * i) 1 m k l

pub take_zeros : (m k : ℕ) → m ≤ k → take m (zeros k) ≡ zeros m
unfolding zeros
take_zeros m k l = take-replicate m k 0 l

pub multiples_long : (k : ℕ) → length (multiples k) ≡ k
unfolding multiples
multiples_long k = length_listed (λ i. 1024 * i) 1 k

pub zeros_long : (k : ℕ) → length (zeros k) ≡ k
unfolding zeros
zeros_long k = length-replicate k 0

pub take_fits : (l : List ℕ) {m k : ℕ} → length l ≡ k → m ≤ k → m ≡ length (take m l)
take_fits l {m} e h = sym (length-take-le m l (omega (arith, e, h)))

-- ---- cases of the line

-- the place of the first LF, by a search
feed_missed : (input : List ℕ) (i k : ℕ) → Nowhere (Passes (is_byte 10) input) 0 i → k < i → is_feed input k ≡ false
feed_missed input i k n l = false_from_ne_true (is_feed input k) (λ t. n k (omega arith) l t)

pub feed_found : (input : List ℕ) (i : ℕ) → NoneBefore (Passes (is_byte 10) input) 0 (length input) i × Passes (is_byte 10) input i → path_end input ≡ i
unfolding path_end
feed_found input i h = first_at_is (is_feed input) 0 i (length input) (omega arith) h.0.high (λ k p q. feed_missed input i k h.0.before q) h.1

pub feed_unfound : (input : List ℕ) → Nowhere (Passes (is_byte 10) input) 0 (length input) → path_end input ≡ length input
unfolding path_end
feed_unfound input n = first_all (is_feed input) 0 (length input) (omega arith) (λ k p q. feed_missed input (length input) k n q)

module _ (input : List ℕ) (at : ℕ) (here : at ≡ path_end input) where
  pub end_within : at ≤ length input
  unfolding path_end
  end_within = rw here (first_le (is_feed input) 0 (length input) (omega arith))

  pub long_path : 1024 < at → placed 21 0 ≡ shown input
  unfolding shown
  long_path l = rw (← here, lt-ltb 1024 at l)

  module _ (short : at ≤ 1024) where
    pub long_record : 16384 < length (drop (at + 1) input) → placed 2 0 ≡ shown input
    unfolding shown
    long_record l = rw (← here, le-ltb 1024 at short, lt-ltb 16384 (length (drop (at + 1) input)) l)

    pub both : length (drop (at + 1) input) ≤ 16384 → printed_of (drop (at + 1) input) (take at input) ≡ shown input
    unfolding shown
    both l = rw (← here, le-ltb 1024 at short, le-ltb 16384 (length (drop (at + 1) input)) l)
