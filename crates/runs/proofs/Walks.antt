-- A walk over brackets from a depth: it meets no fault exactly when the depth stays within 0 and 64, that is when what a chunk keeps says so;
-- and a walk from the true depth meets the first fault of the record. By induction on the places.
use Rattle.std.specs.Prelude.{Result, Ok, Err}
use mathlib.Core.Path.{◌≡◌, refl, sym, ap, ap₂, ◌∙◌, subst}
use mathlib.Core.Bool.{Bool, true, false, ◌&&◌, ◌||◌}
use mathlib.Core.List.{List}
use Prim.Native.Nat.{ℕ, zero, suc, ◌+◌, ◌-◌, ◌≤◌}
use native.Mathlib.Nat.{add-zero, suc-add, zero-add}
use native.Mathlib.Numerals.{add-one}
use native.Mathlib.Omega.{arith}
use borrow.Author.Tests.{eq-eqb, ne_eqb}
use native.Mathlib.Decide.{ℕ_discrete}
use Rattle.rules.proofs.RuleLaws.{plain_apart}
use Rattle.rules.specs.Word.{digit, count}
use Rattle.rules.specs.Bits.{opener, closer, at_depth, mask_bit}
use Rattle.rules.specs.Faults.{closes_none, opens_over, fault_from}
use Rattle.index.specs.declared.Fault.{Fault}
use Rattle.index.specs.declared.Fault.TheVariants.{Closer, Opener}
use Rattle.runs.specs.Runs.{verdict_of}
use Rattle.blocks.specs.Swinging.{dip, peak, Apart}
use Rattle.index.specs.Settling.{limit_of, fault_of_bracket, depth_past, seek}
use Rattle.index.proofs.SeekLaws.{seek_none, seek_fault, seek_past, seek_on, seek_at}
use Rattle.blocks.proofs.SwingLaws.{dip_ge, peak_ge}

-- ---- one place

pub data Place (o c : ℕ → Bool) (i : ℕ) : Type 0 where
  none : o i ≡ false → c i ≡ false → Place o c i
  open_here : o i ≡ true → c i ≡ false → Place o c i
  close_here : o i ≡ false → c i ≡ true → Place o c i

pub place : (o c : ℕ → Bool) → Apart o c → (i : ℕ) → Place o c i
place o c apart i = go (o i) refl (c i) refl
  where
    go : (x : Bool) → o i ≡ x → (y : Bool) → c i ≡ y → Place o c i
    go true p y q = open_here p (apart i p)
    go false p true q = close_here p q
    go false p false q = none p q

-- ---- the walk and what the chunk keeps

-- of m places from a on, at depth d: the walk meets no fault and the depth stays within 0 and 64, or it meets one and it does not
pub data Walked (o c : ℕ → Bool) (a d m : ℕ) : Type 0 where
  stays : (e : ℕ) → seek o c d a m ≡ Ok e → dip (λ j. o (a + j)) (λ j. c (a + j)) m ≤ d → d + peak (λ j. o (a + j)) (λ j. c (a + j)) m ≤ 64
      → d + count (λ j. o (a + j)) m ≡ e + count (λ j. c (a + j)) m → Walked o c a d m
  meets : (f : Fault) → seek o c d a m ≡ Err f → (dip (λ j. o (a + j)) (λ j. c (a + j)) m ≤ d → d + peak (λ j. o (a + j)) (λ j. c (a + j)) m ≤ 64 → ⊥) → Walked o c a d m

module _ (o c : ℕ → Bool) (apart : Apart o c) (a d : ℕ) where
  next_on : (m : ℕ) {e : ℕ} {s : Result ℕ Fault} → seek o c d a m ≡ Ok e → seek o c e (a + m) 1 ≡ s → seek o c d a (suc m) ≡ s
  next_on m p q = ap (seek o c d a) (sym (add-one m)) ∙ seek_on o c d a m 1 p ∙ q

  pub walked : (m : ℕ) → d ≤ 64 → Walked o c a d m
  unfolding seek dip peak count
  walked zero l = stays d refl (omega arith) (omega arith) (omega arith)
  walked (suc m) l = go (walked m l) (place o c apart (a + m))
    where
      u : ℕ → Bool
      u j = o (a + j)

      v : ℕ → Bool
      v j = c (a + j)

      at_opener : (e : ℕ) → seek o c d a m ≡ Ok e → dip u v m ≤ d → d + peak u v m ≤ 64 → d + count u m ≡ e + count v m → o (a + m) ≡ true → c (a + m) ≡ false → Dec (e ≡ 64) → Walked o c a d (suc m)
      at_opener e p x y z q r (yes t) =
          meets (fault_of_bracket (o (a + m)) (a + m)) (next_on m p (seek_fault o c e (a + m) 0 (ap₂ ◌||◌ q r) (t ∙ ap limit_of (sym q))))
          (λ low high. omega (arith, ap digit q, ap digit r))
      at_opener e p x y z q r (no n) =
          stays (depth_past (o (a + m)) e) (next_on m p (seek_past o c e (a + m) 0 (ap₂ ◌||◌ q r) (λ t. n (t ∙ ap limit_of q))))
          (omega (arith, ap digit q, ap digit r, dip_ge u v m)) (omega (arith, ap digit q, ap digit r, n, peak_ge u v m)) (omega (arith, ap digit q, ap digit r, ap (λ (b : Bool). depth_past b e) q))

      at_closer : (e : ℕ) → seek o c d a m ≡ Ok e → dip u v m ≤ d → d + peak u v m ≤ 64 → d + count u m ≡ e + count v m → o (a + m) ≡ false → c (a + m) ≡ true → Dec (e ≡ 0) → Walked o c a d (suc m)
      at_closer e p x y z q r (yes t) =
          meets (fault_of_bracket (o (a + m)) (a + m)) (next_on m p (seek_fault o c e (a + m) 0 (ap₂ ◌||◌ q r) (t ∙ ap limit_of (sym q))))
          (λ low high. omega (arith, ap digit q, ap digit r))
      at_closer e p x y z q r (no n) =
          stays (depth_past (o (a + m)) e) (next_on m p (seek_past o c e (a + m) 0 (ap₂ ◌||◌ q r) (λ t. n (t ∙ ap limit_of q))))
          (omega (arith, ap digit q, ap digit r, n, dip_ge u v m)) (omega (arith, ap digit q, ap digit r, peak_ge u v m)) (omega (arith, ap digit q, ap digit r, n, ap (λ (b : Bool). depth_past b e) q))

      go : Walked o c a d m → Place o c (a + m) → Walked o c a d (suc m)
      go (meets f p out) w =
          meets f (ap (seek o c d a) (sym (add-one m)) ∙ seek_at o c d a m 1 p) (λ low high. out (omega (arith, low)) (omega (arith, high)))
      go (stays e p x y z) (none q r) =
          stays e (next_on m p (seek_none o c e (a + m) 0 (ap₂ ◌||◌ q r))) (omega (arith, ap digit q, ap digit r, dip_ge u v m)) (omega (arith, ap digit q, ap digit r, peak_ge u v m))
          (omega (arith, ap digit q, ap digit r))
      go (stays e p x y z) (open_here q r) = at_opener e p x y z q r (ℕ_discrete e 64)
      go (stays e p x y z) (close_here q r) = at_closer e p x y z q r (ℕ_discrete e 0)

-- ---- the walk from the true depth, and the record's faults

module _ (text : List ℕ) where
  -- d is the depth at a
  unfoldable pub Depth : ℕ → ℕ → Type 0
  Depth d a = d + count (closer text) a ≡ count (opener text) a

  apart : Apart (opener text) (closer text)
  unfolding opener closer
  apart = plain_apart (mask_bit text) text

  -- what stands at a place decides the fault there
  fault_next : (a r : ℕ) → closes_none text a ≡ false → opens_over text a ≡ false → fault_from text a (suc r) ≡ fault_from text (suc a) r
  unfolding fault_from
  fault_next a r p q = rw (p, q)

  no_closer : (a : ℕ) → closer text a ≡ false → closes_none text a ≡ false
  unfolding closes_none
  no_closer a p = ap (λ (b : Bool). b && at_depth text 0 a) p

  no_opener : (a : ℕ) → opener text a ≡ false → opens_over text a ≡ false
  unfolding opens_over
  no_opener a p = ap (λ (b : Bool). b && at_depth text 64 a) p

  depth_yes : (d a k : ℕ) → Depth d a → d ≡ k → at_depth text k a ≡ true
  unfolding Depth at_depth
  depth_yes d a k h e = eq-eqb (count (opener text) a) (count (closer text) a + k) (omega (arith, h))

  depth_no : (d a k : ℕ) → Depth d a → (d ≡ k → ⊥) → at_depth text k a ≡ false
  unfolding Depth at_depth
  depth_no d a k h n = ne_eqb (count (opener text) a) (count (closer text) a + k) (λ e. n (omega (arith, h)))

  -- what a walk of m places says of the faults from a on, where r places are left behind it
  pub data Told (d a m r : ℕ) : Type 0 where
    goes_on : (e : ℕ) → seek (opener text) (closer text) d a m ≡ Ok e → Depth e (a + m) → fault_from text a (m + r) ≡ fault_from text (a + m) r → Told d a m r
    stops : (f : Fault) → seek (opener text) (closer text) d a m ≡ Err f → fault_from text a (m + r) ≡ verdict_of f → Told d a m r

  shift : (m d e a r : ℕ) → seek (opener text) (closer text) d a (suc m) ≡ seek (opener text) (closer text) e (suc a) m → fault_from text a (suc (m + r)) ≡ fault_from text (suc a) (m + r)
      → Told e (suc a) m r → Told d a (suc m) r
  shift m d e a r p q (goes_on g x y z) =
      let same : suc a + m ≡ a + suc m = omega arith in
      goes_on g (p ∙ x) (subst (Depth g) same y) (ap (fault_from text a) (suc-add m r) ∙ q ∙ z ∙ ap (λ (i : ℕ). fault_from text i r) same)
  shift m d e a r p q (stops f x z) = stops f (p ∙ x) (ap (fault_from text a) (suc-add m r) ∙ q ∙ z)

  next_depth : (d e a : ℕ) → Depth d a → d + digit (opener text a) ≡ e + digit (closer text a) → Depth e (suc a)
  unfolding Depth count
  next_depth d e a h q = omega (arith, h)

  pub told : (m d a r : ℕ) → Depth d a → Told d a m r
  unfolding seek verdict_of fault_from opens_over closes_none
  told zero d a r h = goes_on d refl (rw add-zero h) (ap₂ (fault_from text) (sym (add-zero a)) (zero-add r))
  told (suc m) d a r h = go (told m) (place o c apart a)
    where
      o : ℕ → Bool
      o = opener text

      c : ℕ → Bool
      c = closer text

      at_opener : o a ≡ true → c a ≡ false → Told (d + 1) (suc a) m r → Dec (d ≡ 64) → Told d a (suc m) r
      at_opener p q rest (yes e) =
          stops (Opener a) (seek_fault o c d a m (ap₂ ◌||◌ p q) (e ∙ ap limit_of (sym p)) ∙ ap (λ (b : Bool). Err (fault_of_bracket b a)) p)
          (ap (fault_from text a) (suc-add m r) ∙ rw (no_closer a q, ap₂ ◌&&◌ p (depth_yes d a 64 h e)))
      at_opener p q rest (no n) =
          shift m d (d + 1) a r (seek_past o c d a m (ap₂ ◌||◌ p q) (λ t. n (t ∙ ap limit_of p)) ∙ ap (λ (b : Bool). seek o c (depth_past b d) (suc a) m) p)
          (fault_next a (m + r) (no_closer a q) (ap₂ ◌&&◌ p (depth_no d a 64 h n))) rest

      at_closer : o a ≡ false → c a ≡ true → ((d ≡ 0 → ⊥) → Told (d - 1) (suc a) m r) → Dec (d ≡ 0) → Told d a (suc m) r
      at_closer p q rest (yes e) =
          stops (Closer a) (seek_fault o c d a m (ap₂ ◌||◌ p q) (e ∙ ap limit_of (sym p)) ∙ ap (λ (b : Bool). Err (fault_of_bracket b a)) p)
          (ap (fault_from text a) (suc-add m r) ∙ rw (ap₂ ◌&&◌ q (depth_yes d a 0 h e)))
      at_closer p q rest (no n) =
          shift m d (d - 1) a r (seek_past o c d a m (ap₂ ◌||◌ p q) (λ t. n (t ∙ ap limit_of p)) ∙ ap (λ (b : Bool). seek o c (depth_past b d) (suc a) m) p)
          (fault_next a (m + r) (ap₂ ◌&&◌ q (depth_no d a 0 h n)) (no_opener a p)) (rest n)

      go : ((e b s : ℕ) → Depth e b → Told e b m s) → Place o c a → Told d a (suc m) r
      go next (none p q) =
          shift m d d a r (seek_none o c d a m (ap₂ ◌||◌ p q)) (fault_next a (m + r) (no_closer a q) (no_opener a p))
          (next d (suc a) r (next_depth d d a h (omega (arith, ap digit p, ap digit q))))
      go next (open_here p q) = at_opener p q (next (d + 1) (suc a) r (next_depth d (d + 1) a h (omega (arith, ap digit p, ap digit q)))) (ℕ_discrete d 64)
      go next (close_here p q) =
          at_closer p q (λ n. next (d - 1) (suc a) r (next_depth d (d - 1) a h (omega (arith, n, ap digit p, ap digit q)))) (ℕ_discrete d 0)
