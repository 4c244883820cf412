-- The parity of the bits at and below each place, by doubling windows.
use Rattle.std.proofs.Common.{◌≡◌, ℕ, zero, suc, ◌+◌, ◌*◌, ◌%◌, ◌^◌, ◌<◌, Bool, false, sym, refl, ap, ◌∙◌, le_of_suc-le-suc, not-suc-le-zero, suc-add, zero-add}
use lib.Bits.{bit_xor}
use Rattle.rules.specs.Word.{word, odd, count, xor}
use Rattle.rules.proofs.Booleans.{xor_assoc, bool1}
use Rattle.rules.proofs.WordLaws.{delay, shift, xor_word, shl_word, word_ext}
use Rattle.rules.proofs.Counting.{odd_digit}

-- the parity of the last k bits of p up to and with place i
abbrev win : ℕ → (ℕ → Bool) → ℕ → Bool
win zero p i = false
win (suc k) p i = xor (p i) (delay (win k p) i)

delay_same : (p q : ℕ → Bool) → ((i : ℕ) → p i ≡ q i) → (i : ℕ) → delay p i ≡ delay q i
delay_same p q h zero = refl
delay_same p q h (suc i) = h i

delay_xor : (p q : ℕ → Bool) (i : ℕ) → delay (λ j. xor (p j) (q j)) i ≡ xor (delay p i) (delay q i)
delay_xor p q zero = refl
delay_xor p q (suc i) = refl

-- a window of k + m: one of k, and one of m that ends k places earlier
win_add : (k m : ℕ) (p : ℕ → Bool) (i : ℕ) → win (k + m) p i ≡ xor (win k p i) (shift k (win m p) i)
win_add zero m p i = ap (λ (n : ℕ). win n p i) (zero-add m)
win_add (suc k) m p i =
    ap (λ (n : ℕ). win n p i) (suc-add k m)
    ∙ ap (xor (p i)) (delay_same (win (k + m) p) (λ j. xor (win k p j) (shift k (win m p) j)) (win_add k m p) i ∙ delay_xor (win k p) (shift k (win m p)) i)
    ∙ sym (xor_assoc (p i) (delay (win k p) i) (delay (shift k (win m p)) i))

-- `x ^ (x << k)` doubles the window
double : (n k : ℕ) (p : ℕ → Bool) {x : ℕ} → x ≡ word n (win k p) → bit_xor x ((x * 2 ^ k) % 2 ^ n) ≡ word n (win (k + k) p)
double n k p {x} e =
    ap (λ (y : ℕ). bit_xor y ((y * 2 ^ k) % 2 ^ n)) e
    ∙ ap (bit_xor (word n (win k p))) (shl_word n k (win k p))
    ∙ xor_word n (win k p) (shift k (win k p))
    ∙ word_ext n (λ i. xor (win k p i) (shift k (win k p) i)) (win (k + k) p) (λ i h. sym (win_add k k p i))

xor_none : (b : Bool) → xor b false ≡ b
xor_none = bool1 _ _ tt

start : (p : ℕ → Bool) (i : ℕ) → p i ≡ win 1 p i
start p zero = sym (xor_none (p 0))
start p (suc i) = sym (xor_none (p (suc i)))

-- a window that reaches below place 0 is the whole prefix
win_all : (k : ℕ) (p : ℕ → Bool) (i : ℕ) → i < k → win k p i ≡ odd (count p (suc i))
unfolding count odd
win_all zero p i h = absurd (not-suc-le-zero h)
win_all (suc k) p zero h = sym (odd_digit 0 (p 0))
win_all (suc k) p (suc i) h = ap (xor (p (suc i))) (win_all k p i (le_of_suc-le-suc h)) ∙ sym (odd_digit (count p (suc i)) (p (suc i)))

unfoldable pub step : ℕ → ℕ → ℕ
step k x = bit_xor x ((x * 2 ^ k) % 2 ^ 64)

pub cascade : (x : ℕ) (p : ℕ → Bool) → x ≡ word 64 p → step 32 (step 16 (step 8 (step 4 (step 2 (step 1 x))))) ≡ word 64 (λ i. odd (count p (suc i)))
unfolding step
cascade x p e =
    let s₁ = double 64 1 p (e ∙ word_ext 64 p (win 1 p) (λ i h. start p i)) in
    let s₆ = double 64 32 p (double 64 16 p (double 64 8 p (double 64 4 p (double 64 2 p s₁)))) in
    s₆ ∙ word_ext 64 (win 64 p) (λ i. odd (count p (suc i))) (win_all 64 p)
