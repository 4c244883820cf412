-- Four lanes side by side: a byte more, how large they get, and the lanes of eight eights turned into words, by arithmetic alone.
use Rattle.std.proofs.Common.{◌≡◌, ℕ, suc, ◌+◌, ◌*◌, ◌/◌, ◌%◌, ◌^◌, ◌<◌, ◌≤◌, Bool, List, get_or, sym, ap, ◌∙◌, ap₂, lt_of_lt_of_le, mul_assoc, add-mul, zero-add, add-one, arith, pow_mono}
use native.Mathlib.Nat.{add-mul-div_left, div-eq_of_lt}
use Rattle.rules.specs.Word.{digit, word}
use Rattle.rules.proofs.WordLaws.{word_suc, word_lt, word_ext, word_cat}
use Rattle.blocks.specs.Coding.{Code, beside, entry}
use Rattle.blocks.specs.Block.{Codes, lanes_of, evens, halves}

beside_mul : (x y z u p : ℕ) → beside x y z u * p ≡ beside (x * p) (y * p) (z * p) (u * p)
unfolding beside
beside_mul x y z u p =
    add-mul (x + 256 * y + 65536 * z) (16777216 * u) p
    ∙ ap₂ (λ (a b : ℕ). a + b) (add-mul (x + 256 * y) (65536 * z) p ∙ ap₂ (λ (a b : ℕ). a + b) (add-mul x (256 * y) p ∙ ap (λ (a : ℕ). x * p + a) (mul_assoc 256 y p)) (mul_assoc 65536 z p)) (mul_assoc 16777216 u p)

beside_add : (x y z u a b c d : ℕ) → beside (x + a) (y + b) (z + c) (u + d) ≡ beside a b c d + beside x y z u
unfolding beside
beside_add x y z u a b c d = omega arith

lanes_next : (k : ℕ → Code) (m : ℕ) → lanes_of k (suc m) ≡ lanes_of k m + entry (k m) * 2 ^ m
unfolding lanes_of entry
lanes_next k m =
    ap₂ (λ (x y : ℕ). beside x y (word (suc m) (λ j. (k j).c)) (word (suc m) (λ j. (k j).d))) (word_suc m (λ j. (k j).a)) (word_suc m (λ j. (k j).b))
    ∙ ap₂ (λ (x y : ℕ). beside (digit (k m).a * 2 ^ m + word m (λ j. (k j).a)) (digit (k m).b * 2 ^ m + word m (λ j. (k j).b)) x y) (word_suc m (λ j. (k j).c)) (word_suc m (λ j. (k j).d))
    ∙ beside_add _ _ _ _ _ _ _ _
    ∙ ap (λ (x : ℕ). lanes_of k m + x) (sym (beside_mul (digit (k m).a) (digit (k m).b) (digit (k m).c) (digit (k m).d) (2 ^ m)))

small : (m : ℕ) → m ≤ 8 → (p : ℕ → Bool) → word m p < 256
small m h p = lt_of_lt_of_le (word_lt m p) (pow_mono h)

lanes_small : (k : ℕ → Code) (m : ℕ) → m ≤ 8 → lanes_of k m < 2 ^ 32
unfolding lanes_of beside
lanes_small k m h = omega (arith, small m h (λ j. (k j).a), small m h (λ j. (k j).b), small m h (λ j. (k j).c), small m h (λ j. (k j).d))

-- a turn of the sum, which wraps nowhere
pub lanes_sum : (k : ℕ → Code) (m : ℕ) {sum e : ℕ} → m < 8 → sum ≡ lanes_of k m → e ≡ entry (k m) → (sum + (e * 2 ^ m) % 2 ^ 32) % 2 ^ 32 ≡ lanes_of k (m + 1)
lanes_sum k m {sum} {e} h es ee =
    let n : lanes_of k (m + 1) ≡ lanes_of k m + entry (k m) * 2 ^ m = ap (lanes_of k) (add-one m) ∙ lanes_next k m in
    omega (arith, n, lanes_small k (m + 1) (omega arith), ap (λ (x : ℕ). x * 2 ^ m) ee)

-- ---- eight eights, turned into words

eight : (p : ℕ → Bool) → word 8 p < 256
eight p = small 8 (omega arith) p

-- the byte of x above the lower ones, which come to less than n
byte_at : (n x low y : ℕ) {c : ℕ} → low < n → c < 256 → x ≡ low + n * (c + 256 * y) → x / n % 256 ≡ c
byte_at n x low y {c} m l e =
    let above : x / n ≡ c + 256 * y = ap (λ (v : ℕ). v / n) e ∙ add-mul-div_left low (c + 256 * y) (omega arith) ∙ ap (λ (v : ℕ). v + (c + 256 * y)) (div-eq_of_lt m) ∙ zero-add (c + 256 * y) in
    omega (arith, above)

-- the eight bytes of a word, and those at even places
evens_of : (x : ℕ) {a b c d p q r : ℕ} (s : ℕ) → a < 256 → b < 256 → c < 256 → d < 256 → p < 256 → q < 256 → r < 256
    → x ≡ beside a b c d + 4294967296 * beside p q r s → evens x ≡ a + 65536 * c + 4294967296 * (p + 65536 * r)
unfolding evens beside
evens_of x {a} {b} {c} {d} {p} {q} {r} s ha hb hc hd hp hq hr e =
    let e0 : x % 256 ≡ a = omega (arith, e) in
    let e2 = byte_at 65536 x (a + 256 * b) (d + 256 * (p + 256 * (q + 256 * (r + 256 * s)))) (omega arith) hc (omega (arith, e)) in
    let e4 = byte_at 4294967296 x (a + 256 * (b + 256 * (c + 256 * d))) (q + 256 * (r + 256 * s)) (omega arith) hp (omega (arith, e)) in
    let e6 = byte_at 281474976710656 x (a + 256 * (b + 256 * (c + 256 * (d + 256 * (p + 256 * q))))) s (omega arith) hr (omega (arith, e)) in
    rw (e0, e2, e4, e6) (sum a c p r)
  where
    sum : (a c p r : ℕ) → a + 65536 * c + 4294967296 * p + 281474976710656 * r ≡ a + 65536 * c + 4294967296 * (p + 65536 * r)
    sum a c p r = omega arith

-- two words of 16 bits in each half: the lower ones, and the upper ones
halves_of : {p q r s x : ℕ} → p < 65536 → q < 65536 → r < 65536 → s < 65536 → x ≡ p + 65536 * q + 4294967296 * (r + 65536 * s)
    → (halves x ≡ p + 4294967296 * r) × (halves (x / 65536) ≡ q + 4294967296 * s)
unfolding halves
halves_of hp hq hr hs e = (omega arith, omega arith)

-- a bit of 16 codes
abbrev sixteen : (Code → Bool) → (ℕ → Code) → (ℕ → Code) → ℕ
sixteen bit k l = word 8 (λ j. bit (k j)) + 256 * word 8 (λ j. bit (l j))

sixteen_small : (bit : Code → Bool) (k l : ℕ → Code) → sixteen bit k l < 65536
sixteen_small bit k l = omega (arith, eight (λ j. bit (k j)), eight (λ j. bit (l j)))

-- bits f and g of 16 codes k and l, and of 16 more
abbrev Woven : (f g : Code → Bool) (k l k' l' : ℕ → Code) → ℕ → Type 0
Woven f g k l k' l' x = x ≡ sixteen f k l + 65536 * sixteen g k l + 4294967296 * (sixteen f k' l' + 65536 * sixteen g k' l')

woven_halves : (f g : Code → Bool) (k l k' l' : ℕ → Code) {x : ℕ} → Woven f g k l k' l' x
    → (halves x ≡ sixteen f k l + 4294967296 * sixteen f k' l') × (halves (x / 65536) ≡ sixteen g k l + 4294967296 * sixteen g k' l')
woven_halves f g k l k' l' e = halves_of (sixteen_small f k l) (sixteen_small g k l) (sixteen_small f k' l') (sixteen_small g k' l') e

-- two eights far apart: their lanes a and c, and b and d
module _ (k k' : ℕ → Code) {x : ℕ} (e : x ≡ lanes_of k 8 + 4294967296 * lanes_of k' 8) where
  evens_ac : evens x ≡ word 8 (λ j. (k j).a) + 65536 * word 8 (λ j. (k j).c) + 4294967296 * (word 8 (λ j. (k' j).a) + 65536 * word 8 (λ j. (k' j).c))
  unfolding lanes_of
  evens_ac = evens_of x _ (eight _) (eight _) (eight _) (eight _) (eight _) (eight _) (eight _) e

  evens_bd : evens (x / 256) ≡ word 8 (λ j. (k j).b) + 65536 * word 8 (λ j. (k j).d) + 4294967296 * (word 8 (λ j. (k' j).b) + 65536 * word 8 (λ j. (k' j).d))
  unfolding lanes_of beside
  evens_bd =
      evens_of (x / 256) 0 (eight (λ j. (k j).b)) (eight (λ j. (k j).c)) (eight (λ j. (k j).d)) (eight (λ j. (k' j).a)) (eight (λ j. (k' j).b)) (eight (λ j. (k' j).c)) (eight (λ j. (k' j).d))
      (omega (arith, e, eight (λ j. (k j).a)))

module _ (k k' l l' : ℕ → Code) {x y : ℕ} (ex : x ≡ lanes_of k 8 + 4294967296 * lanes_of k' 8) (ey : y ≡ lanes_of l 8 + 4294967296 * lanes_of l' 8) where
  pub woven_ac : Woven (λ q. q.a) (λ q. q.c) k l k' l' (evens x + 256 * evens y)
  woven_ac = omega (arith, evens_ac k k' ex, evens_ac l l' ey)

  pub woven_bd : Woven (λ q. q.b) (λ q. q.d) k l k' l' (evens (x / 256) + 256 * evens (y / 256))
  woven_bd = omega (arith, evens_bd k k' ex, evens_bd l l' ey)

-- a word is its eights
cat_eight : (n from : ℕ) (p : ℕ → Bool) → word (8 + n) (λ j. p (from + j)) ≡ word 8 (λ j. p (from + j)) + 256 * word n (λ j. p (8 + from + j))
cat_eight n from p =
    word_cat 8 n (λ j. p (from + j))
    ∙ ap (λ (x : ℕ). word 8 (λ j. p (from + j)) + 256 * x) (word_ext n (λ j. p (from + (8 + j))) (λ j. p (8 + from + j)) (λ j l. ap p (omega arith)))

eights : (p : ℕ → Bool) → word 64 p ≡ word 8 (λ j. p (0 + j)) + 256 * word 8 (λ j. p (8 + j)) + 65536 * word 8 (λ j. p (16 + j)) + 16777216 * word 8 (λ j. p (24 + j))
    + 4294967296 * (word 8 (λ j. p (32 + j)) + 256 * word 8 (λ j. p (40 + j)) + 65536 * word 8 (λ j. p (48 + j)) + 16777216 * word 8 (λ j. p (56 + j)))
eights p =
    omega (arith, word_ext 64 p (λ j. p (0 + j)) (λ j l. ap p (omega arith)), cat_eight 56 0 p, cat_eight 48 8 p, cat_eight 40 16 p, cat_eight 32 24 p, cat_eight 24 32 p, cat_eight 16 40 p, cat_eight 8 48 p)

-- the codes from k i on
abbrev pub from : (ℕ → Code) → ℕ → ℕ → Code
from k i j = k (i + j)

pub codes_from : (t text : List ℕ) (at : ℕ) (k : ℕ → Code) → Codes t text at 64 k → (i at' : ℕ) → i + 8 ≤ 64 → at' ≡ at + i → Codes t text at' 8 (from k i)
codes_from t text at k e i at' l same j m = ap (λ (x : ℕ). get_or t (get_or text x 0) 0) (omega arith) ∙ e (i + j) (omega arith)

-- the eights woven, two and two, of bits f and g: the word of each
module _ (k : ℕ → Code) (f g : Code → Bool) {v w : ℕ}
    (ev : Woven f g (from k 0) (from k 8) (from k 32) (from k 40) v) (ew : Woven f g (from k 16) (from k 24) (from k 48) (from k 56) w) where
  pub word_low : halves v + 65536 * halves w ≡ word 64 (λ j. f (k j))
  word_low = omega (arith, (woven_halves f g (from k 0) (from k 8) (from k 32) (from k 40) ev).0, (woven_halves f g (from k 16) (from k 24) (from k 48) (from k 56) ew).0, eights (λ j. f (k j)))

  pub word_high : halves (v / 65536) + 65536 * halves (w / 65536) ≡ word 64 (λ j. g (k j))
  word_high = omega (arith, (woven_halves f g (from k 0) (from k 8) (from k 32) (from k 40) ev).1, (woven_halves f g (from k 16) (from k 24) (from k 48) (from k 56) ew).1, eights (λ j. g (k j)))
