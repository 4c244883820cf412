-- From the words of the leaves to the rules of the record: quotes, mask, brackets and the state behind a word.
use Rattle.std.proofs.Common.{◌≡◌, ℕ, ◌+◌, ◌-◌, ◌*◌, ◌^◌, ◌≤◌, Bool, true, false, not, ◌&&◌, T, ltb, List, length, sym, refl, ap, ◌∙◌, ap₂, arith, ltb→lt, lt→ltb}
use mathlib.Core.Path.{fun_ext}
use lib.Bits.{bit_and}
use Rattle.rules.specs.Word.{xor, odd, count, word, word_at}
use Rattle.rules.specs.Bytes.{Class, quote, backslash, has}
use Rattle.rules.specs.Bits.{escaped, quote_bit, in_string, plain}
use Rattle.rules.proofs.Booleans.{xor_assoc}
use Rattle.rules.proofs.Counting.{count_cat, odd_cat}
use Rattle.rules.proofs.WordLaws.{and_word, not_word, word_ext}
use Rattle.rules.proofs.RuleLaws.{in_string_add}
use Rattle.blocks.specs.Escape.{esc_from}
use Rattle.blocks.specs.Guessing.{guessed, guess_bit}
use Rattle.blocks.proofs.EscapeLaw.{esc_from_escaped}

-- ---- a guess, carried on

pub guessed_self : (g : Bool) (a : ℕ) (text : List ℕ) → guessed g a text a ≡ g
unfolding guessed count odd
guessed_self g a text = let z : a - a ≡ 0 = omega arith in rw z

-- what is guessed at b goes on as what was guessed before it
pub guessed_on : (g : Bool) (a b : ℕ) (text : List ℕ) (i : ℕ) → a ≤ b → b ≤ i → guessed (guessed g a text b) b text i ≡ guessed g a text i
unfolding guessed
guessed_on g a b text i l m =
    let q : ℕ → Bool = λ j. quote_bit text (a + j) in
    let parts : i - a ≡ (b - a) + (i - b) = omega arith in
    let later : (j : ℕ) → quote_bit text (b + j) ≡ q (b - a + j) = λ j. ap (quote_bit text) (omega arith) in
    ap (λ (p : ℕ → Bool). xor (odd (count p (i - b))) (xor (odd (count q (b - a))) g)) (fun_ext later)
    ∙ sym (xor_assoc (odd (count (λ j. q (b - a + j)) (i - b))) (odd (count q (b - a))) g)
    ∙ ap (λ (x : Bool). xor x g) (sym (ap odd (ap (count q) parts ∙ count_cat q (b - a) (i - b)) ∙ odd_cat (count q (b - a)) (λ j. q (b - a + j)) (i - b)))

-- the truth at a is the truth further on
pub guessed_true : (a : ℕ) (text : List ℕ) (i : ℕ) → a ≤ i → guessed (in_string text a) a text i ≡ in_string text i
unfolding guessed
guessed_true a text i l = sym (in_string_add text a (i - a)) ∙ ap (in_string text) (omega arith)

-- ---- a word

same : (a b : Bool) → (T a → T b) → (T b → T a) → a ≡ b
same true true f g = refl
same true false f g = absurd (f tt)
same false true f g = absurd (g tt)
same false false f g = refl

pub ltb_shift : (b base n : ℕ) → base ≤ n → ltb b (n - base) ≡ ltb (base + b) n
ltb_shift b base n h =
    same (ltb b (n - base)) (ltb (base + b) n) (λ t. lt→ltb (base + b) n (omega (arith, ltb→lt b (n - base) t))) (λ t. lt→ltb b (n - base) (omega (arith, ltb→lt (base + b) n t)))

-- `a & !b`
pub and_not : (p q : ℕ → Bool) {x y : ℕ} → x ≡ word 64 p → y ≡ word 64 q → bit_and x (2 ^ 64 - 1 - y) ≡ word 64 (λ b. p b && not (q b))
and_not p q ex ey =
    ap₂ (λ (x y : ℕ). bit_and x (2 ^ 64 - 1 - y)) ex ey ∙ ap (bit_and (word 64 p)) (not_word 64 q) ∙ and_word 64 p (λ b. not (q b))

module _ (text : List ℕ) (w : ℕ) where
  module _ {carry : Bool} (ec : carry ≡ escaped text (64 * w)) where
    pub quotes_of : {marks esc : ℕ} → marks ≡ word 64 (λ b. has quote text (64 * w + b)) → esc ≡ word 64 (esc_from carry (λ b. has backslash text (64 * w + b)))
        → bit_and marks (2 ^ 64 - 1 - esc) ≡ word_at (quote_bit text) w
    unfolding word_at quote_bit
    quotes_of em ee =
        and_not _ _ em ee ∙ word_ext 64 _ _ (λ b h. ap (λ (x : Bool). has quote text (64 * w + b) && not x) (esc_from_escaped text (64 * w) ec b))

    pub carry_of : esc_from carry (λ b. has backslash text (64 * w + b)) 64 ≡ escaped text (64 * (w + 1))
    carry_of = esc_from_escaped text (64 * w) ec 64 ∙ ap (escaped text) (omega arith)

  module _ (inside : Bool) where
    state : (b : ℕ) → xor (odd (count (λ j. quote_bit text (64 * w + j)) b)) inside ≡ guessed inside (64 * w) text (64 * w + b)
    unfolding guessed
    state b = let e : b ≡ 64 * w + b - 64 * w = omega arith in ap (λ (m : ℕ). xor (odd (count (λ j. quote_bit text (64 * w + j)) m)) inside) e

    pub mask_of : 64 * w ≤ length text
        → word 64 (λ b. ltb b (length text - 64 * w) && xor (odd (count (λ j. quote_bit text (64 * w + j)) b)) inside) ≡ word_at (guess_bit inside (64 * w) text) w
    unfolding word_at guess_bit
    mask_of h = word_ext 64 _ _ (λ b l. ap₂ ◌&&◌ (ltb_shift b (64 * w) (length text) h) (state b))

    pub inside_of_is : xor (odd (count (λ j. quote_bit text (64 * w + j)) 64)) inside ≡ guessed inside (64 * w) text (64 * (w + 1))
    inside_of_is = state 64 ∙ ap (guessed inside (64 * w) text) (omega arith)

  -- the bytes of a class outside strings, by a mask
  pub plain_of : (by : ℕ → Bool) (c : Class) {x y : ℕ} → x ≡ word 64 (λ b. has c text (64 * w + b)) → y ≡ word_at by w → bit_and x (2 ^ 64 - 1 - y) ≡ word_at (plain by c text) w
  unfolding word_at plain
  plain_of by c = and_not _ _
