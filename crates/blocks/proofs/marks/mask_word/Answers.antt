-- `mask_word` meets its contract.
use Rattle.std.proofs.Common.{◌≡◌, ℕ, suc, Bool, ◌&&◌, ap, ◌∙◌, ap₂}
use lib.Bits.{bit_and, bit_xor}
use Rattle.rules.specs.Word.{word, odd, count, xor}
use Rattle.rules.proofs.Booleans.{bool2}
use Rattle.rules.proofs.WordLaws.{and_word, xor_word, word_ext, top_test}
use Rattle.rules.proofs.Counting.{odd_digit}
use Rattle.blocks.proofs.marks.mask_word.Goals as goal

undo : (a b : Bool) → xor (xor a b) a ≡ b
undo = bool2 _ _ tt

-- the parity up to and with i, less bit i, is that of the bits before i
before : (p : ℕ → Bool) (i : ℕ) → xor (odd (count p (suc i))) (p i) ≡ odd (count p i)
unfolding count
before p i = ap (λ (x : Bool). xor x (p i)) (odd_digit (count p i) (p i)) ∙ undo (p i) (odd (count p i))

module _ (p q : ℕ → Bool) (b : Bool) {quotes alive upto all : ℕ} (eq : quotes ≡ word 64 p) (ea : alive ≡ word 64 q)
    (eu : upto ≡ word 64 (λ i. odd (count p (suc i)))) (es : all ≡ word 64 (λ i. b)) where
  mask_is : bit_and alive (bit_xor (bit_xor upto quotes) all) ≡ word 64 (λ i. q i && xor (odd (count p i)) b)
  mask_is =
      ap₂ (λ (x y : ℕ). bit_and x (bit_xor (bit_xor upto quotes) y)) ea es
      ∙ ap₂ (λ (x y : ℕ). bit_and (word 64 q) (bit_xor (bit_xor x y) (word 64 (λ i. b)))) eu eq
      ∙ simp (xor_word, and_word)
      (word_ext 64 (λ i. q i && xor (xor (odd (count p (suc i))) (p i)) b) (λ i. q i && xor (odd (count p i)) b) (λ i h. ap (λ (x : Bool). q i && xor x b) (before p i)))

  inside_is : bit_xor upto all ≡ word 64 (λ i. xor (odd (count p (suc i))) b)
  inside_is = ap₂ bit_xor eu es ∙ xor_word 64 (λ i. odd (count p (suc i))) (λ i. b)

pub returns : goal.returns
returns c p q eq ea = let b = c.args.inside in
    let eu = c.parities-upto.ensures p eq in
    let es = c.alike-all.ensures in
    (mask_is p q b eq ea eu es, top_test 63 (λ i. xor (odd (count p (suc i))) b) (inside_is p q b eq ea eu es))
