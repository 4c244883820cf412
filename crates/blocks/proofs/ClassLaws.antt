-- A table of classes is the rules': one test of it, that antt computes over all 256 entries, and what it says of each byte and class.
use Rattle.std.proofs.Common.{◌≡◌, ℕ, zero, suc, ◌+◌, ◌*◌, ◌/◌, ◌%◌, ◌<◌, Bool, true, ◌&&◌, ◌||◌, T, eqb, List, [], ◌∷◌, length, get_or, subst, arith, eqb→eq}
use Rattle.rules.specs.Bytes.{Class, quote, backslash, opens, closes, colon, comma, is}
use Rattle.rules.proofs.Booleans.{beq, beq_eq, and_l, and_r}
use Rattle.blocks.specs.Coding.{entry, code_of, coded, square}

-- entry x of byte b: it is a code, and of the byte's classes and kind
module _ (b x : ℕ) where
  abbrev alike : Class → Bool
  alike c = beq (coded c (code_of x)) (is c b)

  abbrev code : Bool
  code = eqb x (entry (code_of x))

  abbrev kind : Bool
  kind = beq (square (code_of x)) (eqb b 91 || eqb b 93)

  abbrev right : Bool
  right = code && (kind && (alike quote && (alike backslash && (alike opens && (alike closes && (alike colon && alike comma))))))

  is_code : T right → x ≡ entry (code_of x)
  is_code t = eqb→eq x (entry (code_of x)) (and_l code _ t)

  of_kind : T right → square (code_of x) ≡ (eqb b 91 || eqb b 93)
  of_kind t = beq_eq (square (code_of x)) (eqb b 91 || eqb b 93) (and_l kind _ (and_r code _ t))

  each : T (alike quote) → T (alike backslash) → T (alike opens) → T (alike closes) → T (alike colon) → T (alike comma) → (c : Class) → T (alike c)
  each tq tb to tc tn ts quote = tq
  each tq tb to tc tn ts backslash = tb
  each tq tb to tc tn ts opens = to
  each tq tb to tc tn ts closes = tc
  each tq tb to tc tn ts colon = tn
  each tq tb to tc tn ts comma = ts

  of_class : T right → (c : Class) → coded c (code_of x) ≡ is c b
  of_class t c =
      let t1 = and_r kind _ (and_r code _ t) in
      let t2 = and_r (alike quote) _ t1 in
      let t3 = and_r (alike backslash) _ t2 in
      let t4 = and_r (alike opens) _ t3 in
      let t5 = and_r (alike closes) _ t4 in
      beq_eq (coded c (code_of x)) (is c b)
      (each (and_l (alike quote) _ t1) (and_l (alike backslash) _ t2) (and_l (alike opens) _ t3) (and_l (alike closes) _ t4) (and_l (alike colon) _ t5) (and_r (alike colon) _ t5) c)

-- each entry of a row, whose first byte is b
abbrev row_right : ℕ → List ℕ → Bool
row_right b [] = true
row_right b (x ∷ later) = right b x && row_right (suc b) later

-- each row, and that it has 16 entries
abbrev rows_right : ℕ → List (List ℕ) → Bool
rows_right b [] = true
rows_right b (row ∷ later) = (eqb (length row) 16 && row_right b row) && rows_right (16 + b) later

-- the one test
unfoldable pub tested : List (List ℕ) → Bool
tested rows = eqb (length rows) 16 && rows_right 0 rows

-- byte b's entry: row b / 16, column b mod 16
unfoldable pub class_at : List (List ℕ) → ℕ → ℕ
class_at rows b = get_or (get_or rows (b / 16) []) (b % 16) 0

row_at : (b : ℕ) (row : List ℕ) → T (row_right b row) → (j : ℕ) → j < length row → T (right (b + j) (get_or row j 0))
row_at b [] t j l = absurd (omega arith)
row_at b (x ∷ later) t zero l = let same : b ≡ b + 0 = omega arith in subst (λ (i : ℕ). T (right i x)) same (and_l (right b x) _ t)
row_at b (x ∷ later) t (suc j) l =
    let same : suc b + j ≡ b + suc j = omega arith in
    subst (λ (i : ℕ). T (right i (get_or later j 0))) same (row_at (suc b) later (and_r (right b x) _ t) j (omega arith))

rows_at : (b : ℕ) (rows : List (List ℕ)) → T (rows_right b rows) → (i j : ℕ) → i < length rows → j < 16 → T (right (16 * i + j + b) (get_or (get_or rows i []) j 0))
rows_at b [] t i j l m = absurd (omega arith)
rows_at b (row ∷ later) t zero j l m =
    let here = and_l (eqb (length row) 16 && row_right b row) _ t in
    let long = eqb→eq (length row) 16 (and_l (eqb (length row) 16) _ here) in
    let same : b + j ≡ 16 * 0 + j + b = omega arith in
    subst (λ (n : ℕ). T (right n (get_or row j 0))) same (row_at b row (and_r (eqb (length row) 16) _ here) j (omega arith))
rows_at b (row ∷ later) t (suc i) j l m =
    let same : 16 * i + j + (16 + b) ≡ 16 * suc i + j + b = omega arith in
    subst (λ (n : ℕ). T (right n (get_or (get_or later i []) j 0))) same (rows_at (16 + b) later (and_r (eqb (length row) 16 && row_right b row) _ t) i j (omega arith) m)

module _ (rows : List (List ℕ)) (t : T (tested rows)) (b : ℕ) (l : b < 256) where
  right_at : T (right b (class_at rows b))
  unfolding tested class_at
  right_at =
      let long = eqb→eq (length rows) 16 (and_l (eqb (length rows) 16) _ t) in
      let same : 16 * (b / 16) + b % 16 + 0 ≡ b = omega arith in
      subst (λ (n : ℕ). T (right n (class_at rows b))) same (rows_at 0 rows (and_r (eqb (length rows) 16) _ t) (b / 16) (b % 16) (omega arith) (omega arith))

  pub code_right : class_at rows b ≡ entry (code_of (class_at rows b))
  code_right = is_code b (class_at rows b) right_at

  pub kind_right : square (code_of (class_at rows b)) ≡ (eqb b 91 || eqb b 93)
  kind_right = of_kind b (class_at rows b) right_at

  -- in each class exactly as the rules have it
  pub class_right : (c : Class) → coded c (code_of (class_at rows b)) ≡ is c b
  class_right = of_class b (class_at rows b) right_at
