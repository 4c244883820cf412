-- A byte machine for paths, which the proofs read with: it reads exactly the paths of the grammar, and stops at the place of 20. Every mode can be
-- completed to a path, and every move back keeps the grammar.
use Prim.Native.Nat.{ℕ, suc, ◌+◌, ◌-◌, ◌*◌}
use mathlib.Core.Path.{◌≡◌, refl, ap, ◌∙◌}
use mathlib.Core.Bool.{Bool, true, false, ◌||◌}
use mathlib.Core.List.{List, [], ◌∷◌, ◌++◌, append-nil, append_assoc}
use native.Mathlib.Nat.{add-zero, add-suc, suc-add}
use native.Mathlib.Omega.{arith}
use lib.Dec.{eqb}
use lib.ListN.{length}
use borrow.Author.Tests.{eqb-true, ne_eqb}
use Rattle.rules.specs.Word.{pick}
use Rattle.paths.specs.Grammar.{Selector, name, number, In, Letter, Rest, Name, More, Numeral, Steps, Path}
use Rattle.paths.specs.Path.{in_range, is_digit, is_head, is_tail, Reading, good, bad, before}
use Rattle.paths.proofs.PathLaws.{range_in, range_above, range_of}

-- what has been read: nothing; a whole step; `.`; `[`; `[0`; a name so far; `[` and a number so far
pub data Mode : Type 0 where
  start after dotted opened nought : Mode
  naming : List ℕ → Mode
  counting : ℕ → Mode

-- a byte that cannot stand here, or the next mode, perhaps with a selector that is now whole
pub data Move : Type 0 where
  stop : Move
  to : Mode → Move
  emit : Selector → Mode → Move

abbrev separator : ℕ → (Mode → Move) → Move
separator b f = pick (eqb b 46) (f dotted) (pick (eqb b 91) (f opened) stop)

abbrev pub move : Mode → ℕ → Move
move start b = pick (eqb b 36) (to after) stop
move after b = separator b to
move dotted b = pick (is_head b) (to (naming (b ∷ []))) stop
move opened b = pick (eqb b 48) (to nought) (pick (is_digit b) (to (counting (b - 48))) stop)
move nought b = pick (eqb b 93) (emit (number 0) after) stop
move (naming n) b = pick (is_tail b) (to (naming (n ++ (b ∷ [])))) (separator b (emit (name n)))
move (counting v) b = pick (is_digit b) (to (counting (v * 10 + (b - 48)))) (pick (eqb b 93) (emit (number v) after) stop)

abbrev pub ended : Mode → ℕ → Reading
ended start i = bad i
ended after i = good []
ended dotted i = bad i
ended opened i = bad i
ended nought i = bad i
ended (naming n) i = good (name n ∷ [])
ended (counting v) i = bad i

abbrev pub follow : Move → ℕ → (Mode → Reading) → Reading
follow stop i f = bad i
follow (to m) i f = f m
follow (emit s m) i f = before s (f m)

abbrev pub read : Mode → ℕ → List ℕ → Reading
read m i [] = ended m i
read m i (b ∷ bs) = follow (move m b) i (λ m'. read m' (suc i) bs)

-- ---- classes

digit_yes : {b : ℕ} → In 48 57 b → is_digit b ≡ true
unfolding is_digit
digit_yes {b} h = range_in 48 57 b h.low h.high

letter_yes : {b : ℕ} → Letter b → is_head b ≡ true
unfolding is_head
letter_yes (Letter.upper {b} h) = rw (range_in 65 90 b h.low h.high)
letter_yes (Letter.lower {b} h) = rw (range_above 65 90 b (omega arith) (omega arith), range_in 97 122 b h.low h.high)
letter_yes Letter.underscore = refl

or_right : (a : Bool) → (a || true) ≡ true
or_right true = refl
or_right false = refl

tail_letter : {b : ℕ} → Letter b → is_tail b ≡ true
unfolding is_tail
tail_letter l = rw (letter_yes l)

tail_digit : {b : ℕ} → In 48 57 b → is_tail b ≡ true
unfolding is_tail
tail_digit {b} h = rw (digit_yes h) (or_right (is_head b))

pub digit_of : (b : ℕ) → is_digit b ≡ true → In 48 57 b
unfolding is_digit
digit_of b e = let h = range_of 48 57 b e in record { low = h.0; high = h.1 }

-- by either side of a test
either : {A : Type 0} (a b : Bool) → (a || b) ≡ true → (a ≡ true → A) → (b ≡ true → A) → A
either true b e f g = f refl
either false b e f g = g e

pub letter_of : (b : ℕ) → is_head b ≡ true → Letter b
unfolding is_head
letter_of b e =
    either (in_range 65 90 b) (in_range 97 122 b || eqb b 95) e (λ h. let r = range_of 65 90 b h in Letter.upper (record { low = r.0; high = r.1 }))
    (λ k. either (in_range 97 122 b) (eqb b 95) k (λ h. let r = range_of 97 122 b h in Letter.lower (record { low = r.0; high = r.1 })) (λ h. rw (eqb-true b 95 h) Letter.underscore))

pub tail_of : (b : ℕ) → is_tail b ≡ true → Rest (b ∷ [])
unfolding is_tail
tail_of b e = either (is_head b) (is_digit b) e (λ h. Rest.letter (letter_of b h) Rest.none) (λ h. Rest.digit (digit_of b h) Rest.none)

-- ---- a path of the grammar is read

rest_read : {bs : List ℕ} (n : List ℕ) (i : ℕ) (cs : List ℕ) → Rest bs → read (naming n) i (bs ++ cs) ≡ read (naming (n ++ bs)) (i + length bs) cs
rest_read n i cs Rest.none = rw (append-nil, add-zero)
rest_read n i cs (Rest.letter {b} {bs} l r) =
    rw (tail_letter l) (rest_read (n ++ (b ∷ [])) (suc i) cs r ∙ rw (append_assoc n (b ∷ []) bs, add-suc, ← suc-add i (length bs)))
rest_read n i cs (Rest.digit {b} {bs} h r) =
    rw (tail_digit h) (rest_read (n ++ (b ∷ [])) (suc i) cs r ∙ rw (append_assoc n (b ∷ []) bs, add-suc, ← suc-add i (length bs)))

more_read : {v m : ℕ} {bs : List ℕ} (i : ℕ) (cs : List ℕ) → More v bs m → read (counting v) i (bs ++ cs) ≡ read (counting m) (i + length bs) cs
more_read i cs More.none = rw add-zero
more_read i cs (More.digit {n} {b} {m} {bs} h k) = rw (digit_yes h) (more_read (suc i) cs k ∙ rw (add-suc, ← suc-add i (length bs)))

-- from a whole step, and from a name that ends here
steps_read : {bs : List ℕ} {ss : List Selector} (i : ℕ) → Steps bs ss → (read after i bs ≡ good ss) × ((n : List ℕ) → read (naming n) i bs ≡ good (name n ∷ ss))
unfolding is_tail is_head is_digit
steps_read i Steps.none = (refl, λ n. refl)
steps_read i (Steps.dot {bs = cs} {ss} (Name.starts {b} {bs} l r) s) =
    let e : read dotted (suc i) (b ∷ (bs ++ cs)) ≡ good (name (b ∷ bs) ∷ ss) =
    rw (letter_yes l) (rest_read (b ∷ []) (suc (suc i)) cs r ∙ (steps_read (suc (suc i) + length bs) s).1 (b ∷ bs)) in
    (e, λ n. ap (before (name n)) e)
steps_read i (Steps.bracket {bs = cs} {ss} Numeral.zero s) =
    let e : read opened (suc i) (48 ∷ 93 ∷ cs) ≡ good (number 0 ∷ ss) = ap (before (number 0)) (steps_read (suc (suc (suc i))) s).0 in
    (e, λ n. ap (before (name n)) e)
steps_read i (Steps.bracket {bs = cs} {ss} (Numeral.digits {b} {m} {bs} h k) s) =
    let d : In 48 57 b = record { low = omega (arith, h.low); high = h.high } in
    let e : read opened (suc i) (b ∷ (bs ++ (93 ∷ cs))) ≡ good (number m ∷ ss) =
    rw (ne_eqb b 48 (omega arith), digit_yes d) (more_read (suc (suc i)) (93 ∷ cs) k ∙ ap (before (number m)) (steps_read (suc (suc (suc i) + length bs)) s).0) in
    (e, λ n. ap (before (name n)) e)

pub machine_reads : {bs : List ℕ} {ss : List Selector} → Path bs ss → read start 0 bs ≡ good ss
machine_reads (Path.root s) = (steps_read 1 s).0
