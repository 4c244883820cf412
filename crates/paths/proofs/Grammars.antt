-- What the byte machine reads is a path of the grammar, and where it stops is the place of 20. By a move back for each move.
use Prim.Native.Nat.{ℕ, suc, ◌+◌, ◌-◌, ◌*◌, ◌≤◌, ◌<◌}
use mathlib.Core.Path.{◌≡◌, refl, sym, ◌∙◌}
use mathlib.Core.Bool.{Bool, true, false}
use mathlib.Core.List.{List, [], ◌∷◌, ◌++◌, append_assoc}
use native.Mathlib.Nat.{add-zero, le_of_suc-le-suc, not-suc-le-zero}
use native.Mathlib.Omega.{arith}
use lib.Dec.{eqb}
use lib.ListN.{length, take}
use borrow.Author.Tests.{eqb-true, eqb-false}
use Rattle.rules.proofs.Booleans.{impossible}
use Rattle.paths.specs.Grammar.{Selector, name, number, In, Letter, Rest, Name, More, Numeral, Steps, Path, RefusedAt}
use Rattle.paths.specs.Path.{is_digit, is_head, is_tail, Reading, good, bad, before}
use Rattle.paths.proofs.Machine.{Mode, start, after, dotted, opened, nought, naming, counting, Move, stop, to, emit, move, ended, follow, read, digit_of, letter_of, tail_of, machine_reads}

-- digits of a number without a leading zero, so far
data Sofar : List ℕ → ℕ → Type 0 where
  sofar : {b v : ℕ} {bs : List ℕ} → In 49 57 b → More (b - 48) bs v → Sofar (b ∷ bs) v

-- what a mode still wants
abbrev Lang : Mode → List ℕ → List Selector → Type 0
Lang start bs ss = Path bs ss
Lang after bs ss = Steps bs ss
Lang dotted bs ss = Steps (46 ∷ bs) ss
Lang opened bs ss = Steps (91 ∷ bs) ss
Lang nought bs ss = Steps (91 ∷ 48 ∷ bs) ss
Lang (naming n) bs ss = Name n → Steps (46 ∷ (n ++ bs)) ss
Lang (counting v) bs ss = (ds : List ℕ) → Sofar ds v → Steps (91 ∷ (ds ++ bs)) ss

close_count : (v : ℕ) (xs : List ℕ) (ss : List Selector) → Steps xs ss → (ds : List ℕ) → Sofar ds v → Steps (91 ∷ (ds ++ (93 ∷ xs))) (number v ∷ ss)
close_count v xs ss s ds (sofar h k) = Steps.bracket (Numeral.digits h k) s

-- each can be had
finish : (m : Mode) → (bs : List ℕ) × (ss : List Selector) × Lang m bs ss
finish start = (36 ∷ [], [], Path.root Steps.none)
finish after = ([], [], Steps.none)
finish dotted = (95 ∷ [], name (95 ∷ []) ∷ [], Steps.dot (Name.starts Letter.underscore Rest.none) Steps.none)
finish opened = (48 ∷ 93 ∷ [], number 0 ∷ [], Steps.bracket Numeral.zero Steps.none)
finish nought = (93 ∷ [], number 0 ∷ [], Steps.bracket Numeral.zero Steps.none)
finish (naming n) = ([], name n ∷ [], λ h. Steps.dot h Steps.none)
finish (counting v) = (93 ∷ [], number v ∷ [], λ ds h. close_count v [] [] Steps.none ds h)

-- ---- the moves, one by one

data View : Mode → ℕ → Move → Type 0 where
  none : {m : Mode} {b : ℕ} → View m b stop
  root : View start 36 (to after)
  dot : View after 46 (to dotted)
  bracket : View after 91 (to opened)
  head : {b : ℕ} → Letter b → View dotted b (to (naming (b ∷ [])))
  zero_first : View opened 48 (to nought)
  digit_first : {b : ℕ} → In 49 57 b → View opened b (to (counting (b - 48)))
  zero_close : View nought 93 (emit (number 0) after)
  tail : {n : List ℕ} {b : ℕ} → Rest (b ∷ []) → View (naming n) b (to (naming (n ++ (b ∷ []))))
  name_dot : {n : List ℕ} → View (naming n) 46 (emit (name n) dotted)
  name_open : {n : List ℕ} → View (naming n) 91 (emit (name n) opened)
  digit_next : {v b : ℕ} → In 48 57 b → View (counting v) b (to (counting (v * 10 + (b - 48))))
  count_close : {v : ℕ} → View (counting v) 93 (emit (number v) after)

leading : (b : ℕ) → is_digit b ≡ true → eqb b 48 ≡ false → In 49 57 b
leading b e f = let h = digit_of b e in let k = eqb-false b 48 f in record { low = omega (arith, h.low); high = h.high }

-- what follows where a test holds, and where it does not
split : {A : Type 0} (c : Bool) → (c ≡ true → A) → (c ≡ false → A) → A
split true f g = f refl
split false f g = g refl

view : (m : Mode) (b : ℕ) → View m b (move m b)
unfolding is_tail is_head is_digit
view start b = split (eqb b 36) (λ e. rw (eqb-true b 36 e) root) (λ e. rw e none)
view after b = split (eqb b 46) (λ e. rw (eqb-true b 46 e) dot) (λ e. split (eqb b 91) (λ f. rw (eqb-true b 91 f) bracket) (λ f. rw (e, f) none))
view dotted b = split (is_head b) (λ e. rw e (head (letter_of b e))) (λ e. rw e none)
view opened b = split (eqb b 48) (λ e. rw (eqb-true b 48 e) zero_first) (λ e. split (is_digit b) (λ f. rw (e, f) (digit_first (leading b f e))) (λ f. rw (e, f) none))
view nought b = split (eqb b 93) (λ e. rw (eqb-true b 93 e) zero_close) (λ e. rw e none)
view (naming n) b =
    split (is_tail b) (λ e. rw e (tail (tail_of b e)))
    (λ e. split (eqb b 46) (λ g. rw (eqb-true b 46 g) name_dot) (λ g. split (eqb b 91) (λ h. rw (eqb-true b 91 h) name_open) (λ h. rw (e, g, h) none)))
view (counting v) b = split (is_digit b) (λ e. rw e (digit_next (digit_of b e))) (λ e. split (eqb b 93) (λ f. rw (eqb-true b 93 f) count_close) (λ f. rw (e, f) none))

-- a move back: what the next mode wants makes what this one wants
abbrev Back : Mode → ℕ → Move → Type 0
Back m b stop = Unit {0}
Back m b (to m') = (xs : List ℕ) (ss : List Selector) → Lang m' xs ss → Lang m (b ∷ xs) ss
Back m b (emit s m') = (xs : List ℕ) (ss : List Selector) → Lang m' xs ss → Lang m (b ∷ xs) (s ∷ ss)

rest_snoc : {bs : List ℕ} (b : ℕ) → Rest bs → Rest (b ∷ []) → Rest (bs ++ (b ∷ []))
rest_snoc b Rest.none h = h
rest_snoc b (Rest.letter l r) h = Rest.letter l (rest_snoc b r h)
rest_snoc b (Rest.digit d r) h = Rest.digit d (rest_snoc b r h)

name_snoc : {n : List ℕ} (b : ℕ) → Name n → Rest (b ∷ []) → Name (n ++ (b ∷ []))
name_snoc b (Name.starts l r) h = Name.starts l (rest_snoc b r h)

more_snoc : {v m : ℕ} {bs : List ℕ} (b : ℕ) → More v bs m → In 48 57 b → More v (bs ++ (b ∷ [])) (m * 10 + (b - 48))
more_snoc b More.none h = More.digit h More.none
more_snoc b (More.digit d k) h = More.digit d (more_snoc b k h)

sofar_snoc : {v : ℕ} {ds : List ℕ} (b : ℕ) → Sofar ds v → In 48 57 b → Sofar (ds ++ (b ∷ [])) (v * 10 + (b - 48))
sofar_snoc b (sofar h k) d = sofar h (more_snoc b k d)

back : {m : Mode} {b : ℕ} {v : Move} → View m b v → Back m b v
back none = tt
back root = λ xs ss l. Path.root l
back dot = λ xs ss l. l
back bracket = λ xs ss l. l
back (head {b} h) = λ xs ss l. l (Name.starts h Rest.none)
back zero_first = λ xs ss l. l
back (digit_first {b} h) = λ xs ss l. l (b ∷ []) (sofar h More.none)
back zero_close = λ xs ss l. Steps.bracket Numeral.zero l
back (tail {n} {b} h) = λ xs ss l k. rw append_assoc at (l (name_snoc b k h))
back name_dot = λ xs ss l k. Steps.dot k l
back name_open = λ xs ss l k. Steps.dot k l
back (digit_next {v} {b} h) = λ xs ss l ds k. rw append_assoc at (l (ds ++ (b ∷ [])) (sofar_snoc b k h))
back (count_close {v}) = λ xs ss l ds k. close_count v xs ss l ds k

-- ---- what is read

-- a selector before what is read
unbefore : (s : Selector) (r : Reading) (ss : List Selector) → before s r ≡ good ss → (ts : List Selector) × (r ≡ good ts) × (ss ≡ s ∷ ts)
unbefore s (good ts) ss e = (ts, refl, cc)
unbefore s (bad p) ss e = impossible (cc)

end_good : (m : Mode) (i : ℕ) (ss : List Selector) → ended m i ≡ good ss → Lang m [] ss
end_good start i ss e = impossible (cc)
end_good after i ss e = let q : ss ≡ [] = cc in rw q Steps.none
end_good dotted i ss e = impossible (cc)
end_good opened i ss e = impossible (cc)
end_good nought i ss e = impossible (cc)
end_good (naming n) i ss e = let q : ss ≡ name n ∷ [] = cc in rw q (λ h. Steps.dot h Steps.none)
end_good (counting v) i ss e = impossible (cc)

read_good : (m : Mode) (i : ℕ) (bs : List ℕ) (ss : List Selector) → read m i bs ≡ good ss → Lang m bs ss
read_good m i [] ss e = end_good m i ss e
read_good m i (b ∷ bs) ss e = go (move m b) (back (view m b)) e (λ m' ts f. read_good m' (suc i) bs ts f)
  where
    go : (v : Move) → Back m b v → follow v i (λ m'. read m' (suc i) bs) ≡ good ss
        → ((m' : Mode) (ts : List Selector) → read m' (suc i) bs ≡ good ts → Lang m' bs ts) → Lang m (b ∷ bs) ss
    go stop k e f = impossible (cc)
    go (to m') k e f = k bs ss (f m' ss e)
    go (emit s m') k e f = let u = unbefore s (read m' (suc i) bs) ss e in rw u.2 (k bs u.0 (f m' u.0 u.1))

pub machine_good : (bs : List ℕ) (ss : List Selector) → read start 0 bs ≡ good ss → Path bs ss
machine_good bs ss e = read_good start 0 bs ss e

-- ---- the place of 20

unbad : (s : Selector) (r : Reading) (p : ℕ) → before s r ≡ bad p → r ≡ bad p
unbad s (good ts) p e = impossible (cc)
unbad s (bad q) p e = e

-- a reading that stops at place i + p
record Stopped (m : Mode) (i : ℕ) (bs : List ℕ) (j : ℕ) : Type 0 where
  p : ℕ
  place : j ≡ i + p
  fits : p ≤ length bs
  rest : List ℕ
  selectors : List Selector
  begins : Lang m (take p bs ++ rest) selectors
  stays : p < length bs → (cs : List ℕ) → read m i (take (suc p) bs ++ cs) ≡ bad j

end_bad : (m : Mode) (i j : ℕ) → ended m i ≡ bad j → j ≡ i
end_bad start i j e = cc
end_bad after i j e = cc
end_bad dotted i j e = cc
end_bad opened i j e = cc
end_bad nought i j e = cc
end_bad (naming n) i j e = cc
end_bad (counting v) i j e = cc

-- one byte earlier
earlier : {m m' : Mode} {i b j : ℕ} {bs : List ℕ} (g : Stopped m' (suc i) bs j) (ss : List Selector) → Lang m (b ∷ (take g.p bs ++ g.rest)) ss
    → ((cs : List ℕ) → read m' (suc i) (take (suc g.p) bs ++ cs) ≡ bad j → read m i (b ∷ (take (suc g.p) bs ++ cs)) ≡ bad j) → Stopped m i (b ∷ bs) j
earlier g ss l k =
    record {
      p = suc g.p;
      place = omega (arith, g.place);
      fits = omega (arith, g.fits);
      rest = g.rest;
      selectors = ss;
      begins = l;
      stays = λ h cs. k cs (g.stays (le_of_suc-le-suc h) cs);
    }

read_bad : (m : Mode) (i : ℕ) (bs : List ℕ) (j : ℕ) → read m i bs ≡ bad j → Stopped m i bs j
read_bad m i [] j e =
    let f = finish m in
    record { p = 0; place = end_bad m i j e ∙ sym (add-zero i); fits = omega arith; rest = f.0; selectors = f.1; begins = f.2; stays = λ h. absurd (not-suc-le-zero h) }
read_bad m i (b ∷ bs) j e = go (move m b) refl (back (view m b)) e (λ m' f. read_bad m' (suc i) bs j f)
  where
    go : (v : Move) → move m b ≡ v → Back m b v → follow v i (λ m'. read m' (suc i) bs) ≡ bad j
        → ((m' : Mode) → read m' (suc i) bs ≡ bad j → Stopped m' (suc i) bs j) → Stopped m i (b ∷ bs) j
    go stop q k e f =
        let g = finish m in
        let h : i ≡ j = cc in
        record { p = 0; place = sym h ∙ sym (add-zero i); fits = omega arith; rest = g.0; selectors = g.1; begins = g.2; stays = λ _ cs. rw (q, h) }
    go (to m') q k e f = let g = f m' e in earlier g g.selectors (k (take g.p bs ++ g.rest) g.selectors g.begins) (λ cs h. rw q h)
    go (emit s m') q k e f =
        let g = f m' (unbad s (read m' (suc i) bs) j e) in
        earlier g (s ∷ g.selectors) (k (take g.p bs ++ g.rest) g.selectors g.begins) (λ cs h. rw (q, h))

pub machine_bad : (bs : List ℕ) (j : ℕ) → read start 0 bs ≡ bad j → RefusedAt bs j
machine_bad bs j e =
    let g = read_bad start 0 bs j e in
    let q : g.p ≡ j = omega (arith, g.place) in
    rw (← q) (record {
      fits = g.fits;
      before = record { rest = g.rest; selectors = g.selectors; whole = g.begins };
      after = λ h k. clash (machine_reads k.whole) (g.stays h k.rest);
      short = λ ss h. clash (machine_reads h) e;
    })
  where
    clash : {x : Reading} {ss : List Selector} {p : ℕ} → x ≡ good ss → x ≡ bad p → ⊥
    clash e f = impossible (cc)
