-- Laws of the machine's tests, by arithmetic, and of its single moves: where a byte leads, whatever the place.
use mathlib.Core.Path.{◌≡◌, refl, ◌∙◌}
use mathlib.Core.Bool.{true, false}
use mathlib.Core.List.{List, [], ◌∷◌, ◌++◌}
use Prim.Native.Nat.{ℕ, suc, ◌≤◌, ◌<◌}
use native.Mathlib.Omega.{arith}
use borrow.Author.Tests.{ne_eqb, le-leb, lt-leb, lt-ltb}
use lib.Dec.{leb}
use lib.ListN.{length}
use Rattle.texts.specs.Grammar.{In, Digit, Hexdig, Blank, Ws, Short}
use Rattle.texts.specs.Machine.{within, is_ws, is_digit, is_short, Range, hexdig, fits, Bracket, Mode, want, done, key, colon, entered, must, musts, to, into, after, move, Judgement, yes, follow, read_on}
use Rattle.texts.proofs.Tests.{and_false, or_true}

-- ---- tests

module _ (lo hi b : ℕ) where
  pub in_within : In lo hi b → within lo hi b ≡ true
  unfolding within
  in_within h = rw (le-leb lo b h.low, le-leb b hi h.high) refl

  pub above : hi < b → within lo hi b ≡ false
  unfolding within
  above h = rw (lt-leb b hi h) (and_false (leb lo b))

pub blank_is_ws : {b : ℕ} → Blank b → is_ws b ≡ true
unfolding is_ws
blank_is_ws Blank.space = refl
blank_is_ws Blank.tab = refl
blank_is_ws Blank.line_feed = refl
blank_is_ws Blank.carriage_return = refl

pub dark_no_ws : (b : ℕ) → 0x21 ≤ b → is_ws b ≡ false
unfolding is_ws
dark_no_ws b h = rw (ne_eqb b 0x20 (omega arith), ne_eqb b 0x09 (omega arith), ne_eqb b 0x0A (omega arith), ne_eqb b 0x0D (omega arith)) refl

pub digit_is : {b : ℕ} → Digit b → is_digit b ≡ true
unfolding is_digit
digit_is {b} d = in_within 0x30 0x39 b d

pub hexdig_fits : {b x : ℕ} → Hexdig b x → fits hexdig b ≡ true
unfolding fits
hexdig_fits (Hexdig.digit {b} h) = rw (in_within 0x30 0x39 b h) refl
hexdig_fits (Hexdig.upper {b} h) = rw (in_within 0x41 0x46 b h, or_true (within 0x30 0x39 b)) refl
hexdig_fits (Hexdig.lower {b} h) = rw (in_within 0x61 0x66 b h, or_true (within 0x41 0x46 b), or_true (within 0x30 0x39 b)) refl

pub short_is : {b u : ℕ} → Short b u → is_short b ≡ true
unfolding is_short
short_is Short.quotation_mark = refl
short_is Short.reverse_solidus = refl
short_is Short.solidus = refl
short_is Short.backspace = refl
short_is Short.form_feed = refl
short_is Short.line_feed = refl
short_is Short.carriage_return = refl
short_is Short.tab = refl

-- ---- moves, so many brackets being allowed

-- by the byte from the one state to the other, at any place
pub record Leads (limit : ℕ) (m : Mode) (st : List Bracket) (b : ℕ) (m' : Mode) (st' : List Bracket) : Type 0 where
  pub goes : (i : ℕ) (on : Mode → List Bracket → Judgement) → follow limit (move m st b) i on ≡ on m' st'

-- from the state on, at any place, the bytes are read to the end of a text
pub record Accepted (limit : ℕ) (m : Mode) (st : List Bracket) (bs : List ℕ) : Type 0 where
  pub reads : (i : ℕ) → read_on limit m st i bs ≡ yes

-- a state that passes blanks over
pub record Blanks (limit : ℕ) (m : Mode) (st : List Bracket) : Type 0 where
  pub passes : {b : ℕ} → Blank b → Leads limit m st b m st

module _ {limit : ℕ} where
  pub moves : {m m' : Mode} {st st' : List Bracket} {b : ℕ} → move m st b ≡ to m' st' → Leads limit m st b m' st'
  moves e = record { goes = λ i on. rw e refl }

  pub enters : {m m' : Mode} {st st' : List Bracket} {b : ℕ} → move m st b ≡ into m' st' → length st' < limit → Leads limit m st b m' st'
  enters {st'} e h = record { goes = λ i on. rw (e, lt-ltb (length st') limit h) refl }

  pub step : {m m' : Mode} {st st' : List Bracket} {b : ℕ} {bs : List ℕ} → Leads limit m st b m' st' → Accepted limit m' st' bs
      → Accepted limit m st (b ∷ bs)
  unfolding read_on
  step l a = record { reads = λ i. l.goes i _ ∙ a.reads (suc i) }

  pub blanks : {m : Mode} {st : List Bracket} {w bs : List ℕ} → Blanks limit m st → Ws w → Accepted limit m st bs → Accepted limit m st (w ++ bs)
  blanks h Ws.none a = a
  blanks h (Ws.blank b w) a = step (h.passes b) (blanks h w a)

  -- ---- the states that do

  pub want_blanks : (st : List Bracket) → Blanks limit want st
  unfolding move
  want_blanks st = record { passes = λ b. moves (rw (blank_is_ws b) refl) }

  pub done_blanks : (st : List Bracket) → Blanks limit done st
  unfolding move after
  done_blanks [] = record { passes = λ b. moves (rw (blank_is_ws b) refl) }
  done_blanks (f ∷ st) = record { passes = λ b. moves (rw (blank_is_ws b) refl) }

  pub key_blanks : (st : List Bracket) → Blanks limit key st
  unfolding move
  key_blanks st = record { passes = λ b. moves (rw (blank_is_ws b) refl) }

  pub colon_blanks : (st : List Bracket) → Blanks limit colon st
  unfolding move
  colon_blanks st = record { passes = λ b. moves (rw (blank_is_ws b) refl) }

  pub entered_blanks : (f : Bracket) (st : List Bracket) → Blanks limit (entered f) st
  unfolding move
  entered_blanks f st = record { passes = λ b. moves (rw (blank_is_ws b) refl) }

  -- ---- a byte within a token

  pub fitting : {r : Range} {rs : List Range} {m : Mode} {st : List Bracket} {b : ℕ} {bs : List ℕ} → fits r b ≡ true → Accepted limit (musts rs m) st bs
      → Accepted limit (must r rs m) st (b ∷ bs)
  unfolding move
  fitting h a = step (moves (rw h refl)) a
