-- A name that RFC 8259 derives, compared with a path's: by its characters, and 30 exactly where a surrogate is left unpaired. By the characters of the
-- name, two at a time where the first is a high surrogate.
use Rattle.std.proofs.Common.{Ok}
use mathlib.Core.Path.{◌≡◌, refl, sym, ap, ◌∙◌, subst}
use mathlib.Core.Bool.{Bool, true, false, true≢false, not-eq-not}
use mathlib.Core.Logic.{◌≢◌, ◌↔◌}
use mathlib.Core.List.{List, [], ◌∷◌, ◌++◌}
use Prim.Native.Nat.{ℕ, ◌≤◌, ◌<◌}
use native.Mathlib.Omega.{arith}
use borrow.Author.Tests.{ne_eqb}
use Rattle.paths.specs.Grammar.{Letter, Rest, Name}
use Rattle.paths.proofs.PathLaws.{range_of}
use Rattle.texts.proofs.Tests.{and_false}
use Rattle.texts.specs.Grammar.{Utf8Char, Unescaped, Short, Char, Chars}
use Rattle.texts.specs.Nodes.{is_high, is_low, paired, characters}
use Rattle.names.specs.Spelling.{unit_of, Spelling, spelled, wrong, with_one, spelling, same, compared, matched, Match}
use Rattle.names.specs.Spells.{Unit4}
use Rattle.names.specs.Spells as Spells
use Rattle.names.proofs.Comparing.{same_exactly}
use Rattle.names.proofs.SpellingLaws.{spelling_none}
use Rattle.names.proofs.Spelled.{plain_one, short_one, unit_value, unit_one, unit_low, unit_half, unit_pair}
use Rattle.jsonpath.specs.Select.{NoneUnpaired, ByCharacters}

-- ---- bytes and characters without an escape

abbrev pub Ascii : List ℕ → Type 0
Ascii [] = Unit {0}
Ascii (b ∷ bs) = (b < 0x80) × Ascii bs

abbrev Beyond : List ℕ → Type 0
Beyond [] = Unit {0}
Beyond (b ∷ bs) = (0x80 ≤ b) × Beyond bs

-- a character of one byte is that byte; of several, neither it nor one of its bytes is in an ASCII name. None is a surrogate
data Written : List ℕ → ℕ → Type 0 where
  narrow : {a : ℕ} → a < 0x80 → Written (a ∷ []) a
  wide : {a u : ℕ} {bs : List ℕ} → Beyond (a ∷ bs) → 0x80 ≤ u → (0xD800 ≤ u → u ≤ 0xDFFF → ⊥) → Written (a ∷ bs) u

single : {a : ℕ} → Utf8Char (a ∷ []) a → a < 0x80 → Written (a ∷ []) a
single c l = narrow l

several : {a u : ℕ} {bs : List ℕ} → Utf8Char (a ∷ bs) u → Beyond (a ∷ bs) → 0x80 ≤ u → (0xD800 ≤ u → u ≤ 0xDFFF → ⊥) → Written (a ∷ bs) u
several c l k s = wide l k s

utf8_written : {bs : List ℕ} {u : ℕ} → Utf8Char bs u → Written bs u
utf8_written (Utf8Char.utf8_1 i) = single (Utf8Char.utf8_1 i) (omega arith)
utf8_written (Utf8Char.utf8_2 i j) = several (Utf8Char.utf8_2 i j) (omega arith) (omega arith) (omega arith)
utf8_written (Utf8Char.utf8_3a i j) = several (Utf8Char.utf8_3a i j) (omega arith) (omega arith) (omega arith)
utf8_written (Utf8Char.utf8_3b i j k) = several (Utf8Char.utf8_3b i j k) (omega arith) (omega arith) (omega arith)
utf8_written (Utf8Char.utf8_3c i j) = several (Utf8Char.utf8_3c i j) (omega arith) (omega arith) (omega arith)
utf8_written (Utf8Char.utf8_3d i j k) = several (Utf8Char.utf8_3d i j k) (omega arith) (omega arith) (omega arith)
utf8_written (Utf8Char.utf8_4a i j k) = several (Utf8Char.utf8_4a i j k) (omega arith) (omega arith) (omega arith)
utf8_written (Utf8Char.utf8_4b i j k l) = several (Utf8Char.utf8_4b i j k l) (omega arith) (omega arith) (omega arith)
utf8_written (Utf8Char.utf8_4c i j k) = several (Utf8Char.utf8_4c i j k) (omega arith) (omega arith) (omega arith)

-- ---- surrogates

record Scalar (u : ℕ) : Type 0 where
  high : is_high u ≡ false
  low : is_low u ≡ false

scalar : (u : ℕ) → (0xD800 ≤ u → u ≤ 0xDFFF → ⊥) → Scalar u
scalar u h = record {
  high = (not-eq-not {a = is_high u} {b = false}).0 (λ e. let r = range_of 0xD800 0xDBFF u e in h r.0 (omega arith));
  low = (not-eq-not {a = is_low u} {b = false}).0 (λ e. let r = range_of 0xDC00 0xDFFF u e in h (omega arith) r.1);
}

written_scalar : {b : List ℕ} {u : ℕ} → Written b u → Scalar u
written_scalar {u} (narrow l) = scalar u (λ h k. omega arith)
written_scalar {u} (wide l k s) = scalar u s

-- what a short escape means is ASCII, and its letter is no `u`
short_letter : {a u : ℕ} → Short a u → (u < 0x80) × (a ≢ 0x75)
short_letter Short.quotation_mark = omega arith
short_letter Short.reverse_solidus = omega arith
short_letter Short.solidus = omega arith
short_letter Short.backspace = omega arith
short_letter Short.form_feed = omega arith
short_letter Short.line_feed = omega arith
short_letter Short.carriage_return = omega arith
short_letter Short.tab = omega arith

short_scalar : {a u : ℕ} → Short a u → Scalar u
short_scalar {u} s = let l = (short_letter s).0 in scalar u (λ h k. omega arith)

paired_scalar : (u v : ℕ) → Scalar (paired u v)
paired_scalar u v = scalar (paired u v) (λ h k. omega arith)

-- one that is not high is joined with nothing
characters_one : (u : ℕ) (us : List ℕ) → is_high u ≡ false → characters (u ∷ us) ≡ u ∷ characters us
unfolding characters
characters_one u [] h = refl
characters_one u (v ∷ us) h = rw h

characters_pair : (u v : ℕ) (us : List ℕ) → is_high u ≡ true → is_low v ≡ true → characters (u ∷ v ∷ us) ≡ paired u v ∷ characters us
unfolding characters
characters_pair u v us h l = rw (h, l)

characters_half : (u v : ℕ) (us : List ℕ) → is_low v ≡ false → characters (u ∷ v ∷ us) ≡ u ∷ characters (v ∷ us)
unfolding characters
characters_half u v us l = rw (l, and_false (is_high u))

-- ---- what a reading gives, beside the characters

data Reads : Spelling → List ℕ → Type 0 where
  right : {xs us : List ℕ} → ((n : List ℕ) → Ascii n → same xs n ≡ same us n) → NoneUnpaired us → Reads (spelled xs) us
  half : {us : List ℕ} → (NoneUnpaired us → ⊥) → Reads wrong us

-- one character more, written by itself
reads_more : {u : ℕ} {x : Spelling} {us : List ℕ} → Scalar u → Reads x us → Reads (with_one u x) (u ∷ us)
unfolding same
reads_more {u} s (right {xs} {us} f h) = right {us = u ∷ us} more (rw (s.high, s.low), h)
  where
    more : (n : List ℕ) → Ascii n → same (u ∷ xs) n ≡ same (u ∷ us) n
    more [] a = refl
    more (y ∷ ys) a = rw (f ys a.1)
reads_more {u} s (half {us} h) = half {us = u ∷ us} (λ g. h g.1)

-- written by bytes that no ASCII name has: where the first of them differs, what follows says nothing but that it is read
data Ends : Spelling → List ℕ → Type 0 where
  ends_right : {xs us : List ℕ} → NoneUnpaired us → Ends (spelled xs) us
  ends_half : {us : List ℕ} → (NoneUnpaired us → ⊥) → Ends wrong us

ends : {x : Spelling} {us : List ℕ} → Reads x us → Ends x us
ends (right f h) = ends_right h
ends (half h) = ends_half h

ends_byte : {x : Spelling} {us : List ℕ} (b : ℕ) → Ends x us → Ends (with_one b x) us
ends_byte b (ends_right h) = ends_right h
ends_byte b (ends_half h) = ends_half h

ends_bytes : (bs rest : List ℕ) {us : List ℕ} → Beyond bs → Ends (spelling rest) us → Ends (spelling (bs ++ rest)) us
ends_bytes [] rest h e = e
ends_bytes (b ∷ bs) rest h e = rw (plain_one b (bs ++ rest) (λ q. omega (arith, h.0))) (ends_byte b (ends_bytes bs rest h.1 e))

beyond_more : {u : ℕ} {x : Spelling} {us : List ℕ} (a : ℕ) → Scalar u → 0x80 ≤ u → 0x80 ≤ a → Ends x us → Reads (with_one a x) (u ∷ us)
unfolding same
beyond_more {u} a s k l (ends_right {xs} {us} h) = right {us = u ∷ us} more (rw (s.high, s.low), h)
  where
    more : (n : List ℕ) → Ascii n → same (a ∷ xs) n ≡ same (u ∷ us) n
    more [] g = refl
    more (y ∷ ys) g = rw (ne_eqb a y (omega (arith, g.0)), ne_eqb u y (omega (arith, g.0)))
beyond_more {u} a s k l (ends_half {us} h) = half {us = u ∷ us} (λ g. h g.1)

-- ---- character after character

not_backslash : {u : ℕ} → Unescaped u → u ≢ 0x5C
not_backslash (Unescaped.low i) e = omega arith
not_backslash (Unescaped.middle i) e = omega arith
not_backslash (Unescaped.high i) e = omega arith

module _ (rest us : List ℕ) (ih : Reads (spelling rest) (characters us)) where
  reads_unescaped : {b : List ℕ} {u : ℕ} → Written b u → Unescaped u → Reads (spelling (b ++ rest)) (characters (u ∷ us))
  reads_unescaped (narrow {a} l) n =
      let s = written_scalar (narrow l) in
      rw (plain_one a rest (not_backslash n), characters_one a us s.high) (reads_more s ih)
  reads_unescaped (wide {a} {u} {bs} l k h) n =
      let s = scalar u h in
      rw (plain_one a (bs ++ rest) (λ q. omega (arith, l.0)), characters_one u us s.high) (beyond_more a s k l.0 (ends_bytes bs rest l.1 (ends ih)))

  reads_short : {a u : ℕ} → Short a u → Reads (spelling (0x5C ∷ a ∷ rest)) (characters (u ∷ us))
  reads_short {u} h = let s = short_scalar h in rw (short_one rest h, characters_one u us s.high) (reads_more s ih)

  -- a unit that is no high surrogate
  reads_unit : {bs : List ℕ} {u : ℕ} → Unit4 bs u rest → is_high u ≡ false → Reads (spelling bs) (characters (u ∷ us))
  reads_unit {bs} {u} x h = go (is_low u) refl
    where
      go : (b : Bool) → is_low u ≡ b → Reads (spelling bs) (characters (u ∷ us))
      go true l = rw (unit_low x h l, characters_one u us h) (half {us = u ∷ characters us} (λ g. true≢false (rw (h, l) at g.0)))
      go false l = rw (unit_one x h l, characters_one u us h) (reads_more (record { high = h; low = l }) ih)

  -- a pair
  reads_pair : {bs mid : List ℕ} {u v : ℕ} → Unit4 bs u mid → is_high u ≡ true → Unit4 mid v rest → is_low v ≡ true → Reads (spelling bs) (characters (u ∷ v ∷ us))
  reads_pair {bs} {mid} {u} {v} x h y l = rw (unit_pair x h y l, characters_pair u v us h l) (reads_more (paired_scalar u v) ih)

-- a high surrogate that is left: what follows it is no low one
high_left : (u : ℕ) (us : List ℕ) → is_high u ≡ true → NoneUnpaired (u ∷ us) → ⊥
high_left u us h g = true≢false (rw h at g.0)

reads_high : {bs mid : List ℕ} {u : ℕ} (v : ℕ) (us : List ℕ) → Unit4 bs u mid → is_high u ≡ true → is_low (unit_of mid) ≡ false → is_low v ≡ false → Reads (spelling bs) (characters (u ∷ v ∷ us))
reads_high {u} v us x h l k = rw (unit_half x h l, characters_half u v us k) (half (high_left u (characters (v ∷ us)) h))

unit_none : (b : ℕ) (bs : List ℕ) → b ≢ 0x5C → is_low (unit_of (b ∷ bs)) ≡ false
unfolding unit_of
unit_none b bs h = rw (ne_eqb b 0x5C h)

unit_letter : {a u : ℕ} (bs : List ℕ) → Short a u → is_low (unit_of (0x5C ∷ a ∷ bs)) ≡ false
unfolding unit_of
unit_letter {a} bs s = rw (ne_eqb a 0x75 (short_letter s).1)

first_plain : {b : List ℕ} {u : ℕ} (rest : List ℕ) → Written b u → Unescaped u → is_low (unit_of (b ++ rest)) ≡ false
first_plain rest (narrow {a} l) n = unit_none a rest (not_backslash n)
first_plain rest (wide {a} {u} {bs} l k h) n = unit_none a (bs ++ rest) (λ q. omega (arith, l.0))

-- a unit at the end of the name, and one before another character
reads_last : {bs : List ℕ} {u : ℕ} → Unit4 bs u [] → Reads (spelling []) (characters []) → Reads (spelling bs) (characters (u ∷ []))
unfolding characters unit_of
reads_last {bs} {u} x ih = go (is_high u) refl
  where
    go : (b : Bool) → is_high u ≡ b → Reads (spelling bs) (characters (u ∷ []))
    go false h = reads_unit [] [] ih x h
    go true h = rw (unit_half x h refl) (half (high_left u [] h))

behind_high : {bs b : List ℕ} {u v : ℕ} (rest us : List ℕ) → Char b v → Unit4 bs u (b ++ rest) → is_high u ≡ true → Reads (spelling rest) (characters us)
    → Reads (spelling bs) (characters (u ∷ v ∷ us))
behind_high {v} rest us (Char.unescaped c n) x h ih = let w = utf8_written c in reads_high v us x h (first_plain rest w n) (written_scalar w).low
behind_high {v} rest us (Char.short s) x h ih = reads_high v us x h (unit_letter rest s) (short_scalar s).low
behind_high {bs} {u} {v} rest us (Char.u_xxxx {a} {b} {c} {d} i j k l) x h ih = go (is_low v) refl
  where
    unit : Unit4 (0x5C ∷ 0x75 ∷ a ∷ b ∷ c ∷ d ∷ rest) v rest
    unit = Spells.u_xxxx i j k l

    go : (b : Bool) → is_low v ≡ b → Reads (spelling bs) (characters (u ∷ v ∷ us))
    go true l = reads_pair rest us ih x h unit l
    go false l = reads_high v us x h (ap is_low (unit_value unit).0 ∙ l) l

reads_before : {bs b : List ℕ} {u v : ℕ} (rest us : List ℕ) → Char b v → Unit4 bs u (b ++ rest) → Reads (spelling (b ++ rest)) (characters (v ∷ us))
    → Reads (spelling rest) (characters us) → Reads (spelling bs) (characters (u ∷ v ∷ us))
reads_before {bs} {b} {u} {v} rest us d x here ih = go (is_high u) refl
  where
    go : (h : Bool) → is_high u ≡ h → Reads (spelling bs) (characters (u ∷ v ∷ us))
    go false h = reads_unit (b ++ rest) (v ∷ us) here x h
    go true h = behind_high rest us d x h ih

reads : {raw us : List ℕ} → Chars raw us → Reads (spelling raw) (characters us)
unfolding characters same
reads Chars.none = rw spelling_none (right (λ n a. refl) tt)
reads (Chars.char {bs} {us} (Char.unescaped c n) cs) = reads_unescaped bs us (reads cs) (utf8_written c) n
reads (Chars.char {bs} {us} (Char.short s) cs) = reads_short bs us (reads cs) s
reads (Chars.char (Char.u_xxxx i j k l) Chars.none) = reads_last (Spells.u_xxxx i j k l) (reads Chars.none)
reads (Chars.char (Char.u_xxxx i j k l) (Chars.char {bs} {us} d cs)) = reads_before bs us d (Spells.u_xxxx i j k l) (reads (Chars.char d cs)) (reads cs)

-- ---- the comparison

pub name_same : {raw us : List ℕ} (n : List ℕ) → Chars raw us → NoneUnpaired (characters us) → Ascii n → matched n raw ≡ Ok (same (characters us) n)
unfolding matched
name_same {raw} {us} n s h a = go (spelling raw) (reads s)
  where
    go : (x : Spelling) → Reads x (characters us) → compared n x ≡ Ok (same (characters us) n)
    go (spelled xs) (right f k) = rw (f n a)
    go wrong (half k) = absurd (k h)

by_characters : {raw us : List ℕ} (n : List ℕ) → Chars raw us → Ascii n → ByCharacters (characters us) n (matched n raw)
unfolding matched
by_characters {raw} {us} n s a = go (spelling raw) (reads s)
  where
    by : NoneUnpaired (characters us) → (b : Bool) → same (characters us) n ≡ b → ByCharacters (characters us) n (Ok b)
    by h true e = ByCharacters.that_name h ((same_exactly (characters us) n).0 e)
    by h false e = ByCharacters.other_name h (λ q. true≢false (sym ((same_exactly (characters us) n).1 q) ∙ e))

    go : (x : Spelling) → Reads x (characters us) → ByCharacters (characters us) n (compared n x)
    go (spelled xs) (right f h) = rw (f n a) (by h (same (characters us) n) refl)
    go wrong (half h) = ByCharacters.unpaired h

one_match : {us n : List ℕ} {q r : Match} → ByCharacters us n q → ByCharacters us n r → q ≡ r
one_match (ByCharacters.that_name h e) (ByCharacters.that_name k f) = refl
one_match (ByCharacters.that_name h e) (ByCharacters.other_name k f) = absurd (f e)
one_match (ByCharacters.that_name h e) (ByCharacters.unpaired k) = absurd (k h)
one_match (ByCharacters.other_name h e) (ByCharacters.that_name k f) = absurd (e f)
one_match (ByCharacters.other_name h e) (ByCharacters.other_name k f) = refl
one_match (ByCharacters.other_name h e) (ByCharacters.unpaired k) = absurd (k h)
one_match (ByCharacters.unpaired h) (ByCharacters.that_name k f) = absurd (h k)
one_match (ByCharacters.unpaired h) (ByCharacters.other_name k f) = absurd (h k)
one_match (ByCharacters.unpaired h) (ByCharacters.unpaired k) = refl

-- ---- the names of paths

letter_ascii : {b : ℕ} → Letter b → b < 0x80
letter_ascii (Letter.upper h) = omega arith
letter_ascii (Letter.lower h) = omega arith
letter_ascii Letter.underscore = omega arith

rest_ascii : {bs : List ℕ} → Rest bs → Ascii bs
rest_ascii Rest.none = tt
rest_ascii (Rest.letter l r) = (letter_ascii l, rest_ascii r)
rest_ascii (Rest.digit h r) = (omega arith, rest_ascii r)

pub name_ascii : {n : List ℕ} → Name n → Ascii n
name_ascii (Name.starts l r) = (letter_ascii l, rest_ascii r)

-- what a name that RFC 8259 derives is to a path's name
pub name_exactly : {raw us n : List ℕ} → Chars raw us → Name n → (r : Match) → (matched n raw ≡ r) ↔ ByCharacters (characters us) n r
name_exactly {raw} {us} {n} s p r =
    let b = by_characters n s (name_ascii p) in
    (λ e. subst (ByCharacters (characters us) n) e b, λ h. one_match b h)
