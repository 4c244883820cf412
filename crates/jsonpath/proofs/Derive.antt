-- What the machine makes of a derivation: after a whole value it is where it was. By the derivation with its blanks regrouped.
use mathlib.Core.Path.{◌≡◌, refl, ◌∙◌}
use mathlib.Core.Bool.{Bool, true}
use mathlib.Core.Option.{some}
use mathlib.Core.Logic.{◌≢◌}
use mathlib.Core.List.{List, [], ◌∷◌, ◌++◌}
use Prim.Native.Nat.{ℕ, suc, ◌+◌, ◌≤◌, ◌<◌}
use native.Mathlib.Omega.{arith}
use borrow.Author.Tests.{lt-ltb}
use lib.Dec.{ltb}
use lib.ListN.{length}
use Rattle.texts.specs.Grammar.{Opt, Blank, Ws, Digits, Digits1, Minus, Int, Frac, E, Sign, Exp, Number, Hexdig, Utf8Char, Unescaped, Char, Chars, string_bytes}
use Rattle.texts.specs.Nodes.{deep, deep_items, deep_fields, Fields, no_fields}
use Rattle.texts.proofs.Padded.{Bare, Pad, Elems, Entry, Entries, bare_bytes, pad_bytes, elems_bytes, entry_bytes, entries_bytes, bare_tree, padded, pad_items, with_entry, pad_fields}
use Rattle.jsonpath.proofs.Machine.{down, sep, sort_of, Apart, sort_plain, State, out, str, check, go, go_append, inside_other}

-- ---- bytes that leave the machine alone

abbrev pub Plains : List ℕ → Type 0
Plains [] = Unit {0}
Plains (b ∷ bs) = Apart b × Plains bs

pub plains_run : (q : Bool) (d k : ℕ) (bs : List ℕ) → Plains bs → go q d (out k) bs ≡ some (out k)
plains_run q d k [] p = refl
plains_run q d k (b ∷ bs) p = rw (sort_plain p.0) (plains_run q d k bs p.1)

blank_apart : {b : ℕ} → Blank b → Apart b
blank_apart Blank.space = omega arith
blank_apart Blank.tab = omega arith
blank_apart Blank.line_feed = omega arith
blank_apart Blank.carriage_return = omega arith

pub ws_plains : {w : List ℕ} → Ws w → Plains w
ws_plains Ws.none = tt
ws_plains (Ws.blank b w) = (blank_apart b, ws_plains w)

-- none of the eight bytes, and no blank
pub record Solid (b : ℕ) : Type 0 where
  pub apart : Apart b
  pub dark : 0x21 ≤ b

abbrev pub Solids : List ℕ → Type 0
Solids [] = Unit {0}
Solids (b ∷ bs) = Solid b × Solids bs

solids_append : (xs ys : List ℕ) → Solids xs → Solids ys → Solids (xs ++ ys)
solids_append [] ys p q = q
solids_append (x ∷ xs) ys p q = (p.0, solids_append xs ys p.1 q)

solids_plains : (bs : List ℕ) → Solids bs → Plains bs
solids_plains [] h = tt
solids_plains (b ∷ bs) h = (h.0.apart, solids_plains bs h.1)

digits_solids : {bs : List ℕ} → Digits bs → Solids bs
digits_solids Digits.none = tt
digits_solids (Digits.more h ds) = (omega arith, digits_solids ds)

digits1_solids : {bs : List ℕ} → Digits1 bs → Solids bs
digits1_solids (Digits1.digits h ds) = (omega arith, digits_solids ds)

minus_solids : {bs : List ℕ} → Opt Minus bs → Solids bs
minus_solids Opt.none = tt
minus_solids (Opt.some Minus.minus) = (omega arith, tt)

int_solids : {bs : List ℕ} → Int bs → Solids bs
int_solids Int.zero = (omega arith, tt)
int_solids (Int.digits h ds) = (omega arith, digits_solids ds)

frac_solids : {bs : List ℕ} → Opt Frac bs → Solids bs
frac_solids Opt.none = tt
frac_solids (Opt.some (Frac.frac ds)) = (omega arith, digits1_solids ds)

e_solid : {b : ℕ} → E b → Solid b
e_solid E.lower = omega arith
e_solid E.upper = omega arith

sign_solids : {bs : List ℕ} → Opt Sign bs → Solids bs
sign_solids Opt.none = tt
sign_solids (Opt.some Sign.minus) = (omega arith, tt)
sign_solids (Opt.some Sign.plus) = (omega arith, tt)

exp_solids : {bs : List ℕ} → Opt Exp bs → Solids bs
exp_solids Opt.none = tt
exp_solids (Opt.some (Exp.exp {s} {ds} x g d)) = (e_solid x, solids_append s ds (sign_solids g) (digits1_solids d))

pub number_solids : {bs : List ℕ} → Number bs → Solids bs
number_solids (Number.number {m} {i} {f} {e} x y z w) =
    solids_append m _ (minus_solids x) (solids_append i _ (int_solids y) (solids_append f e (frac_solids z) (exp_solids w)))

-- ---- strings

-- neither a quote nor a backslash
abbrev Inners : List ℕ → Type 0
Inners [] = Unit {0}
Inners (b ∷ bs) = (b ≢ 0x22) × (b ≢ 0x5C) × Inners bs

inners_run : (q : Bool) (d k : ℕ) (bs : List ℕ) → Inners bs → go q d (str k) bs ≡ some (str k)
inners_run q d k [] h = refl
inners_run q d k (a ∷ bs) h = let o = inside_other {b = a} q d k h.0 h.1 in rw (o.0, o.1) (inners_run q d k bs h.2)

hex_inner : {a x : ℕ} → Hexdig a x → (a ≢ 0x22) × (a ≢ 0x5C)
hex_inner (Hexdig.digit h) = omega arith
hex_inner (Hexdig.upper h) = omega arith
hex_inner (Hexdig.lower h) = omega arith

utf8_run : {bs : List ℕ} {u : ℕ} → Utf8Char bs u → Unescaped u → Inners bs
utf8_run (Utf8Char.utf8_1 i) (Unescaped.low h) = omega arith
utf8_run (Utf8Char.utf8_1 i) (Unescaped.middle h) = omega arith
utf8_run (Utf8Char.utf8_1 i) (Unescaped.high h) = omega arith
utf8_run (Utf8Char.utf8_2 i j) n = omega arith
utf8_run (Utf8Char.utf8_3a i j) n = omega arith
utf8_run (Utf8Char.utf8_3b i j k) n = omega arith
utf8_run (Utf8Char.utf8_3c i j) n = omega arith
utf8_run (Utf8Char.utf8_3d i j k) n = omega arith
utf8_run (Utf8Char.utf8_4a i j k) n = omega arith
utf8_run (Utf8Char.utf8_4b i j k l) n = omega arith
utf8_run (Utf8Char.utf8_4c i j k) n = omega arith

char_run : {bs : List ℕ} {u : ℕ} (q : Bool) (d k : ℕ) → Char bs u → go q d (str k) bs ≡ some (str k)
char_run {bs} q d k (Char.unescaped c n) = inners_run q d k bs (utf8_run c n)
char_run q d k (Char.short s) = refl
char_run q d k (Char.u_xxxx {a} {b} {c} {d = e} h i j l) =
    inners_run q d k (a ∷ b ∷ c ∷ e ∷ []) (omega (arith, hex_inner h, hex_inner i, hex_inner j, hex_inner l))

pub chars_run : {raw us : List ℕ} (q : Bool) (d k : ℕ) → Chars raw us → go q d (str k) raw ≡ some (str k)
chars_run q d k Chars.none = refl
chars_run q d k (Chars.char {b} {bs} c cs) = go_append q d (str k) b bs (char_run q d k c) ∙ chars_run q d k cs

pub string_run : {raw us : List ℕ} (d k : ℕ) → Chars raw us → go true d (out k) (string_bytes raw) ≡ some (out k)
string_run {raw} d k c = go_append true d (str k) raw (0x22 ∷ []) (chars_run true d k c)

-- ---- values

-- two runs, one after the other
pub join : (q : Bool) (d : ℕ) (s : State) (xs ys : List ℕ) {t u : State} → go q d s xs ≡ some t → go q d t ys ≡ some u → go q d s (xs ++ ys) ≡ some u
join q d s xs ys h k = go_append q d s xs ys h ∙ k

-- an opened bracket, what is between, its closer
bracket : (d k c : ℕ) (xs : List ℕ) → d ≤ k → k < 64 → sort_of c ≡ down → go true d (out (suc k)) xs ≡ some (out (suc k))
    → check (ltb k 64) (go true d (out (suc k)) (xs ++ (c ∷ []))) ≡ some (out k)
bracket d k c xs h l f g = rw (lt-ltb k 64 l, go_append true d (out (suc k)) xs (c ∷ []) g, f, lt-ltb d (suc k) (omega arith)) refl

deep_rest : (a : ℕ) (m : Entry) (fs : Fields) → deep_fields fs ≤ deep_fields (with_entry a m fs)
unfolding deep
deep_rest a (Entry.entry b s b' p) fs = omega arith

-- a comma or colon where it may stand
separate : (d k c : ℕ) (xs : List ℕ) {t : State} → sort_of c ≡ sep → d < k → go true d (out k) xs ≡ some t → go true d (out k) (c ∷ xs) ≡ some t
separate d k c xs e h f = rw (e, lt-ltb d k h) f

-- a name and its blanks
pub name_run : {w raw us w' : List ℕ} (d k : ℕ) → Ws w → Chars raw us → Ws w' → go true d (out k) (w ++ (string_bytes raw ++ w')) ≡ some (out k)
name_run {w} {raw} {us} {w'} d k b s b' =
    join true d (out k) w _ (plains_run true d k w (ws_plains b))
    (join true d (out k) (string_bytes raw) w' (string_run d k s) (plains_run true d k w' (ws_plains b')))

mutual
  unfolding deep

  pub value_run : (a d k : ℕ) (v : Bare) → deep (bare_tree a v) + k ≤ 64 → d ≤ k → go true d (out k) (bare_bytes v) ≡ some (out k)
  value_run a d k Bare.false h l = refl
  value_run a d k Bare.null h l = refl
  value_run a d k Bare.true h l = refl
  value_run a d k (Bare.num {bs} n) h l = plains_run true d k bs (solids_plains bs (number_solids n))
  value_run a d k (Bare.string s) h l = string_run d k s
  value_run a d k (Bare.empty_array {w} b) h l = bracket d k 0x5D w l (omega arith) refl (plains_run true d (suc k) w (ws_plains b))
  value_run a d k (Bare.array es) h l = bracket d k 0x5D (elems_bytes es) l (omega arith) refl (elems_run (suc a) d (suc k) es (omega arith) (omega arith))
  value_run a d k (Bare.empty_object {w} b) h l = bracket d k 0x7D w l (omega arith) refl (plains_run true d (suc k) w (ws_plains b))
  value_run a d k (Bare.object ms) h l = bracket d k 0x7D (entries_bytes ms) l (omega arith) refl (entries_run (suc a) d (suc k) ms (omega arith) (omega arith))

  pub pad_run : (a d k : ℕ) (p : Pad) → deep (padded a p) + k ≤ 64 → d ≤ k → go true d (out k) (pad_bytes p) ≡ some (out k)
  pad_run a d k (Pad.pad {w} {w'} b v b') h l =
      join true d (out k) w _ (plains_run true d k w (ws_plains b))
      (join true d (out k) (bare_bytes v) w' (value_run (a + length w) d k v h l) (plains_run true d k w' (ws_plains b')))

  pub elems_run : (a d k : ℕ) (es : Elems) → deep_items (pad_items a es) + k ≤ 64 → d < k → go true d (out k) (elems_bytes es) ≡ some (out k)
  elems_run a d k (Elems.last p) h l = pad_run a d k p (omega arith) (omega arith)
  elems_run a d k (Elems.more p es) h l =
      join true d (out k) (pad_bytes p) _ (pad_run a d k p (omega arith) (omega arith))
      (separate d k 0x2C (elems_bytes es) refl l (elems_run (suc (a + length (pad_bytes p))) d k es (omega arith) l))

  pub entry_run : (a d k : ℕ) (m : Entry) (fs : Fields) → deep_fields (with_entry a m fs) + k ≤ 64 → d < k → go true d (out k) (entry_bytes m) ≡ some (out k)
  entry_run a d k (Entry.entry {w} {raw} {us} {w'} b s b' p) fs h l =
      join true d (out k) (w ++ (string_bytes raw ++ w')) _ (name_run d k b s b')
      (separate d k 0x3A (pad_bytes p) refl l (pad_run (suc (a + length (w ++ (string_bytes raw ++ w')))) d k p (omega arith) (omega arith)))

  pub entries_run : (a d k : ℕ) (ms : Entries) → deep_fields (pad_fields a ms) + k ≤ 64 → d < k → go true d (out k) (entries_bytes ms) ≡ some (out k)
  entries_run a d k (Entries.last_entry m) h l = entry_run a d k m no_fields h l
  entries_run a d k (Entries.more_entries m ms) h l =
      join true d (out k) (entry_bytes m) _ (entry_run a d k m _ h l)
      (separate d k 0x2C (entries_bytes ms) refl l
      (entries_run (suc (a + length (entry_bytes m))) d k ms (omega (arith, deep_rest a m (pad_fields (suc (a + length (entry_bytes m))) ms))) l))
