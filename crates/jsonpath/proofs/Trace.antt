-- The rules of the bits at each place of a stretch that the machine can read: what the machine's state says. By a step at each byte.
use mathlib.Core.Path.{◌≡◌, refl, sym, ap, ap₂, ◌∙◌}
use mathlib.Core.Bool.{Bool, true, false, not, ◌&&◌, true≢false, false≢true}
use mathlib.Core.Option.{some}
use mathlib.Core.Logic.{◌≢◌, ⊎_elim}
use mathlib.Core.List.{List, [], ◌∷◌}
use Prim.Native.Nat.{ℕ, zero, suc, ◌+◌, ◌≤◌, ◌<◌}
use native.Mathlib.Nat.{add-zero, add-suc, suc-add, eq-or-lt_of_le}
use native.Mathlib.Omega.{arith}
use native.Mathlib.Decide.{ℕ_discrete, dec_lt}
use borrow.Author.Tests.{ne_eqb, ltb-true}
use lib.Dec.{ltb}
use lib.ListN.{length, get_or}
use Rattle.rules.specs.Word.{digit, xor, odd, count}
use Rattle.rules.specs.Bytes.{Class, quote, backslash, opens, closes, colon, comma, is, has}
use Rattle.rules.specs.Bits.{run_before, escaped, quote_bit, in_string, mask_bit, plain, opener, closer, at_depth, level_bit}
use Rattle.rules.specs.Faults.{closes_none, opens_over}
use Rattle.rules.proofs.RuleLaws.{escaped_suc, in_string_suc, mask_inside, has_past}
use Rattle.texts.proofs.Tests.{and_false}
use Rattle.jsonpath.proofs.Machine.{sort_of, Apart, sort_plain, State, out, str, esc, step, ok, less, go, passed, inside_other}

-- ---- which of the bytes it is

data Look (b : ℕ) : Type 0 where
  quotes : b ≡ 0x22 → Look b
  slashes : b ≡ 0x5C → Look b
  opens_array : b ≡ 0x5B → Look b
  opens_object : b ≡ 0x7B → Look b
  closes_array : b ≡ 0x5D → Look b
  closes_object : b ≡ 0x7D → Look b
  separates : b ≡ 0x2C → Look b
  names : b ≡ 0x3A → Look b
  other : Apart b → Look b

whether : {A : Type 0} {b n : ℕ} → Dec (b ≡ n) → (b ≡ n → A) → (b ≢ n → A) → A
whether (yes e) f g = f e
whether (no h) f g = g h

look : (b : ℕ) → Look b
look b =
    whether (ℕ_discrete b 0x22) quotes λ h1. whether (ℕ_discrete b 0x5C) slashes λ h2. whether (ℕ_discrete b 0x5B) opens_array λ h3.
    whether (ℕ_discrete b 0x7B) opens_object λ h4. whether (ℕ_discrete b 0x5D) closes_array λ h5. whether (ℕ_discrete b 0x7D) closes_object λ h6.
    whether (ℕ_discrete b 0x2C) separates λ h7. whether (ℕ_discrete b 0x3A) names λ h8.
    other (record { quote = h1; slash = h2; open_array = h3; open_object = h4; close_array = h5; close_object = h6; comma = h7; colon = h8 })

-- a byte that is none of them is in no class
apart_none : {b : ℕ} (c : Class) → Apart b → is c b ≡ false
unfolding is
apart_none {b} quote a = ne_eqb b 0x22 a.quote
apart_none {b} backslash a = ne_eqb b 0x5C a.slash
apart_none {b} opens a = rw (ne_eqb b 0x7B a.open_object, ne_eqb b 0x5B a.open_array) refl
apart_none {b} closes a = rw (ne_eqb b 0x7D a.close_object, ne_eqb b 0x5D a.close_array) refl
apart_none {b} colon a = ne_eqb b 0x3A a.colon
apart_none {b} comma a = ne_eqb b 0x2C a.comma

-- ---- the rules at a place, by its byte

-- whose mask bit is 0, is outside a string: also past the end, where no byte is in a class
plain_outside : (c : Class) (text : List ℕ) (i : ℕ) → plain (mask_bit text) c text i ≡ (has c text i && not (in_string text i))
unfolding plain
plain_outside c text i = go (dec_lt i (length text))
  where
    go : Dec (i < length text) → (has c text i && not (mask_bit text i)) ≡ (has c text i && not (in_string text i))
    go (yes h) = ap (λ (m : Bool). has c text i && not m) (mask_inside text i h)
    go (no h) = let e = has_past c text i (omega arith) in rw e

module _ (text : List ℕ) (i x : ℕ) (e n : Bool) (at : get_or text i 0 ≡ x) where
  has_here : (c : Class) → has c text i ≡ is c x
  unfolding has
  has_here c = ap (is c) at

  escaped_next : escaped text i ≡ e → escaped text (suc i) ≡ (is backslash x && not e)
  escaped_next h = escaped_suc text i ∙ ap₂ (λ (a b : Bool). a && not b) (has_here backslash) h

  pub quote_here : escaped text i ≡ e → quote_bit text i ≡ (is quote x && not e)
  unfolding quote_bit
  quote_here h = ap₂ (λ (a b : Bool). a && not b) (has_here quote) h

  inside_next : escaped text i ≡ e → in_string text i ≡ n → in_string text (suc i) ≡ xor (is quote x && not e) n
  inside_next h k = in_string_suc text i ∙ ap₂ xor (quote_here h) k

  plain_here : (c : Class) → in_string text i ≡ n → plain (mask_bit text) c text i ≡ (is c x && not n)
  plain_here c k = plain_outside c text i ∙ ap₂ (λ (a b : Bool). a && not b) (has_here c) k

  opener_here : in_string text i ≡ n → opener text i ≡ (is opens x && not n)
  unfolding opener
  opener_here = plain_here opens

  closer_here : in_string text i ≡ n → closer text i ≡ (is closes x && not n)
  unfolding closer
  closer_here = plain_here closes

  pub level_here : (c : Class) (k : ℕ) → in_string text i ≡ n → level_bit c text (suc k) i ≡ (is c x && not n && at_depth text (suc k) i)
  unfolding level_bit
  level_here c k h = ap (λ (b : Bool). b && at_depth text (suc k) i) (plain_here c h)

-- ---- what a state says of a place

abbrev esc_of : State → Bool
esc_of (out k) = false
esc_of (str k) = false
esc_of (esc k) = true

abbrev ins_of : State → Bool
ins_of (out k) = false
ins_of (str k) = true
ins_of (esc k) = true

abbrev depth_of : State → ℕ
depth_of (out k) = k
depth_of (str k) = k
depth_of (esc k) = k

-- the rules say at i what the state says
pub record At (text : List ℕ) (i : ℕ) (s : State) : Type 0 where
  pub escaping : escaped text i ≡ esc_of s
  pub within : in_string text i ≡ ins_of s
  pub depth : count (opener text) i ≡ count (closer text) i + depth_of s

pub at_start : (text : List ℕ) → At text 0 (out 0)
unfolding escaped run_before in_string count odd
at_start text = record { escaping = refl; within = refl; depth = refl }

-- the two classes that levels have bits of
pub data Separator : Class → Type 0 where
  colons : Separator colon
  commas : Separator comma

-- what one step of the machine says of the place that it reads
pub record Stepped (text : List ℕ) (i : ℕ) (q : Bool) (d : ℕ) (t : State) : Type 0 where
  pub next : At text (suc i) t
  pub levels : (c : Class) → Separator c → (k : ℕ) → k ≤ d → level_bit c text k i ≡ false
  pub quotes : q ≡ false → quote_bit text i ≡ false
  pub under : closes_none text i ≡ false
  pub over : opens_over text i ≡ false

module _ (text : List ℕ) (i : ℕ) (q : Bool) (d : ℕ) where
  -- at a byte x: what is left to show of its classes
  stepped : (x : ℕ) (e n : Bool) (t : State) → get_or text i 0 ≡ x → escaped text i ≡ e → in_string text i ≡ n
      → (is backslash x && not e) ≡ esc_of t → xor (is quote x && not e) n ≡ ins_of t
      → count (opener text) i + digit (is opens x && not n) ≡ count (closer text) i + digit (is closes x && not n) + depth_of t
      → ((c : Class) → Separator c → (k : ℕ) → k ≤ d → (is c x && not n && at_depth text k i) ≡ false)
      → (q ≡ false → (is quote x && not e) ≡ false)
      → (is closes x && not n && at_depth text 0 i) ≡ false → (is opens x && not n && at_depth text 64 i) ≡ false → Stepped text i q d t
  unfolding count closes_none opens_over level_bit
  stepped x e n t at h k f g c l w u o = record {
    next = record {
      escaping = escaped_next text i x e n at h ∙ f;
      within = inside_next text i x e n at h k ∙ g;
      depth = rw (opener_here text i x e n at k, closer_here text i x e n at k) c;
    };
    levels = level;
    quotes = λ z. quote_here text i x e n at h ∙ w z;
    under = rw (closer_here text i x e n at k) u;
    over = rw (opener_here text i x e n at k) o;
  }
    where
      level : (c : Class) → Separator c → (k : ℕ) → k ≤ d → level_bit c text k i ≡ false
      level c s zero m = refl
      level c s (suc j) m = level_here text i x e n at c j k ∙ l c s (suc j) m

  -- inside a string nothing counts but the quote
  inner : (k : ℕ) (e : Bool) (t : State) → escaped text i ≡ e → in_string text i ≡ true → count (opener text) i ≡ count (closer text) i + k → depth_of t ≡ k
      → (is backslash (get_or text i 0) && not e) ≡ esc_of t → xor (is quote (get_or text i 0) && not e) true ≡ ins_of t
      → (q ≡ false → (is quote (get_or text i 0) && not e) ≡ false) → Stepped text i q d t
  inner k e t h m c l f g w =
      let x : ℕ = get_or text i 0 in
      let o = and_false (is opens x) in
      let u = and_false (is closes x) in
      stepped x e true t refl h m f g (rw (o, u, l) (omega (arith, c))) (λ c s k z. rw (and_false (is c x))) w (rw u) (rw o)

  esc_step : (k : ℕ) → At text i (esc k) → Stepped text i q d (str k)
  esc_step k h =
      inner k true (str k) h.escaping h.within h.depth refl (and_false (is backslash (get_or text i 0))) (rw (and_false (is quote (get_or text i 0))))
      (λ z. and_false (is quote (get_or text i 0)))

  str_step : (k : ℕ) → At text i (str k) → ok q d (str k) (sort_of (get_or text i 0)) ≡ true → Stepped text i q d (step (str k) (sort_of (get_or text i 0)))
  unfolding is
  str_step k h l =
      whether (ℕ_discrete (get_or text i 0) 0x22)
      (λ e. rw e (inner k false (out k) h.escaping h.within h.depth refl (rw e) (rw e) (λ z. absurd (true≢false (sym (rw e at l) ∙ z)))))
      λ f. whether (ℕ_discrete (get_or text i 0) 0x5C)
      (λ e. rw e (inner k false (esc k) h.escaping h.within h.depth refl (rw e) (rw e) (λ z. rw e)))
      λ g. rw (inside_other q d k f g).0
      (inner k false (str k) h.escaping h.within h.depth refl (rw (ne_eqb (get_or text i 0) 0x5C g)) (rw (ne_eqb (get_or text i 0) 0x22 f)) (λ z. rw (ne_eqb (get_or text i 0) 0x22 f)))

module _ (text : List ℕ) (i : ℕ) (q : Bool) (d k : ℕ) (h : At text i (out k)) where
  -- no separator
  no_sep : (x : ℕ) → is colon x ≡ false → is comma x ≡ false → (c : Class) → Separator c → (j : ℕ) → j ≤ d → (is c x && true && at_depth text j i) ≡ false
  no_sep x f g colon colons j m = rw f
  no_sep x f g comma commas j m = rw g
  no_sep x f g quote h j m = elim h [ ]
  no_sep x f g backslash h j m = elim h [ ]
  no_sep x f g opens h j m = elim h [ ]
  no_sep x f g closes h j m = elim h [ ]

  -- the depth at i is k, and no other
  other_depth : (j : ℕ) → k ≢ j → at_depth text j i ≡ false
  unfolding at_depth
  other_depth j m = ne_eqb (count (opener text) i) (count (closer text) i + j) (omega (arith, h.depth))

  deeper : ltb d k ≡ true → (j : ℕ) → j ≤ d → at_depth text j i ≡ false
  deeper l j m = other_depth j (omega (arith, ltb-true d k l))

  separated : (x : ℕ) → ltb d k ≡ true → (c : Class) → Separator c → (j : ℕ) → j ≤ d → (is c x && true && at_depth text j i) ≡ false
  separated x l c s j m = rw (deeper l j m) (and_false (is c x && true))

  -- outside, at a byte x
  outer : (x : ℕ) (t : State) → get_or text i 0 ≡ x → (is backslash x && true) ≡ esc_of t → xor (is quote x && true) false ≡ ins_of t
      → k + digit (is opens x && true) ≡ digit (is closes x && true) + depth_of t
      → ((c : Class) → Separator c → (j : ℕ) → j ≤ d → (is c x && true && at_depth text j i) ≡ false)
      → (q ≡ false → (is quote x && true) ≡ false)
      → (is closes x && true && at_depth text 0 i) ≡ false → (is opens x && true && at_depth text 64 i) ≡ false → Stepped text i q d t
  outer x t at f g c l w u o = stepped text i q d x false false t at h.escaping h.within f g (omega (arith, h.depth, c)) l w u o

  opening : (x : ℕ) → get_or text i 0 ≡ x → is backslash x ≡ false → is quote x ≡ false → is opens x ≡ true → is closes x ≡ false → is colon x ≡ false → is comma x ≡ false
      → ltb k 64 ≡ true → Stepped text i q d (out (suc k))
  opening x at f g o u cl co l =
      outer x (out (suc k)) at (rw f) (rw g) (rw (o, u) (omega arith)) (no_sep x cl co) (λ _. rw g) (rw u) (rw o (other_depth 64 (omega (arith, ltb-true k 64 l))))

  closing : (x : ℕ) → get_or text i 0 ≡ x → is backslash x ≡ false → is quote x ≡ false → is opens x ≡ false → is closes x ≡ true → is colon x ≡ false → is comma x ≡ false
      → ltb d k ≡ true → Stepped text i q d (out (less k))
  closing x at f g o u cl co l =
      let m = ltb-true d k l in
      outer x (out (less k)) at (rw f) (rw g) (rw (o, u) (down k m)) (no_sep x cl co) (λ _. rw g) (rw u (other_depth 0 (omega (arith, m)))) (rw o)
    where
      down : (k : ℕ) → d < k → k + 0 ≡ 1 + less k
      down zero m = absurd (omega arith)
      down (suc k) m = omega arith

  out_step : ok q d (out k) (sort_of (get_or text i 0)) ≡ true → Stepped text i q d (step (out k) (sort_of (get_or text i 0)))
  unfolding is
  out_step l = case (look (get_or text i 0))
    where
      case : Look (get_or text i 0) → Stepped text i q d (step (out k) (sort_of (get_or text i 0)))
      case (quotes e) = rw e (outer 0x22 (str k) e refl refl (omega arith) (no_sep 0x22 refl refl) (λ z. absurd (true≢false (sym (rw e at l) ∙ z))) refl refl)
      case (slashes e) = absurd (false≢true (rw e at l))
      case (opens_array e) = rw e (opening 0x5B e refl refl refl refl refl refl (rw e at l))
      case (opens_object e) = rw e (opening 0x7B e refl refl refl refl refl refl (rw e at l))
      case (closes_array e) = rw e (closing 0x5D e refl refl refl refl refl refl (rw e at l))
      case (closes_object e) = rw e (closing 0x7D e refl refl refl refl refl refl (rw e at l))
      case (separates e) = rw e (outer 0x2C (out k) e refl refl (omega arith) (separated 0x2C (rw e at l)) (λ _. refl) refl refl)
      case (names e) = rw e (outer 0x3A (out k) e refl refl (omega arith) (separated 0x3A (rw e at l)) (λ _. refl) refl refl)
      case (other a) =
          rw (sort_plain a)
          (outer (get_or text i 0) (out k) refl (rw (apart_none backslash a)) (rw (apart_none quote a))
          (rw (apart_none opens a, apart_none closes a) (omega arith)) (no_sep (get_or text i 0) (apart_none colon a) (apart_none comma a))
          (λ _. rw (apart_none quote a)) (rw (apart_none closes a)) (rw (apart_none opens a)))

pub at_step : (text : List ℕ) (i : ℕ) (q : Bool) (d : ℕ) (s : State) → At text i s → ok q d s (sort_of (get_or text i 0)) ≡ true
    → Stepped text i q d (step s (sort_of (get_or text i 0)))
at_step text i q d (out k) h l = out_step text i q d k h l
at_step text i q d (str k) h l = str_step text i q d k h l
at_step text i q d (esc k) h l = esc_step text i q d k h

-- ---- a stretch of the record

-- the bytes at i and after it are those of the list
abbrev pub Seg : List ℕ → ℕ → List ℕ → Type 0
Seg text i [] = Unit {0}
Seg text i (b ∷ bs) = (get_or text i 0 ≡ b) × Seg text (suc i) bs

-- none of the n places from i passes the test
abbrev pub Never : (ℕ → Bool) → ℕ → ℕ → Type 0
Never p i n = (j : ℕ) → i ≤ j → j < i + n → p j ≡ false

pub never_more : (p : ℕ → Bool) (i n : ℕ) → p i ≡ false → Never p (suc i) n → Never p i (suc n)
never_more p i n h k j l m = ⊎_elim (λ (e : i ≡ j). rw (← e) h) (λ e. k j e (omega arith)) (eq-or-lt_of_le l)

pub never_append : (p : ℕ → Bool) (i m n : ℕ) → Never p i m → Never p (i + m) n → Never p i (m + n)
never_append p i m n h k j l o = go (dec_lt j (i + m))
  where
    go : Dec (j < i + m) → p j ≡ false
    go (yes z) = h j l z
    go (no z) = k j (omega arith) (omega arith)

pub record Traced (text : List ℕ) (i n : ℕ) (q : Bool) (d : ℕ) (t : State) : Type 0 where
  pub after : At text (i + n) t
  pub levels : (c : Class) → Separator c → (k : ℕ) → k ≤ d → Never (level_bit c text k) i n
  pub quotes : q ≡ false → Never (quote_bit text) i n
  pub under : Never (closes_none text) i n
  pub over : Never (opens_over text) i n

pub trace : (text : List ℕ) (i : ℕ) (q : Bool) (d : ℕ) (s t : State) (bs : List ℕ) → Seg text i bs → At text i s → go q d s bs ≡ some t
    → Traced text i (length bs) q d t
trace text i q d s t [] g h e = record {
  after = rw (add-zero, ← same) h;
  levels = λ _ _ _ _ j l m. absurd (omega arith);
  quotes = λ _ j l m. absurd (omega arith);
  under = λ j l m. absurd (omega arith);
  over = λ j l m. absurd (omega arith);
}
  where
    same : s ≡ t
    same = cc
trace text i q d s t (b ∷ bs) g h e =
    let p = passed (ok q d s (sort_of b)) (go q d (step s (sort_of b)) bs) e in
    let one : Stepped text i q d (step s (sort_of b)) = rw g.0 at (at_step text i q d s h (rw g.0 p.0)) in
    let rest = trace text (suc i) q d (step s (sort_of b)) t bs g.1 one.next p.1 in
    record {
      after = rw (add-suc, ← suc-add) rest.after;
      levels = λ c s k l. never_more (level_bit c text k) i (length bs) (one.levels c s k l) (rest.levels c s k l);
      quotes = λ z. never_more (quote_bit text) i (length bs) (one.quotes z) (rest.quotes z);
      under = never_more (closes_none text) i (length bs) one.under rest.under;
      over = never_more (opens_over text) i (length bs) one.over rest.over;
    }
