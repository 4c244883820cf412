-- A move, read backwards: a byte in front of what the state behind it wants is what the state before it wants. Test by test. The brackets
-- that are open grow by none, and by one at an opener.
use mathlib.Core.Path.{◌≡◌, refl, sym, ap, ◌∙◌}
use mathlib.Core.Bool.{Bool, true, false, ◌||◌}
use mathlib.Core.List.{List, [], ◌∷◌, ◌++◌, map, append_assoc}
use Prim.Native.Nat.{ℕ, suc, ◌+◌, ◌≤◌, ◌<◌}
use native.Mathlib.Omega.{arith}
use borrow.Author.Tests.{eqb-true}
use lib.Dec.{eqb}
use lib.ListN.{length}
use Rattle.rules.specs.Word.{pick}
use Rattle.texts.specs.Grammar.{Blank, Ws, Opt, Digits, Number, Chars, Value, value_bytes}
use Rattle.texts.specs.Machine.{within, is_ws, is_digit, is_e, is_short, is_plain, Range, only, fits, Bracket, in_array, in_object, Role, a_name, a_value, Mode, want, done, key, colon, entered, minus, nought, int, dot, frac, exponent, signed, power, chars, escape, must, Move, closer_of, item_mode, item_stack, string_end, musts, begin, after, item_first, character, move}
use Rattle.texts.proofs.DepthLaws.{depth}
use Rattle.texts.proofs.Languages.{Sequence, and_then, Behind, Matches, After, Valued, InString, Itemed, Entered, StringNext, NumberRest, at_nought, at_frac, at_power, NumberThen, Wanted, height}
use Rattle.texts.proofs.ByteLaws.{Charred, in_range_is, is_blank_holds, is_digit_holds, is_e_holds, is_sign, is_short_holds, is_plain_holds, four_digits, after_C2, after_E0, after_E1, after_ED, after_EE, after_F0, after_F1, after_F4, letters}
use Rattle.texts.proofs.NumberLaws
use Rattle.texts.proofs.Gathering.{Parted, parted, valued, bracket_back}

-- a move at byte b, from a state that wants `Whole`
pub data Back (limit : ℕ) (Whole : List ℕ → Type 0) (b : ℕ) : Move → Type 0 where
  stop : Back limit Whole b Move.stop
  to : {m : Mode} {st : List Bracket} → height m st ≤ limit → ((bs : List ℕ) → Wanted limit m st bs → Whole (b ∷ bs)) → Back limit Whole b (Move.to m st)
  into : {m : Mode} {st : List Bracket} → (length st < limit → Back limit Whole b (Move.to m st)) → Back limit Whole b (Move.into m st)

-- a character before the rest of a string
pub char_before : {Rest : List ℕ → Type 0} {cs bs : List ℕ} → Charred cs → InString Rest bs → InString Rest (cs ++ bs)
char_before {cs} c (InString.string {raw} {bs} s r) = rw (← append_assoc cs raw (0x22 ∷ bs)) (InString.string (Chars.char c.1 s) r)

-- a character whose last bytes are those that must come
matched : {Rest : List ℕ → Type 0} (first : List ℕ) {rs : List Range} {bs : List ℕ} → ((cs : List ℕ) → Matches rs cs → Charred (first ++ cs))
    → Sequence (Matches rs) (InString Rest) bs → InString Rest (first ++ bs)
matched first f (and_then {cs} {bs} m s) = rw (← append_assoc first cs bs) (char_before (f cs m) s)

module _ (limit : ℕ) where
  -- by a test, and by comparing with a byte
  by_test : {Whole : List ℕ → Type 0} {b : ℕ} {x y : Move} (t : Bool) → (t ≡ true → Back limit Whole b x) → Back limit Whole b y → Back limit Whole b (pick t x y)
  by_test true f g = f refl
  by_test false f g = g

  by_byte : {Whole : List ℕ → Type 0} {b : ℕ} {x y : Move} (c : ℕ) → Back limit Whole c x → Back limit Whole b y → Back limit Whole b (pick (eqb b c) x y)
  by_byte {b} c f g = by_test (eqb b c) (λ e. rw (eqb-true b c e) f) g

  -- where what is wanted is wanted by more
  wider : {Part Whole : List ℕ → Type 0} {b : ℕ} {v : Move} → ((bs : List ℕ) → Part bs → Whole bs) → Back limit Part b v → Back limit Whole b v
  wider {b} f Back.stop = Back.stop
  wider {b} f (Back.to h g) = Back.to h (λ bs w. f (b ∷ bs) (g bs w))
  wider {b} f (Back.into g) = Back.into (λ l. wider f (g l))

  -- ---- a value's first byte

  string_back : {st : List Bracket} {bs : List ℕ} → length st ≤ limit → InString (After limit st) bs → Valued limit st (0x22 ∷ bs)
  unfolding value_bytes depth
  string_back h (InString.string s a) = valued (Value.string s) (simp append_assoc) (omega arith) a

  number_back : {m : Mode} {st : List Bracket} {b : ℕ} {bs : List ℕ} → length st ≤ limit → ((cs : List ℕ) → NumberRest m cs → Number (b ∷ cs))
      → NumberThen limit m st bs → Valued limit st (b ∷ bs)
  unfolding value_bytes depth
  number_back h f (and_then {cs} n a) = valued (Value.number (f cs n)) refl (omega arith) a

  literal_back : {st : List Bracket} {b : ℕ} (cs : List ℕ) {bs : List ℕ} (v : Value) → value_bytes v ≡ b ∷ cs → depth v + length st ≤ limit
      → Sequence (Matches (map only cs)) (After limit st) bs → Valued limit st (b ∷ bs)
  literal_back {b} cs v e h (and_then {bs} m a) = valued v (ap (λ (xs : List ℕ). xs ++ bs) (e ∙ ap (λ (xs : List ℕ). b ∷ xs) (sym (letters cs m)))) h a

  begin_back : (st : List Bracket) (b : ℕ) → length st ≤ limit → Back limit (Valued limit st) b (begin st b)
  unfolding begin value_bytes depth
  begin_back st b h =
      by_byte 0x22 (Back.to h (λ bs w. string_back h w))
      (by_byte 0x2D (Back.to h (λ bs w. number_back h (λ cs n. NumberLaws.negative n) w))
      (by_byte 0x30 (Back.to h (λ bs w. number_back h (λ cs n. NumberLaws.positive (NumberLaws.with_zero n)) w))
      (by_test (within 0x31 0x39 b) (λ e. Back.to h (λ bs w. number_back h (λ cs n. NumberLaws.positive (NumberLaws.with_first (in_range_is 0x31 0x39 b e) n)) w))
      (by_byte 0x5B (Back.into (λ l. Back.to l (λ bs w. bracket_back in_array l w)))
      (by_byte 0x7B (Back.into (λ l. Back.to l (λ bs w. bracket_back in_object l w)))
      (by_byte 0x66 (Back.to h (λ bs w. literal_back (0x61 ∷ 0x6C ∷ 0x73 ∷ 0x65 ∷ []) Value.false refl (omega arith) w))
      (by_byte 0x6E (Back.to h (λ bs w. literal_back (0x75 ∷ 0x6C ∷ 0x6C ∷ []) Value.null refl (omega arith) w))
      (by_byte 0x74 (Back.to h (λ bs w. literal_back (0x72 ∷ 0x75 ∷ 0x65 ∷ []) Value.true refl (omega arith) w))
      Back.stop))))))))

  -- ---- behind a value

  after_blank : {st : List Bracket} {b : ℕ} {bs : List ℕ} → Blank b → After limit st bs → After limit st (b ∷ bs)
  after_blank k (After.end w) = After.end (Ws.blank k w)
  after_blank k (After.close w a) = After.close (Ws.blank k w) a
  after_blank k (After.item w w' i h a) = After.item (Ws.blank k w) w' i h a

  item_wanted : (f : Bracket) (st : List Bracket) {bs : List ℕ} → Wanted limit (item_mode f) (item_stack f st) bs → Sequence Ws (Itemed limit f st) bs
  item_wanted in_array st w = w
  item_wanted in_object st w = w

  item_height : (f : Bracket) (st : List Bracket) → suc (length st) ≤ limit → height (item_mode f) (item_stack f st) ≤ limit
  item_height in_array st h = h
  item_height in_object st h = h

  comma_back : (f : Bracket) (st : List Bracket) {bs : List ℕ} → Sequence Ws (Itemed limit f st) bs → After limit (f ∷ st) (0x2C ∷ bs)
  comma_back f st (and_then {cs = w} b i) = go (parted f i)
    where
      go : {bs : List ℕ} → Parted limit f st bs → After limit (f ∷ st) (0x2C ∷ (w ++ bs))
      go (Parted.part i h a) = After.item Ws.none b i h a

  after_back : (st : List Bracket) (b : ℕ) → length st ≤ limit → Back limit (After limit st) b (after st b)
  unfolding after
  after_back [] b h = by_test (is_ws b) (λ e. Back.to h (λ bs w. after_blank (is_blank_holds b e) w)) Back.stop
  after_back (f ∷ st) b h =
      by_test (is_ws b) (λ e. Back.to h (λ bs w. after_blank (is_blank_holds b e) w))
      (by_byte 0x2C (Back.to (item_height f st h) (λ bs w. comma_back f st (item_wanted f st w)))
      (by_byte (closer_of f) (Back.to (omega arith) (λ bs w. After.close Ws.none w))
      Back.stop))

  -- ---- a character's first byte

  character_back : (k : Role) (st : List Bracket) (b : ℕ) → height (chars k) st ≤ limit → Back limit (InString (StringNext limit k st)) b (character k st b)
  unfolding character
  character_back k st b h =
      by_test (is_plain b) (λ e. Back.to h (λ bs w. char_before (is_plain_holds b e) w))
      (by_byte 0x5C (Back.to h (λ bs w. w))
      (by_test (within 0xC2 0xDF b) (λ e. Back.to h (λ bs w. matched (b ∷ []) (λ cs m. after_C2 (in_range_is 0xC2 0xDF b e) m) w))
      (by_byte 0xE0 (Back.to h (λ bs w. matched (0xE0 ∷ []) (λ cs m. after_E0 m) w))
      (by_test (within 0xE1 0xEC b) (λ e. Back.to h (λ bs w. matched (b ∷ []) (λ cs m. after_E1 (in_range_is 0xE1 0xEC b e) m) w))
      (by_byte 0xED (Back.to h (λ bs w. matched (0xED ∷ []) (λ cs m. after_ED m) w))
      (by_test (within 0xEE 0xEF b) (λ e. Back.to h (λ bs w. matched (b ∷ []) (λ cs m. after_EE (in_range_is 0xEE 0xEF b e) m) w))
      (by_byte 0xF0 (Back.to h (λ bs w. matched (0xF0 ∷ []) (λ cs m. after_F0 m) w))
      (by_test (within 0xF1 0xF3 b) (λ e. Back.to h (λ bs w. matched (b ∷ []) (λ cs m. after_F1 (in_range_is 0xF1 0xF3 b e) m) w))
      (by_byte 0xF4 (Back.to h (λ bs w. matched (0xF4 ∷ []) (λ cs m. after_F4 m) w))
      Back.stop)))))))))

  -- ---- any byte

  blank_back : {Rest : List ℕ → Type 0} {b : ℕ} {bs : List ℕ} → Blank b → Sequence Ws Rest bs → Sequence Ws Rest (b ∷ bs)
  blank_back k (and_then w r) = and_then (Ws.blank k w) r

  item_back : (f : Bracket) (st : List Bracket) (b : ℕ) → length st < limit → Back limit (Itemed limit f st) b (item_first f st b)
  unfolding item_first
  item_back in_array st b h = begin_back (in_array ∷ st) b h
  item_back in_object st b h = by_byte 0x22 (Back.to h (λ bs w. Behind.byte w)) Back.stop

  -- within a number: bytes in front of its rest, or none of it left
  earlier : {m m' : Mode} {st : List Bracket} (first : List ℕ) {bs : List ℕ} → ((cs : List ℕ) → NumberRest m' cs → NumberRest m (first ++ cs))
      → NumberThen limit m' st bs → NumberThen limit m st (first ++ bs)
  earlier first f (and_then {cs} {bs} n a) = rw (← append_assoc first cs bs) (and_then (f cs n) a)

  ended : {m : Mode} {st : List Bracket} {b : ℕ} → NumberRest m [] → length st ≤ limit → Back limit (NumberThen limit m st) b (after st b)
  ended {st} {b} n h = wider (λ bs w. and_then n w) (after_back st b h)

  nought_back : (st : List Bracket) (b : ℕ) → length st ≤ limit → Back limit (NumberThen limit nought st) b (move nought st b)
  unfolding move
  nought_back st b h =
      by_byte 0x2E (Back.to h (λ bs w. earlier (0x2E ∷ []) (λ cs n. NumberLaws.nought_dot n) w))
      (by_test (is_e b) (λ e. Back.to h (λ bs w. earlier (b ∷ []) (λ cs n. NumberLaws.nought_e (is_e_holds b e) n) w)) (ended (at_nought Opt.none Opt.none) h))

  -- behind a string, and behind a byte that must come
  string_end_next : (k : Role) (st : List Bracket) (bs : List ℕ) → Wanted limit (string_end k) st bs → StringNext limit k st bs
  string_end_next a_name st bs w = w
  string_end_next a_value st bs w = w

  string_height_is : (k : Role) (st : List Bracket) → height (chars k) st ≤ limit → height (string_end k) st ≤ limit
  string_height_is a_name st h = h
  string_height_is a_value st h = h

  must_back : (r : Range) (rs : List Range) (m : Mode) (st : List Bracket) {b : ℕ} {bs : List ℕ} → fits r b ≡ true → Wanted limit (musts rs m) st bs
      → Wanted limit (must r rs m) st (b ∷ bs)
  must_back r [] m st e w = and_then (Matches.one e Matches.none) w
  must_back r (s ∷ rs) m st e (and_then ms w) = and_then (Matches.one e ms) w

  must_height : (rs : List Range) (m : Mode) (st : List Bracket) → height m st ≤ limit → height (musts rs m) st ≤ limit
  must_height [] m st h = h
  must_height (r ∷ rs) m st h = h

  pub back : (m : Mode) (st : List Bracket) (b : ℕ) → height m st ≤ limit → Back limit (Wanted limit m st) b (move m st b)
  unfolding move
  back want st b h = by_test (is_ws b) (λ e. Back.to h (λ bs w. blank_back (is_blank_holds b e) w)) (wider (λ bs w. and_then Ws.none w) (begin_back st b h))
  back done st b h = after_back st b h
  back key st b h = by_test (is_ws b) (λ e. Back.to h (λ bs w. blank_back (is_blank_holds b e) w)) (wider (λ bs w. and_then Ws.none w) (item_back in_object st b h))
  back colon st b h =
      by_test (is_ws b) (λ e. Back.to h (λ bs w. blank_back (is_blank_holds b e) w)) (by_byte 0x3A (Back.to h (λ bs w. and_then Ws.none (Behind.byte w))) Back.stop)
  back (entered f) st b h =
      by_test (is_ws b) (λ e. Back.to h (λ bs w. blank_back (is_blank_holds b e) w))
      (by_byte (closer_of f) (Back.to (omega arith) (λ bs w. and_then Ws.none (Entered.empty w)))
      (wider (λ bs w. and_then Ws.none (Entered.items w)) (item_back f st b h)))
  back minus st b h =
      by_byte 0x30 (Back.to h (λ bs w. earlier (0x30 ∷ []) (λ cs n. NumberLaws.with_zero n) w))
      (by_test (within 0x31 0x39 b) (λ e. Back.to h (λ bs w. earlier (b ∷ []) (λ cs n. NumberLaws.with_first (in_range_is 0x31 0x39 b e) n) w)) Back.stop)
  back nought st b h = nought_back st b h
  back int st b h =
      by_test (is_digit b) (λ e. Back.to h (λ bs w. earlier (b ∷ []) (λ cs n. NumberLaws.int_digit (is_digit_holds b e) n) w))
      (wider (λ bs w. earlier [] (λ cs n. NumberLaws.after_int n) w) (nought_back st b h))
  back dot st b h = by_test (is_digit b) (λ e. Back.to h (λ bs w. earlier (b ∷ []) (λ cs n. NumberLaws.dot_digit (is_digit_holds b e) n) w)) Back.stop
  back frac st b h =
      by_test (is_digit b) (λ e. Back.to h (λ bs w. earlier (b ∷ []) (λ cs n. NumberLaws.frac_digit (is_digit_holds b e) n) w))
      (by_test (is_e b) (λ e. Back.to h (λ bs w. earlier (b ∷ []) (λ cs n. NumberLaws.frac_e (is_e_holds b e) n) w)) (ended (at_frac Digits.none Opt.none) h))
  back exponent st b h =
      by_test (is_digit b) (λ e. Back.to h (λ bs w. earlier (b ∷ []) (λ cs n. NumberLaws.without_sign (NumberLaws.signed_digit (is_digit_holds b e) n)) w))
      (by_test (eqb b 0x2B || eqb b 0x2D) (λ e. Back.to h (λ bs w. earlier (b ∷ []) (λ cs n. NumberLaws.with_sign (is_sign b e) n) w)) Back.stop)
  back signed st b h = by_test (is_digit b) (λ e. Back.to h (λ bs w. earlier (b ∷ []) (λ cs n. NumberLaws.signed_digit (is_digit_holds b e) n) w)) Back.stop
  back power st b h =
      by_test (is_digit b) (λ e. Back.to h (λ bs w. earlier (b ∷ []) (λ cs n. NumberLaws.power_digit (is_digit_holds b e) n) w)) (ended (at_power Digits.none) h)
  back (chars k) st b h = by_byte 0x22 (Back.to (string_height_is k st h) (λ bs w. InString.string Chars.none (string_end_next k st bs w))) (character_back k st b h)
  back (escape k) st b h =
      by_test (is_short b) (λ e. Back.to h (λ bs w. char_before (is_short_holds b e) w))
      (by_byte 0x75 (Back.to h (λ bs w. matched (0x5C ∷ 0x75 ∷ []) (λ cs m. four_digits m) w)) Back.stop)
  back (must r rs m) st b h = by_test (fits r b) (λ e. Back.to (must_height rs m st h) (λ bs w. must_back r rs m st e w)) Back.stop
