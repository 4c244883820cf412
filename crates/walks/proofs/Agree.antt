-- The answer depends on the words only through the bits it may read: places below n, levels up to the number of steps. Bits that agree there give the
-- same items, steps and walks, one after another; and promised words agree with the rules.
use Prim.Native.Nat.{ℕ, zero, suc, ◌+◌, ◌-◌, ◌≤◌, ◌<◌}
use mathlib.Core.Path.{◌≡◌, refl, ap, ap₂}
use mathlib.Core.Bool.{Bool, true, false, not, ◌&&◌}
use mathlib.Core.List.{List, [], ◌∷◌}
use native.Mathlib.Omega.{arith}
use lib.Dec.{eqb, ltb, leb}
use lib.ListN.{length}
use borrow.Author.Tests.{ltb-true}
use Rattle.std.specs.Prelude.{Ok}
use Rattle.rules.specs.Word.{pick}
use Rattle.rules.specs.Layout.{quotes, colons, commas, width_of, size_of, Promise}
use Rattle.rules.proofs.LayoutLaws.{promised_bit}
use Rattle.paths.specs.Places.{byte_in, first_in, first_at}
use Rattle.paths.specs.Grammar.{Selector, name, number, Path}
use Rattle.paths.specs.Path.{Reading, good, bad, read_path, large}
use Rattle.names.specs.Spelling.{matched, Match}
use Rattle.query.specs.Items.{Bits, lent, solid, trim_start, trim_end, value_at, quoted, keyed, item_at, or_else, first_item_in, first_item, item_no}
use Rattle.walks.specs.Ruled.{ruled}
use Rattle.query.specs.Walk.{on_found, of_item, framed, filled, name_step, number_step, step_by, walk_from, walk}
use Rattle.query.specs.Answers.{after_reading, answer_of}
use Rattle.query.specs.Item.{Item}
use Rattle.query.specs.Item as Items
use Rattle.query.specs.declared.types.Cause.TheVariants.{EmptyValue}
use Rattle.query.specs.declared.types.Miss.TheVariants.{NotObject, NotArray, NoName, NoNumber}
use Rattle.query.specs.declared.types.Refusal.TheVariants.{EmptyRecord, LongRecord, BadLevels, BadBuffer, TooLarge, TooDeep, Missed, Broken}
use Rattle.query.specs.Answer.{Answer, Refused}
use Rattle.paths.proofs.PlaceLaws.{first_ge, first_le, last_bounds}
use Rattle.query.proofs.ItemLaws.{framed_long}
use Rattle.query.proofs.Inside.{InRecord, value_in, of_in, step_in}
use Rattle.paths.proofs.Reading.{read_is_path}

-- the same bits at places below n, and at levels up to l
pub record Agree (n l : ℕ) (b c : Bits) : Type 0 where
  pub quotes : (i : ℕ) → i < n → b.quote i ≡ c.quote i
  pub colons : (k i : ℕ) → 1 ≤ k → k ≤ l → i < n → b.colon k i ≡ c.colon k i
  pub commas : (k i : ℕ) → 1 ≤ k → k ≤ l → i < n → b.comma k i ≡ c.comma k i

-- ---- places and names

module _ (t u : ℕ → Bool) (n : ℕ) (h : (i : ℕ) → i < n → t i ≡ u i) where
  first_agree : (a e : ℕ) → a ≤ e → e ≤ n → first_at t a e ≡ first_at u a e
  unfolding first_at first_in
  first_agree a e l m = go (e - a) a (omega arith)
    where
      go : (c a : ℕ) → a + c ≤ n → first_in t c a ≡ first_in u c a
      go zero a l = refl
      go (suc c) a l = ap₂ (λ (b : Bool) (r : ℕ). pick b a r) (h a (omega arith)) (go c (suc a) (omega arith))

  quoted_agree : (p q : ℕ) → q ≤ n → quoted t p q ≡ quoted u p q
  unfolding quoted
  quoted_agree p q l = go (ltb (p + 1) q) refl
    where
      go : (b : Bool) → ltb (p + 1) q ≡ b → (b && (t p && eqb (first_at t (p + 1) q + 1) q)) ≡ (b && (u p && eqb (first_at u (p + 1) q + 1) q))
      go false e = refl
      go true e = let m = ltb-true (p + 1) q e in rw (h p (omega arith), first_agree (p + 1) q (omega arith) l)

  keyed_agree : (byte : ℕ → ℕ) (test : List ℕ → Match) (a d e : ℕ) → a ≤ d → d ≤ n → keyed byte t test a d e ≡ keyed byte u test a d e
  unfolding keyed
  keyed_agree byte test a d e l k =
      rw (quoted_agree (trim_start byte a d) (trim_end byte a d) (omega (arith, last_bounds (solid byte) (trim_start byte a d) d (first_le (solid byte) a d l))))

-- ---- items

items_agree : (item other : ℕ → ℕ → Item) (t u : ℕ → Bool) (n : ℕ) → ((i : ℕ) → i < n → t i ≡ u i) → ((a e : ℕ) → a ≤ e → e ≤ n → item a e ≡ other a e)
    → (c a e : ℕ) → a ≤ e → e ≤ n → first_item_in item t c a e ≡ first_item_in other u c a e
unfolding first_item_in
items_agree item other t u n h same zero a e l m = refl
items_agree item other t u n h same (suc c) a e l m =
    rw (first_agree t u n h a e l m)
    (ap₂ or_else (same a d (first_ge u a e l) (omega (arith, first_le u a e l))) (go (ltb d e) refl (λ k. items_agree item other t u n h same c (d + 1) e k m)))
  where
    d : ℕ
    d = first_at u a e

    go : (b : Bool) → ltb d e ≡ b → (d + 1 ≤ e → first_item_in item t c (d + 1) e ≡ first_item_in other u c (d + 1) e)
        → pick b (first_item_in item t c (d + 1) e) Items.Other ≡ pick b (first_item_in other u c (d + 1) e) Items.Other
    go true q f = f (omega (arith, ltb-true d e q))
    go false q f = refl

item_no_agree : (byte : ℕ → ℕ) (t u : ℕ → Bool) (n : ℕ) → ((i : ℕ) → i < n → t i ≡ u i) → (m a e : ℕ) → a ≤ e → e ≤ n → item_no byte t m a e ≡ item_no byte u m a e
unfolding item_no
item_no_agree byte t u n h zero a e l k = rw (first_agree t u n h a e l k)
item_no_agree byte t u n h (suc m) a e l k =
    rw (first_agree t u n h a e l k) (go (ltb (first_at u a e) e) refl (λ j. item_no_agree byte t u n h m (first_at u a e + 1) e j k))
  where
    go : (b : Bool) → ltb (first_at u a e) e ≡ b → (first_at u a e + 1 ≤ e → item_no byte t m (first_at u a e + 1) e ≡ item_no byte u m (first_at u a e + 1) e)
        → pick b (item_no byte t m (first_at u a e + 1) e) Items.Other ≡ pick b (item_no byte u m (first_at u a e + 1) e) Items.Other
    go true q f = f (omega (arith, ltb-true (first_at u a e) e q))
    go false q f = refl

-- ---- steps and walks

-- what is equal where a test holds
when : {A : Type 0} (b : Bool) (z : A) {x y : A} → (b ≡ true → x ≡ y) → pick b x z ≡ pick b y z
when true z f = f refl
when false z f = refl

module _ (byte : ℕ → ℕ) (n l : ℕ) (b c : Bits) (g : Agree n l b c) where
  item_agree : (k : ℕ) (test : List ℕ → Match) → 1 ≤ k → k ≤ l → (a e : ℕ) → a ≤ e → e ≤ n → item_at byte b k test a e ≡ item_at byte c k test a e
  unfolding item_at
  item_agree k test o p a e h j =
      rw (
        first_agree (b.colon k) (c.colon k) n (λ i z. g.colons k i o p z) a e h j,
        keyed_agree b.quote c.quote n g.quotes byte test a (first_at (c.colon k) a e) e (first_ge (c.colon k) a e h) (omega (arith, first_le (c.colon k) a e h)),
      )

  step_agree : (k : ℕ) (s : Selector) (a e : ℕ) → 1 ≤ k → k ≤ l → e ≤ n → step_by byte b k s a e ≡ step_by byte c k s a e
  unfolding name_step number_step first_item
  step_agree k (name m) a e o p h =
      when (framed byte 123 125 a e) (Refused (Missed NotObject k a)) (λ q. let f = framed_long byte 123 125 a e q in
      when (filled byte a e) (Refused (Missed NoName k a)) (λ _. ap (of_item (Missed NoName k a) k) (items_agree (item_at byte b k (matched m)) (item_at byte c k (matched m)) (b.comma k) (c.comma k) n (λ i z. g.commas k i o p z) (λ a e i j. item_agree k (matched m) o p a e i j) (suc (e - 1 - (a + 1))) (a + 1) (e - 1) (omega arith) (omega arith))))
  step_agree k (number m) a e o p h =
      when (framed byte 91 93 a e) (Refused (Missed NotArray k a)) (λ q. let f = framed_long byte 91 93 a e q in
      when (filled byte a e) (Refused (Missed NoNumber k a)) (λ _. ap (of_item (Missed NoNumber k a) k) (item_no_agree byte (b.comma k) (c.comma k) n (λ i z. g.commas k i o p z) m (a + 1) (e - 1) (omega arith) (omega arith))))

  on_agree : (r : Answer) (x y : ℕ → ℕ → Answer) → InRecord n r → ((s e : ℕ) → e ≤ n → x s e ≡ y s e) → on_found r x Refused ≡ on_found r y Refused
  on_agree (Ok part) x y i f = f part.start part.end i.1
  on_agree (Refused why) x y i f = refl

  walk_from_agree : (k : ℕ) (ss : List Selector) (a e : ℕ) → 1 ≤ k → k + length ss ≤ suc l → e ≤ n → walk_from byte b k ss a e ≡ walk_from byte c k ss a e
  unfolding walk_from
  walk_from_agree k [] a e o p h = refl
  walk_from_agree k (s ∷ ss) a e o p h =
      rw (step_agree k s a e o (omega arith) h)
      (on_agree (step_by byte c k s a e) (λ s' e'. walk_from byte b (k + 1) ss s' e') (λ s' e'. walk_from byte c (k + 1) ss s' e') (step_in byte c n k s a e h)
      (λ s' e' h'. walk_from_agree (k + 1) ss s' e' (omega arith) (omega arith) h'))

-- a walk of so many steps reads no other places, and no deeper levels
pub walk_agree : (text : List ℕ) (ss : List Selector) (b c : Bits) → Agree (length text) (length ss) b c → walk text b ss ≡ walk text c ss
unfolding walk
walk_agree text ss b c g =
    let n = length text in
    on_agree (byte_in text) n (length ss) b c g (of_item (Broken EmptyValue 0 0) 0 (value_at (byte_in text) 0 0 n)) (λ a e. walk_from (byte_in text) b 1 ss a e) (λ a e. walk_from (byte_in text) c 1 ss a e)
    (of_in n (Broken EmptyValue 0 0) 0 (value_at (byte_in text) 0 0 n) (value_in (byte_in text) 0 0 n n (omega arith) (omega arith)))
    (λ a e h. walk_from_agree (byte_in text) n (length ss) b c g 1 ss a e (omega arith) (omega arith) h)

-- ---- the answer

-- two buffers of equal length whose bits agree, as far as the path has steps, get the same answer
pub answer_agree : (text words others : List ℕ) (levels : ℕ) (path : List ℕ) → length words ≡ length others
    → ((ss : List Selector) → Path path ss → Agree (length text) (length ss) (lent words levels (width_of (length text))) (lent others levels (width_of (length text))))
    → answer_of text words levels path ≡ answer_of text others levels path
unfolding answer_of
answer_agree text words others levels path e g =
    rw e
    (ap (λ (r : Answer).
    pick (eqb (length text) 0) (Refused EmptyRecord)
    (pick (ltb 16777216 (length text)) (Refused LongRecord)
    (pick (not (leb 1 levels && leb levels 16)) (Refused BadLevels)
    (pick (not (eqb (length others) (size_of levels (length text)))) (Refused BadBuffer) (pick (ltb 1024 (length path)) (Refused TooLarge) r)))))
    (go (read_path path) refl))
  where
    go : (r : Reading) → read_path path ≡ r → after_reading text words levels r ≡ after_reading text others levels r
    go (bad p) q = refl
    go (good ss) q = ap (λ (r : Answer). pick (large ss) (Refused TooLarge) (pick (ltb levels (length ss)) (Refused TooDeep) r)) (walk_agree text ss _ _ (g ss (read_is_path path ss q)))

-- ---- promised words

-- what close promises: the bits of the rules
pub promise_agrees : (text : List ℕ) (levels : ℕ) (words : List ℕ) → Promise text levels words → Agree (length text) levels (lent words levels (width_of (length text))) (ruled text)
promise_agrees text levels words p =
    record {
      quotes = λ i h. promised_bit text levels words p quotes tt i h;
      colons = λ k i o l h. promised_bit text levels words p (colons k) (o, l) i h;
      commas = λ k i o l h. promised_bit text levels words p (commas k) (o, l) i h;
    }

agree_less : {n l m : ℕ} {b c : Bits} → m ≤ l → Agree n l b c → Agree n m b c
agree_less h g = record { quotes = g.quotes; colons = λ k i o l. g.colons k i o (omega arith); commas = λ k i o l. g.commas k i o (omega arith) }

-- so the walk over them is the walk by the rules
pub walk_promised : (text : List ℕ) (levels : ℕ) (words : List ℕ) (ss : List Selector) → Promise text levels words → length ss ≤ levels
    → walk text (lent words levels (width_of (length text))) ss ≡ walk text (ruled text) ss
walk_promised text levels words ss p h = walk_agree text ss _ _ (agree_less h (promise_agrees text levels words p))
