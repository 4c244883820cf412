-- The state in which a run comes to its end: how it is reached under this limit and every higher one, and that what completes a text from
-- it completes, behind the bytes read, one from the start. By induction on the bytes, a move at a time.
use mathlib.Core.Path.{◌≡◌, refl, ap, ◌∙◌}
use mathlib.Core.Bool.{Bool, true, false}
use mathlib.Core.List.{List, [], ◌∷◌, ◌++◌}
use Prim.Native.Nat.{ℕ, suc, ◌+◌, ◌≤◌, ◌<◌}
use native.Mathlib.Omega.{arith}
use borrow.Author.Tests.{ltb-true, ltb-false, lt-ltb}
use lib.Dec.{ltb}
use lib.ListN.{length}
use Rattle.texts.specs.Machine.{Bracket, Mode, Move, move, read_on}
use Rattle.texts.proofs.Languages.{Wanted, height}
use Rattle.texts.proofs.Backwards.{Back, back}

-- why it ends there
pub data Ending (limit : ℕ) (m : Mode) (st : List Bracket) : List ℕ → Type 0 where
  out_of_bytes : Ending limit m st []
  no_move : {b : ℕ} {bs : List ℕ} → move m st b ≡ Move.stop → Ending limit m st (b ∷ bs)
  too_deep : {b : ℕ} {bs : List ℕ} {m' : Mode} {st' : List Bracket} → move m st b ≡ Move.into m' st' → limit ≤ length st' → Ending limit m st (b ∷ bs)

pub record Reached (limit : ℕ) (m : Mode) (st : List Bracket) (i : ℕ) (bs : List ℕ) : Type 0 where
  pub seen : List ℕ
  pub rest : List ℕ
  pub bytes : bs ≡ seen ++ rest
  pub mode : Mode
  pub stack : List Bracket
  pub room : height mode stack ≤ limit
  pub goes : (limit' : ℕ) → limit ≤ limit' → (cs : List ℕ) → read_on limit' m st i (seen ++ cs) ≡ read_on limit' mode stack (i + length seen) cs
  pub returns : (limit' : ℕ) → limit ≤ limit' → (cs : List ℕ) → Wanted limit' mode stack cs → Wanted limit' m st (seen ++ cs)
  pub ending : Ending limit mode stack rest

-- ---- one move

pub returning : {limit : ℕ} {Whole : List ℕ → Type 0} {b : ℕ} {m : Mode} {st : List Bracket} → Back limit Whole b (Move.to m st)
    → (bs : List ℕ) → Wanted limit m st bs → Whole (b ∷ bs)
returning (Back.to h f) = f

pub room_behind : {limit : ℕ} {Whole : List ℕ → Type 0} {b : ℕ} {m : Mode} {st : List Bracket} → Back limit Whole b (Move.to m st) → height m st ≤ limit
room_behind (Back.to h f) = h

pub entering : {limit : ℕ} {Whole : List ℕ → Type 0} {b : ℕ} {m : Mode} {st : List Bracket} → Back limit Whole b (Move.into m st) → length st < limit
    → Back limit Whole b (Move.to m st)
entering (Back.into f) = f

module _ (limit : ℕ) (m : Mode) (st : List Bracket) (i : ℕ) where
  here : height m st ≤ limit → (bs : List ℕ) → Ending limit m st bs → Reached limit m st i bs
  here h bs e = record {
    seen = [];
    rest = bs;
    bytes = refl;
    mode = m;
    stack = st;
    room = h;
    goes = λ limit' l cs. ap (λ (p : ℕ). read_on limit' m st p cs) (omega arith);
    returns = λ limit' l cs w. w;
    ending = e;
  }

  module _ (b : ℕ) (m' : Mode) (st' : List Bracket) (step : (limit' : ℕ) → limit ≤ limit' → (cs : List ℕ) → read_on limit' m st i (b ∷ cs) ≡ read_on limit' m' st' (suc i) cs)
      (unstep : (limit' : ℕ) → limit ≤ limit' → Back limit' (Wanted limit' m st) b (Move.to m' st')) where
    onward : {bs : List ℕ} → Reached limit m' st' (suc i) bs → Reached limit m st i (b ∷ bs)
    onward r = record {
      seen = b ∷ r.seen;
      rest = r.rest;
      bytes = ap (λ (xs : List ℕ). b ∷ xs) r.bytes;
      mode = r.mode;
      stack = r.stack;
      room = r.room;
      goes = λ limit' l cs. step limit' l (r.seen ++ cs) ∙ r.goes limit' l cs ∙ ap (λ (p : ℕ). read_on limit' r.mode r.stack p cs) (omega arith);
      returns = λ limit' l cs w. returning (unstep limit' l) (r.seen ++ cs) (r.returns limit' l cs w);
      ending = r.ending;
    }

-- ---- all moves

pub reach : (limit : ℕ) (m : Mode) (st : List Bracket) (i : ℕ) (bs : List ℕ) → height m st ≤ limit → Reached limit m st i bs
unfolding read_on
reach limit m st i [] h = here limit m st i h [] Ending.out_of_bytes
reach limit m st i (b ∷ bs) h = go (move m st b) refl (λ m' st' h'. reach limit m' st' (suc i) bs h')
  where
    unstep : {v : Move} → move m st b ≡ v → (limit' : ℕ) → limit ≤ limit' → Back limit' (Wanted limit' m st) b v
    unstep q limit' l = rw q at (back limit' m st b (omega arith))

    go : (v : Move) → move m st b ≡ v → ((m' : Mode) (st' : List Bracket) → height m' st' ≤ limit → Reached limit m' st' (suc i) bs) → Reached limit m st i (b ∷ bs)
    go Move.stop q on = here limit m st i h (b ∷ bs) (Ending.no_move q)
    go (Move.to m' st') q on =
        onward limit m st i b m' st' (λ limit' l cs. rw q) (unstep q) (on m' st' (room_behind (unstep q limit (omega arith))))
    go (Move.into m' st') q on = open_or_not (ltb (length st') limit) refl
      where
        open_or_not : (t : Bool) → ltb (length st') limit ≡ t → Reached limit m st i (b ∷ bs)
        open_or_not true e =
            let k = ltb-true (length st') limit e in
            onward limit m st i b m' st' (λ limit' l cs. rw (q, lt-ltb (length st') limit' (omega arith)))
            (λ limit' l. entering (unstep q limit' l) (omega arith))
            (on m' st' (room_behind (entering (unstep q limit (omega arith)) k)))
        open_or_not false e = here limit m st i h (b ∷ bs) (Ending.too_deep q (ltb-false (length st') limit e))
