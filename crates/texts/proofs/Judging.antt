-- What the machine's verdict means: `yes` is a text within the limit, `no` the first byte that no text could have there, `over` an opener
-- too deep. The state where the run ends can be completed, so the bytes before begin a text; and a text that went on would be accepted.
use mathlib.Core.Path.{◌≡◌, refl, sym, ◌∙◌}
use mathlib.Core.Bool.{Bool, true, false, false≢true}
use mathlib.Core.List.{List, [], ◌∷◌, ◌++◌}
use Prim.Native.Nat.{ℕ, suc, ◌+◌, ◌≤◌, ◌<◌}
use native.Mathlib.Omega.{arith}
use native.Mathlib.Nat.{zero-add}
use native.Mathlib.Numerals.{add-one}
use borrow.Author.Tests.{le-ltb}
use lib.ListN.{length, take, length-append}
use lib.Seq.{append_snoc, take-append_seam, take-append-add}
use Rattle.rules.specs.Word.{pick}
use Rattle.rules.proofs.Booleans.{impossible}
use Rattle.texts.specs.Grammar.{Opt, Digits, Ws, JsonText, Text, text_bytes}
use Rattle.texts.specs.Nodes.{deep, value_of}
use Rattle.texts.specs.Prefixes.{Shallow, Prefix, Impossible, Over}
use Rattle.texts.specs.Machine.{Bracket, Mode, want, done, key, colon, entered, minus, nought, int, dot, frac, exponent, signed, power, chars, escape, must, Move, move, complete, Judgement, yes, no, over, ends, read_on, judge}
use Rattle.texts.proofs.DepthLaws.{deep_tree}
use Rattle.texts.proofs.Languages.{and_then, After, Valued, Want, at_nought, at_int, at_frac, at_power, Wanted}
use Rattle.texts.proofs.Backwards.{back}
use Rattle.texts.proofs.Finishing.{finish}
use Rattle.texts.proofs.Reaching.{Ending, Reached, reach, returning, room_behind, entering}
use Rattle.texts.proofs.Completeness.{shallow_yes}

-- what the machine wants at the start is a text within the limit
whole : {limit : ℕ} {bs : List ℕ} → Want limit [] bs → Shallow limit bs
unfolding text_bytes value_of
whole (and_then {cs = w} b (Valued.value v h (After.end b'))) =
    record { json = record { derivation = JsonText.text b v b'; derives = refl }; within = omega (arith, deep_tree v (length w)) }

-- ---- where the bytes end

nothing_left : (limit : ℕ) (m : Mode) → complete m ≡ true → Wanted limit m [] []
nothing_left limit done e = After.end Ws.none
nothing_left limit nought e = and_then (at_nought Opt.none Opt.none) (After.end Ws.none)
nothing_left limit int e = and_then (at_int Digits.none Opt.none Opt.none) (After.end Ws.none)
nothing_left limit frac e = and_then (at_frac Digits.none Opt.none) (After.end Ws.none)
nothing_left limit power e = and_then (at_power Digits.none) (After.end Ws.none)
nothing_left limit want e = absurd (false≢true e)
nothing_left limit key e = absurd (false≢true e)
nothing_left limit colon e = absurd (false≢true e)
nothing_left limit (entered f) e = absurd (false≢true e)
nothing_left limit minus e = absurd (false≢true e)
nothing_left limit dot e = absurd (false≢true e)
nothing_left limit exponent e = absurd (false≢true e)
nothing_left limit signed e = absurd (false≢true e)
nothing_left limit (chars k) e = absurd (false≢true e)
nothing_left limit (escape k) e = absurd (false≢true e)
nothing_left limit (must r rs m) e = absurd (false≢true e)

by_end : {C : Type 0} {v : Judgement} (m : Mode) (st : List Bracket) (i : ℕ) → ends m st i ≡ v → (st ≡ [] → complete m ≡ true → v ≡ yes → C) → (v ≡ no i → C) → C
by_end {C} {v} m [] i e f g = go (complete m) refl e
  where
    go : (t : Bool) → complete m ≡ t → pick t yes (no i) ≡ v → C
    go true q e = f refl q (sym e)
    go false q e = g (sym e)
by_end m (x ∷ st) i e f g = g (sym e)

-- ---- verdicts, and the bytes up to a place

-- a verdict, with what it means
data Judged (limit : ℕ) (text : List ℕ) : Judgement → Type 0 where
  accepted : Shallow limit text → Judged limit text yes
  refused : {p : ℕ} → Impossible limit text p → Judged limit text (no p)
  exceeded : {p : ℕ} → Over limit text p → Judged limit text (over p)

-- what the machine refuses under every higher limit is no text at all
never_text : (limit : ℕ) (text : List ℕ) (p : ℕ) → ((limit' : ℕ) → limit ≤ limit' → judge limit' text ≡ no p) → ¬ (Text text)
never_text limit text p f t =
    let d = deep (value_of t.derivation) in
    let y : judge (limit + d) text ≡ yes = shallow_yes (limit + d) text (record { json = t; within = omega arith }) in
    let n : judge (limit + d) text ≡ no p = f (limit + d) (omega arith) in
    impossible (cc)

-- one byte more
one_more : (xs : List ℕ) (c : ℕ) (cs : List ℕ) → take (suc (length xs)) (xs ++ (c ∷ cs)) ≡ xs ++ (c ∷ [])
one_more xs c cs = rw (← add-one) (take-append-add xs (c ∷ cs) 1)

module _ {Whole : List ℕ → Type 0} (xs : List ℕ) (c : ℕ) (cs : List ℕ) where
  begins_so : (more : List ℕ) → Whole (xs ++ (c ∷ more)) → Prefix Whole (take (suc (length xs)) (xs ++ (c ∷ cs)))
  begins_so more w = rw (one_more xs c cs) (record { rest = more; whole = rw (append_snoc xs c more) w })

  goes_on : Prefix Whole (take (suc (length xs)) (xs ++ (c ∷ cs))) → (more : List ℕ) × Whole (xs ++ (c ∷ more))
  goes_on b = (b.rest, rw (one_more xs c cs, append_snoc xs c b.rest) at b.whole)

-- ---- what each verdict means, by the way in which the run ends

module _ {limit : ℕ} {text : List ℕ} (r : Reached limit want [] 0 text) where
  arrives : {v : Judgement} (limit' : ℕ) → limit ≤ limit' → (cs : List ℕ) → read_on limit' r.mode r.stack (length r.seen) cs ≡ v → judge limit' (r.seen ++ cs) ≡ v
  unfolding judge
  arrives limit' l cs e = rw zero-add at (r.goes limit' l cs) ∙ e

  begun : (rest : List ℕ) → Prefix (Shallow limit) (take (length r.seen) (r.seen ++ rest))
  begun rest =
      let f = finish limit r.mode r.stack r.room in
      rw take-append_seam (record { rest = f.0; whole = whole (r.returns limit (omega arith) f.0 f.1) })

  refuses : (rest : List ℕ) → (length r.seen < length (r.seen ++ rest) → ¬ (Prefix Text (take (suc (length r.seen)) (r.seen ++ rest))))
      → ((limit' : ℕ) → limit ≤ limit' → judge limit' (r.seen ++ rest) ≡ no (length r.seen)) → Impossible limit (r.seen ++ rest) (length r.seen)
  refuses rest f g =
      record { fits = simp length-append (omega arith); before = begun rest; after = f; short = never_text limit (r.seen ++ rest) (length r.seen) g }

  module _ (b : ℕ) where
    stops : move r.mode r.stack b ≡ Move.stop → (limit' : ℕ) → limit ≤ limit' → (cs : List ℕ) → judge limit' (r.seen ++ (b ∷ cs)) ≡ no (length r.seen)
    unfolding read_on
    stops q limit' l cs = arrives limit' l (b ∷ cs) (rw q)

    module _ {m : Mode} {st : List Bracket} (q : move r.mode r.stack b ≡ Move.into m st) (deep : limit ≤ length st) where
      exceeds : (cs : List ℕ) → judge limit (r.seen ++ (b ∷ cs)) ≡ over (length r.seen)
      unfolding read_on
      exceeds cs = arrives limit (omega arith) (b ∷ cs) (rw (q, le-ltb (length st) limit deep))

      -- with room for the opener, the text goes on
      deeper : (more : List ℕ) × Shallow (suc (length st)) (r.seen ++ (b ∷ more))
      deeper =
          let room = r.room in
          let k = entering (rw q at (back (suc (length st)) r.mode r.stack b (omega arith))) (omega arith) in
          let f = finish (suc (length st)) m st (room_behind k) in
          (f.0, whole (r.returns (suc (length st)) (omega arith) (b ∷ f.0) (returning k f.0 f.1)))

      too_deep : (bs : List ℕ) → Over limit (r.seen ++ (b ∷ bs)) (length r.seen)
      too_deep bs = record {
        fits = simp length-append (omega arith);
        before = begun (b ∷ bs);
        some = begins_so r.seen b bs deeper.0 deeper.1.json;
        none = λ k.
            let g = goes_on r.seen b bs k in
            let y = shallow_yes limit (r.seen ++ (b ∷ g.0)) g.1 in
            let o = exceeds g.0 in
            impossible (cc);
      }

  judged_at : {rest : List ℕ} → Ending limit r.mode r.stack rest → Judged limit (r.seen ++ rest) (judge limit (r.seen ++ rest))
  unfolding read_on
  judged_at Ending.out_of_bytes =
      by_end r.mode r.stack (length r.seen) refl
      (λ s c q. rw (arrives limit (omega arith) [] q) (Judged.accepted (whole (r.returns limit (omega arith) [] (rw s (nothing_left limit r.mode c))))))
      (λ q. rw (arrives limit (omega arith) [] q)
      (Judged.refused (refuses [] (λ h. absurd (omega (arith, length-append r.seen []))) (λ limit' l. arrives limit' l [] q))))
  judged_at (Ending.no_move {b} {bs} q) =
      let p = length r.seen in
      let none : ¬ (Prefix Text (take (suc p) (r.seen ++ (b ∷ bs)))) =
      λ k. let g = goes_on r.seen b bs k in never_text limit (r.seen ++ (b ∷ g.0)) p (λ limit' l. stops b q limit' l g.0) g.1 in
      rw (stops b q limit (omega arith) bs) (Judged.refused (refuses (b ∷ bs) (λ h. none) (λ limit' l. stops b q limit' l bs)))
  judged_at (Ending.too_deep {b} {bs} q l) = rw (exceeds b q l bs) (Judged.exceeded (too_deep b q l bs))

judged : (limit : ℕ) (text : List ℕ) → Judged limit text (judge limit text)
judged limit text = go (reach limit want [] 0 text (omega arith))
  where
    go : Reached limit want [] 0 text → Judged limit text (judge limit text)
    go r = rw r.bytes (judged_at r r.ending)

-- ---- the three verdicts

pub judge_yes : (limit : ℕ) (text : List ℕ) → judge limit text ≡ yes → Shallow limit text
judge_yes limit text e = go (rw e at (judged limit text))
  where
    go : Judged limit text yes → Shallow limit text
    go (Judged.accepted h) = h

pub judge_no : (limit : ℕ) (text : List ℕ) (p : ℕ) → judge limit text ≡ no p → Impossible limit text p
judge_no limit text p e = go (rw e at (judged limit text))
  where
    go : {p : ℕ} → Judged limit text (no p) → Impossible limit text p
    go (Judged.refused h) = h

pub judge_over : (limit : ℕ) (text : List ℕ) (p : ℕ) → judge limit text ≡ over p → Over limit text p
judge_over limit text p e = go (rw e at (judged limit text))
  where
    go : {p : ℕ} → Judged limit text (over p) → Over limit text p
    go (Judged.exceeded h) = h
