-- `padded` meets its contract: the bytes from at on, and behind them zeros still.
use Rattle.std.proofs.Common.{◌≡◌, ℕ, ◌+◌, ◌-◌, ◌<◌, ◌≤◌, List, ◌++◌, length, get_or, get_or-drop, take, drop, replicate, sym, ap, ◌∙◌, lt_of_not-le, arith}
use native.Mathlib.Decide.{dec_lt}
use lib.ListN.{length-replicate, get_or-replicate, get_or-eq_default}
use Rattle.std.proofs.Math.Seq.{get_or-append_right}
use Rattle.std.proofs.lemmas.List.{places}
use Rattle.blocks.proofs.block.padded.Goals as goal

abbrev zeros : List ℕ
zeros = replicate 64 0

blank : (k : ℕ) → get_or zeros k 0 ≡ 0
blank k = go (dec_lt k 64)
  where
    go : Dec (k < 64) → get_or zeros k 0 ≡ 0
    go (yes l) = get_or-replicate 64 k 0 0 l
    go (no n) = get_or-eq_default zeros 0 {n = k} (omega (arith, lt_of_not-le n, length-replicate {A = ℕ} 64 0))

module _ (text : List ℕ) (at : ℕ) (l : at ≤ length text) (m : length text < at + 64) where
  abbrev rest : List ℕ
  rest = take (length text - at) (drop at text)

  laid : (j : ℕ) → get_or (rest ++ drop (length rest) zeros) j 0 ≡ get_or text (at + j) 0
  laid j = go (dec_lt j (length text - at))
    where
      go : Dec (j < length text - at) → get_or (rest ++ drop (length rest) zeros) j 0 ≡ get_or text (at + j) 0
      go (yes p) =
          let a : get_or (rest ++ drop (length rest) zeros) j 0 ≡ get_or rest j 0 = grind (arith, places) in
          let b : get_or rest j 0 ≡ get_or text (at + j) 0 = grind (arith, places) in a ∙ b
      go (no n) =
          let long : length rest ≡ length text - at = grind (arith, places) in
          let a : get_or (rest ++ drop (length rest) zeros) j 0 ≡ get_or (drop (length rest) zeros) (j - length rest) 0 = get_or-append_right rest (drop (length rest) zeros) j 0 (omega (arith, long, lt_of_not-le n)) in
          let b : get_or (drop (length rest) zeros) (j - length rest) 0 ≡ 0 = get_or-drop (length rest) zeros (j - length rest) 0 ∙ blank (length rest + (j - length rest)) in
          let over : length text ≤ at + j = omega (arith, lt_of_not-le n) in
          a ∙ b ∙ sym (get_or-eq_default text 0 over)

pub returns : goal.returns
returns c = λ j. ap (λ (p : List ℕ). get_or (p ++ drop (length (rest c.args.text.now c.args.at c.requires.0 c.requires.1)) zeros) j 0) c.copy_from_slice.ensures.after ∙ laid c.args.text.now c.args.at c.requires.0 c.requires.1 j
