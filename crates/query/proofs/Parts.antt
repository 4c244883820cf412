-- A part of a text, by places of the text: its bytes, and the first and the last of them that pass a test.
use Prim.Native.Nat.{ℕ, ◌+◌, ◌-◌, ◌≤◌, ◌<◌}
use mathlib.Core.Path.{◌≡◌, sym, ap, ◌∙◌}
use mathlib.Core.Bool.{Bool, true, false, true≢false}
use mathlib.Core.List.{List}
use native.Mathlib.Omega.{arith}
use native.Mathlib.Decide.{dec_lt}
use lib.ListN.{get_or, take, drop}
use Rattle.std.proofs.lemmas.List.{get_or-take, get_or-drop}
use Rattle.paths.specs.Places.{byte_in, first_at, past_last}
use Rattle.paths.proofs.PlaceLaws.{first_at_is, first_all, last_at, last_bounds, last_hit}

module _ (text : List ℕ) (a e : ℕ) where
  part_byte : (k : ℕ) → k < e - a → get_or (take (e - a) (drop a text)) k 0 ≡ byte_in text (a + k)
  unfolding byte_in
  part_byte k l = get_or-take (e - a) (drop a text) k 0 l ∙ get_or-drop a text k 0

  module _ (t : ℕ → Bool) where
    by_place : (b : Bool) (k : ℕ) → a ≤ k → k < e → t (get_or (take (e - a) (drop a text)) (k - a) 0) ≡ b → t (byte_in text k) ≡ b
    by_place b k l m h = let q : a + (k - a) ≡ k = omega arith in rw (← q) (ap t (sym (part_byte (k - a) (omega arith))) ∙ h)

    pub first_in_part : (n : ℕ) → n < e - a → t (get_or (take (e - a) (drop a text)) n 0) ≡ true → ((k : ℕ) → k < n → t (get_or (take (e - a) (drop a text)) k 0) ≡ false)
        → a + n ≡ first_at (λ i. t (byte_in text i)) a e
    first_in_part n l y none =
        sym (first_at_is (λ i. t (byte_in text i)) a (a + n) e (omega arith) (omega arith) (λ k i j. by_place false k i (omega arith) (none (k - a) (omega arith)))
        (ap t (sym (part_byte n l)) ∙ y))

    pub none_in_part : a ≤ e → ((k : ℕ) → k < e - a → t (get_or (take (e - a) (drop a text)) k 0) ≡ false) → e ≡ first_at (λ i. t (byte_in text i)) a e
    none_in_part h none = sym (first_all (λ i. t (byte_in text i)) a e h (λ k i j. by_place false k i j (none (k - a) (omega arith))))

    pub last_in_part : (n : ℕ) → n < e - a → t (get_or (take (e - a) (drop a text)) n 0) ≡ true → ((k : ℕ) → n + 1 ≤ k → k < e - a → t (get_or (take (e - a) (drop a text)) k 0) ≡ false)
        → a + n + 1 ≡ past_last (λ i. t (byte_in text i)) a e
    last_in_part n l y none =
        let q : a + n + 1 - 1 ≡ a + n = omega arith in
        sym (last_at (λ i. t (byte_in text i)) a (a + n + 1) e (omega arith) (omega arith) (rw q (ap t (sym (part_byte n l)) ∙ y))
        (λ k i j. by_place false k (omega arith) j (none (k - a) (omega arith) (omega arith))))

    pub none_last : a ≤ e → ((k : ℕ) → k < e - a → t (get_or (take (e - a) (drop a text)) k 0) ≡ false) → a ≡ past_last (λ i. t (byte_in text i)) a e
    none_last h none = go (dec_lt a (past_last u a e))
      where
        u : ℕ → Bool
        u i = t (byte_in text i)

        go : Dec (a < past_last u a e) → a ≡ past_last u a e
        go (yes l) =
            let b = last_bounds u a e h in
            let k = past_last u a e - 1 in
            absurd (true≢false (sym (last_hit u a e l) ∙ by_place false k (omega arith) (omega arith) (none (k - a) (omega arith))))
        go (no l) = let b = last_bounds u a e h in omega arith
