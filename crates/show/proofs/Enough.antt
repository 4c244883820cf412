-- How much of an input has to be read: its first 17,410 bytes tell its line. The path ends among the first 1,025, or 21 is told; and
-- what is then left of them is a record above the limit.
use Prim.Native.Nat.{ℕ, ◌+◌, ◌≤◌, ◌<◌}
use mathlib.Core.Path.{◌≡◌, refl, sym, ap, ◌∙◌}
use mathlib.Core.Bool.{Bool, true, false}
use mathlib.Core.List.{List}
use native.Mathlib.Omega.{arith}
use lib.ListN.{length, take, length-drop}
use lib.Seq.{length-take-le, take_all, get_or-take}
use lib.Dec.{eqb, ltb}
use borrow.Author.Tests.{ltb-true, ltb-false}
use Rattle.paths.proofs.PlaceLaws.{first_ge, first_hit, first_miss, first_skip, first_at_is}
use Rattle.show.specs.Printing.{is_feed, path_end, shown}
use Rattle.show.proofs.Inputs.{long_path, long_record}

module _ (input : List ℕ) (m : ℕ) (enough : 17410 ≤ m) (more : m < length input) where
  long : length (take m input) ≡ m
  long = length-take-le m input (omega (arith, more))

  same_byte : (k : ℕ) → k < m → is_feed (take m input) k ≡ is_feed input k
  same_byte k l = ap (λ (b : ℕ). eqb b 10) (get_or-take m input k 0 l)

  far : 1024 < path_end input → shown (take m input) ≡ shown input
  unfolding path_end
  far l =
      let t = is_feed (take m input) in
      let none : (k : ℕ) → 0 ≤ k → k < 1025 → t k ≡ false =
      λ k a b. same_byte k (omega (arith, enough, b)) ∙ first_miss (is_feed input) 0 (length input) (omega arith) k a (omega (arith, b, l)) in
      let skipped = first_skip t 0 1025 (length (take m input)) (omega arith) (omega (arith, long, enough)) none in
      let there = first_ge t 1025 (length (take m input)) (omega (arith, long, enough)) in
      sym (long_path (take m input) (path_end (take m input)) refl (omega (arith, skipped, there))) ∙ long_path input (path_end input) refl l

  near : path_end input ≤ 1024 → shown (take m input) ≡ shown input
  unfolding path_end
  near l =
      let e = path_end input in
      let hit = first_hit (is_feed input) 0 (length input) (omega arith) (omega (arith, l, enough, more)) in
      let here = first_at_is (is_feed (take m input)) 0 e (length (take m input)) (omega arith) (omega (arith, long, l, enough))
      (λ k a b. same_byte k (omega (arith, enough, b, l)) ∙ first_miss (is_feed input) 0 (length input) (omega arith) k a b)
      (same_byte e (omega (arith, l, enough)) ∙ hit) in
      sym (long_record (take m input) e (sym here) l (omega (arith, length-drop (e + 1) (take m input), long, enough, l)))
      ∙ long_record input e refl l (omega (arith, length-drop (e + 1) input, enough, more, l))

  both_ways : (b : Bool) → ltb 1024 (path_end input) ≡ b → shown (take m input) ≡ shown input
  both_ways true e = far (ltb-true 1024 (path_end input) e)
  both_ways false e = near (ltb-false 1024 (path_end input) e)

pub first_bytes_tell : (input : List ℕ) (m : ℕ) → 17410 ≤ m → shown (take m input) ≡ shown input
first_bytes_tell input m enough = go (ltb m (length input)) refl
  where
    go : (b : Bool) → ltb m (length input) ≡ b → shown (take m input) ≡ shown input
    go true e = both_ways input m enough (ltb-true m (length input) e) (ltb 1024 (path_end input)) refl
    go false e = ap shown (take_all m input (ltb-false m (length input) e))
