-- A query's checks of its path, as the code tells them, and then its walk. By cases on the tests.
use Prim.Native.Nat.{ℕ, ◌≤◌}
use mathlib.Core.Path.{◌≡◌, refl, sym, ap, ◌∙◌}
use mathlib.Core.Bool.{Bool, true, false}
use mathlib.Core.List.{List}
use lib.Dec.{ltb}
use lib.ListN.{length}
use borrow.Author.Tests.{eq-eqb, ne_eqb, le-ltb, le-leb}
use Rattle.rules.specs.Word.{pick}
use Rattle.rules.specs.Layout.{width_of, size_of}
use Rattle.paths.specs.Grammar.{Selector}
use Rattle.paths.specs.Path.{Reading, good, bad, read_path, large}
use Rattle.paths.specs.Helpers.{checked_reading, path_check}
use Rattle.query.specs.Item as Items
use Rattle.query.specs.Items.{lent, trim_start, trim_end, value_at}
use Rattle.query.specs.Walk.{of_item, walk}
use Rattle.query.specs.declared.types.Cause.TheVariants.{EmptyValue}
use Rattle.query.specs.Answers.{after_reading, answer_of}
use Rattle.paths.specs.declared.PathRefusal.{PathRefusal}
use Rattle.paths.specs.declared.PathRefusal.TheVariants as Checks
use Rattle.std.proofs.Common.{Result, Ok, Err}
use Rattle.query.specs.Helpers.{path_refusal}
use Rattle.query.specs.declared.types.Refusal.TheVariants.{BadPath, TooLarge, TooDeep, Broken}
use Rattle.query.specs.Answer.{Answer, Refused}
use Rattle.paths.proofs.Checking.{fits_fine}
use Rattle.paths.proofs.PlaceLaws.{pick_ind}

-- a value that is not found is empty
pub value_empty : (byte : ℕ → ℕ) (a e : ℕ) → ((p q : ℕ) → value_at byte 0 a e ≡ Items.Found p q → ⊥)
    → of_item (Broken EmptyValue 0 0) 0 (value_at byte 0 a e) ≡ Refused (Broken EmptyValue 0 0)
unfolding value_at
value_empty byte a e =
    pick_ind (λ (it : Items.Item). ((p q : ℕ) → it ≡ Items.Found p q → ⊥) → of_item (Broken EmptyValue 0 0) 0 it ≡ Refused (Broken EmptyValue 0 0)) (ltb (trim_start byte a e) (trim_end byte a e)) _ _
    (λ _ h. absurd (h _ _ refl)) (λ _ h. refl)

-- what a check answers; a path that is fine is walked
abbrev pub on_check : Result (Unit {0}) PathRefusal → Answer → Answer
on_check (Ok u) walked = walked
on_check (Err why) walked = Refused (path_refusal why)

module _ (text words : List ℕ) (levels : ℕ) (path : List ℕ) where
  abbrev pub walk_read : Reading → Answer
  walk_read (good ss) = walk text (lent words levels (width_of (length text))) ss
  walk_read (bad p) = Refused (BadPath p)

  pub by_check : {k : Result (Unit {0}) PathRefusal} → k ≡ path_check path levels
      → pick (ltb 1024 (length path)) (Refused TooLarge) (after_reading text words levels (read_path path)) ≡ on_check k (walk_read (read_path path))
  unfolding path_check
  by_check e = rw e (go (ltb 1024 (length path)) (read_path path))
    where
      deep : (b c : Bool) (w : Answer) → pick b (Refused TooLarge) (pick c (Refused TooDeep) w) ≡ on_check (pick b (Err Checks.TooLarge) (pick c (Err Checks.TooDeep) (Ok tt))) w
      deep true c w = refl
      deep false true w = refl
      deep false false w = refl

      go : (b : Bool) (r : Reading) → pick b (Refused TooLarge) (after_reading text words levels r) ≡ on_check (pick b (Err Checks.TooLarge) (checked_reading levels r)) (walk_read r)
      go true r = refl
      go false (bad p) = refl
      go false (good ss) = deep (large ss) (ltb levels (length ss)) (walk_read (good ss))

  -- what the walk of every reading answers is the answer of a path that is fine
  pub by_walk : {r : Answer} {width : ℕ} → width ≡ width_of (length text) → path_check path levels ≡ Ok tt → ((ss : List Selector) → read_path path ≡ good ss → r ≡ walk text (lent words levels width) ss) → r ≡ walk_read (read_path path)
  by_walk e h w = let f = fits_fine path levels h in
      w f.selectors f.reads ∙ ap (λ (x : ℕ). walk text (lent words levels x) f.selectors) e ∙ ap walk_read (sym f.reads)

-- past 1 to 4 the answer is the check's
pub passed : (text words : List ℕ) (levels : ℕ) (path : List ℕ) → (length text ≡ 0 → ⊥) → length text ≤ 16777216 → 1 ≤ levels → levels ≤ 16 → length words ≡ size_of levels (length text)
    → answer_of text words levels path ≡ on_check (path_check path levels) (walk_read text words levels path (read_path path))
unfolding answer_of
passed text words levels path some few low high long =
    rw (ne_eqb _ _ some, le-ltb _ _ few, le-leb 1 levels low, le-leb levels 16 high, eq-eqb _ _ long) (by_check text words levels path refl)
