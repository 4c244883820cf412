-- `block` meets its contract: a byte's code is of the byte's classes; behind the end, the block is that of the padded bytes.
use Rattle.std.proofs.Common.{◌≡◌, ℕ, ◌+◌, ◌<◌, Bool, List, get_or, ap, ◌∙◌, subst, zero-add, arith}
use mathlib.Core.Path.{fun_ext}
use Rattle.rules.specs.Bytes.{Class, has}
use Rattle.blocks.specs.Coding.{Code, coded, code_of, TableOf}
use Rattle.blocks.specs.Block.{Codes, BlockOf}
use Rattle.blocks.specs.declared.block.Classes.{Classes}
use Rattle.blocks.proofs.block.block.Goals as goal

abbrev code_at : List ℕ → List ℕ → ℕ → ℕ → Code
code_at t text at j = code_of (get_or t (get_or text (at + j) 0) 0)

module _ {t : List ℕ} (text : List ℕ) (at : ℕ) (small : (i : ℕ) → get_or text i 0 < 256) (table : TableOf t) where
  has_codes : Codes t text at 64 (code_at t text at)
  has_codes j l = table.codes (get_or text (at + j) 0) (small (at + j))

  of_bytes : {r : Classes} → BlockOf (λ c j. coded c (code_at t text at j)) r → BlockOf (λ c j. has c text (at + j)) r
  unfolding has
  of_bytes {r} = subst (λ (p : Class → ℕ → Bool). BlockOf p r) (fun_ext (λ c. fun_ext (λ j. table.classes_are (get_or text (at + j) 0) (small (at + j)) c)))

pub returns-then-text-at-ge64 : goal.returns-then-text-at-ge64
returns-then-text-at-ge64 c = λ table.
    let a = c.args in
    let small : (i : ℕ) → get_or a.text.now i 0 < 256 = λ i. omega (arith, c.type_inv.text i) in
    of_bytes a.text.now a.at small table (c.sorted.ensures _ (c.full_block.ensures _ (has_codes a.text.now a.at small table)))

pub returns : goal.returns
returns c = λ table.
    let a = c.args in
    let small : (i : ℕ) → get_or a.text.now i 0 < 256 = λ i. omega (arith, c.type_inv.text i) in
    let p = c.padded in
    let same : (j : ℕ) → get_or p.result (0 + j) 0 ≡ get_or a.text.now (a.at + j) 0 = λ j. ap (λ (i : ℕ). get_or p.result i 0) (zero-add j) ∙ p.ensures j in
    of_bytes a.text.now a.at small table
    (c.sorted-2.ensures _ (c.full_block-2.ensures _ (λ j l. ap (λ (b : ℕ). get_or a.t.now b 0) (same j) ∙ has_codes a.text.now a.at small table j l)))
