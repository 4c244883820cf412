-- Each contract allows one outcome only: whatever two results, with the words left behind, meet an operation's contract on the same input, they are
-- the same. On all inputs: refused calls, jobs that no call handed back, other records and other words.
use mathlib.Core.Path.{◌≡◌, sym, ◌∙◌}
use mathlib.Core.Bool.{Bool}
use mathlib.Core.List.{List}
use Prim.Native.Nat.{ℕ}
use Rattle.index.specs.declared.Job.{Job}
use Rattle.index.specs.declared.Handed.{Handed}
use Rattle.index.specs.declared.Asked.{Asked}
use Rattle.index.specs.Outcomes.{Gives, OpenGives, AskGives, ScanGives, SettleGives, LevelGives, CloseGives}

same : {A : Type 0} {x a b : A} → a ≡ x → b ≡ x → a ≡ b
same e f = e ∙ sym f

both : {h r q : Handed} {l a b : List ℕ} → Gives h l r a → Gives h l q b → (r ≡ q) × (a ≡ b)
both x y = (same x.hands y.hands, same x.leaves y.leaves)

pub open_one : (text words : List ℕ) (levels : ℕ) (cuts : List ℕ) (r q : Handed) → OpenGives text words levels cuts r → OpenGives text words levels cuts q → r ≡ q
open_one text words levels cuts r q = same

pub ask_one : (j : Job) (k : ℕ) (r q : Asked) → AskGives j k r → AskGives j k q → r ≡ q
ask_one j k r q = same

module _ (j : Job) (text words : List ℕ) (r q : Handed) (a b : List ℕ) where
  pub scan_one : (k : ℕ) (g : Bool) → ScanGives j text words k g r a → ScanGives j text words k g q b → (r ≡ q) × (a ≡ b)
  scan_one k g = both

  pub settle_one : (k : ℕ) → SettleGives j text words k r a → SettleGives j text words k q b → (r ≡ q) × (a ≡ b)
  settle_one k = both

  pub level_one : (k : ℕ) → LevelGives j text words k r a → LevelGives j text words k q b → (r ≡ q) × (a ≡ b)
  level_one k = both

  pub close_one : CloseGives j text words r a → CloseGives j text words q b → (r ≡ q) × (a ≡ b)
  close_one = both
