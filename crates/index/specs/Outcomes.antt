-- What the contract of each operation says. (proofs/OutcomeLaws.antt: each allows one outcome only.)
use Rattle.std.specs.Prelude.{ℕ, ◌≡◌, Bool, List, length}
use Rattle.index.specs.declared.Job.{Job}
use Rattle.index.specs.declared.Handed.{Handed}
use Rattle.index.specs.declared.Asked.{Asked}
use Rattle.index.specs.Checks.{asked}
use Rattle.index.specs.Opening.{opened}
use Rattle.index.specs.Scanning.{scanned, scanned_words}
use Rattle.index.specs.Settling.{settled, settled_words}
use Rattle.index.specs.Levelling.{levelled, levelled_words}
use Rattle.index.specs.Closing.{closed, closed_words}

-- r is what is handed back, and `after` are the words that are left
pub record Gives (handed : Handed) (left : List ℕ) (r : Handed) (after : List ℕ) : Type 0 where
  pub hands : r ≡ handed
  pub leaves : after ≡ left

-- opening and asking are lent no word to write
abbrev pub OpenGives : List ℕ → List ℕ → ℕ → List ℕ → Handed → Type 0
OpenGives text words levels cuts r = r ≡ opened (length text) (length words) levels cuts

abbrev pub AskGives : Job → ℕ → Asked → Type 0
AskGives j k r = r ≡ asked j k

abbrev pub ScanGives : Job → List ℕ → List ℕ → ℕ → Bool → Handed → List ℕ → Type 0
ScanGives j text words k g = Gives (scanned j text (length words) k g) (scanned_words j text words k g)

abbrev pub SettleGives : Job → List ℕ → List ℕ → ℕ → Handed → List ℕ → Type 0
SettleGives j text words k = Gives (settled j text words k) (settled_words j text words k)

abbrev pub LevelGives : Job → List ℕ → List ℕ → ℕ → Handed → List ℕ → Type 0
LevelGives j text words k = Gives (levelled j (length text) (length words) k) (levelled_words j text words k)

abbrev pub CloseGives : Job → List ℕ → List ℕ → Handed → List ℕ → Type 0
CloseGives j text words = Gives (closed j (length text) (length words)) (closed_words j (length text) words)
