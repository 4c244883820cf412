-- Cases of the crate's own enums, for theorems of other crates, which cannot name their constructors in a pattern.
use Rattle.std.specs.Prelude.{Option, Some, None}
use Rattle.index.specs.declared.Fault.{Fault}
use Rattle.index.specs.declared.State.{State}
use Rattle.index.specs.declared.State.TheVariants.{Open, Stopped, Closed}

pub found_case : (P : Option Fault → Type 0) → P None → ((f : Fault) → P (Some f)) → (x : Option Fault) → P x
found_case P n h None = n
found_case P n h (Some f) = h f

pub state_case : (P : State → Type 0) → P Open → ((f : Fault) → P (Stopped f)) → P Closed → (s : State) → P s
state_case P o s c Open = o
state_case P o s c (Stopped f) = s f
state_case P o s c Closed = c
