-- What an answer says: the scope's number, and the value beside it.
use Rattle.std.specs.Prelude.{ℕ, Bool, List, [], ◌∷◌, Option, Some, None, Result, Ok, Err}
use Rattle.rules.specs.Word.{pick}
use Rattle.index.specs.declared.Fault.{Fault}
use Rattle.index.specs.declared.Fault.TheVariants.{Closer, Opener, InString, InBracket}
use Rattle.index.specs.declared.Refusal.{Refusal}
use Rattle.index.specs.declared.Refusal.TheVariants.{Empty, TooLong, BadLevels, BadBuffer, ManyCuts, BadCut, IsClosed, IsStopped, OtherLength, NoChunk, Taken, Early}
use Rattle.index.specs.declared.Answer.{Answer}
use Rattle.index.specs.declared.Answer.TheVariants.{Done, Refused, Faulty}
use Rattle.index.specs.declared.Steps.{Steps}
use Rattle.index.specs.declared.Asked.{Asked}

abbrev pub fault_number : Fault → ℕ
fault_number (Closer p) = 13
fault_number (Opener p) = 14
fault_number (InString p) = 15
fault_number (InBracket p) = 16

abbrev pub fault_place : Fault → ℕ
fault_place (Closer p) = p
fault_place (Opener p) = p
fault_place (InString p) = p
fault_place (InBracket p) = p

abbrev pub refusal_number : Refusal → ℕ
refusal_number Empty = 1
refusal_number TooLong = 2
refusal_number BadLevels = 3
refusal_number BadBuffer = 4
refusal_number ManyCuts = 5
refusal_number (BadCut i) = 6
refusal_number IsClosed = 7
refusal_number IsStopped = 8
refusal_number OtherLength = 9
refusal_number NoChunk = 10
refusal_number Taken = 11
refusal_number Early = 12

-- 6 gives "number of the first such cut, from 0"; no other refusal gives a value
abbrev pub refusal_place : Refusal → ℕ
refusal_place Empty = 0
refusal_place TooLong = 0
refusal_place BadLevels = 0
refusal_place BadBuffer = 0
refusal_place ManyCuts = 0
refusal_place (BadCut i) = i
refusal_place IsClosed = 0
refusal_place IsStopped = 0
refusal_place OtherLength = 0
refusal_place NoChunk = 0
refusal_place Taken = 0
refusal_place Early = 0

abbrev pub number_of : Answer → ℕ
number_of Done = 0
number_of (Refused r) = refusal_number r
number_of (Faulty f) = fault_number f

abbrev pub place_of : Answer → ℕ
place_of Done = 0
place_of (Refused r) = refusal_place r
place_of (Faulty f) = fault_place f

abbrev had_number : Option Steps → ℕ
had_number None = 10
had_number (Some steps) = 0

-- "or 10"
abbrev pub asked_number : Asked → ℕ
asked_number a = had_number a.had

-- a condition, and the refusal that it calls for
abbrev pub Check : Type 0
Check = Bool × Refusal

-- "in that order": the refusal of the first condition that holds, else the answer
abbrev pub checked : List Check → Answer → Answer
checked [] a = a
checked (c ∷ later) a = pick c.0 (Refused c.1) (checked later a)

-- the answer that a check's result comes to
abbrev pub answered : Result (Unit {0}) Refusal → Answer
answered (Ok done) = Done
answered (Err why) = Refused why

-- what an accepted call gives, else what a refused one leaves
abbrev pub on_done : {A : Type 0} → Answer → A → A → A
on_done Done done other = done
on_done (Refused r) done other = other
on_done (Faulty f) done other = other
