-- A call as one number, so that a list of calls is a list of bytes.
use Rattle.std.specs.Prelude.{ℕ, ◌/◌, ◌%◌, true, false, List, [], ◌∷◌, eqb}
use Rattle.rules.specs.Word.{pick}
use Rattle.runs.specs.Runs.{Call, scan, settle, level}
use Rattle.whole.specs.declared.Call.{Call as Told}
use Rattle.whole.specs.declared.Call.TheVariants.{Scan, Settle, Level}

-- four times the chunk, and: 0 scan with the guess 'outside', 1 scan with the guess 'inside', 2 settle, 3 level
unfoldable pub call_of : ℕ → Call
call_of c =
    pick (eqb (c % 4) 0) (scan (c / 4) false)
    (pick (eqb (c % 4) 1) (scan (c / 4) true)
    (pick (eqb (c % 4) 2) (settle (c / 4))
    (level (c / 4))))

unfoldable pub calls_of : List ℕ → List Call
calls_of [] = []
calls_of (c ∷ cs) = call_of c ∷ calls_of cs

-- the code's call, as the runs have it
abbrev pub called : Told → Call
called (Scan chunk inside) = scan chunk inside
called (Settle chunk) = settle chunk
called (Level chunk) = level chunk
