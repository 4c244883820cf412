-- What the contracts of private functions cite: the code's own way to tell a step and a path's check.
use Rattle.std.specs.Prelude.{ℕ, min, Bool, List, length, ltb, Option, Some, None, Result, Ok, Err}
use Rattle.rules.specs.Word.{pick}
use Rattle.paths.specs.Path.{StepAt, Reading, good, bad, read_path, large}
use Rattle.paths.specs.declared.BadPath.{BadPath}
use Rattle.paths.specs.declared.PathStep.{PathStep}
use Rattle.paths.specs.declared.PathStep.TheVariants.{Name, Number}
use Rattle.paths.specs.declared.PathRefusal.{PathRefusal}
use Rattle.paths.specs.declared.PathRefusal.TheVariants.{Bad, TooLarge, TooDeep}

-- a step as the code holds it: a number above 16,777,215 as 16,777,216
unfoldable pub told : StepAt → Result (Option PathStep) BadPath
told (StepAt.Name b f x) = Ok (Some (Name b f x))
told (StepAt.Number v x) = Ok (Some (Number (min v 16777216) x))
told StepAt.End = Ok None
told (StepAt.Refused p) = Err (record { place = p })

-- what is read where the path has not ended
abbrev pub some_step : Result PathStep BadPath → Result (Option PathStep) BadPath
some_step (Ok s) = Ok (Some s)
some_step (Err e) = Err e

-- "path length (21), 20, number size (21), 22"

abbrev pub limits_of : Bool → ℕ → ℕ → Result (Unit {0}) PathRefusal
limits_of big count levels = pick big (Err TooLarge) (pick (ltb levels count) (Err TooDeep) (Ok tt))

abbrev pub checked_reading : ℕ → Reading → Result (Unit {0}) PathRefusal
checked_reading levels (good ss) = limits_of (large ss) (length ss) levels
checked_reading levels (bad p) = Err (Bad p)

unfoldable pub path_check : List ℕ → ℕ → Result (Unit {0}) PathRefusal
unfolding read_path large
path_check path levels = pick (ltb 1024 (length path)) (Err TooLarge) (checked_reading levels (read_path path))
