-- The definitions tried: bytes as calls, and lists of bytes that leave a step out or none.
use Prim.Native.Nat.{ℕ}
use mathlib.Core.Path.{◌≡◌, refl}
use mathlib.Core.Bool.{Bool, true, false, ◌&&◌, not}
use mathlib.Core.List.{List, [], ◌∷◌}
use Rattle.rules.specs.Word.{pick}
use Rattle.index.specs.Closing.{every}
use Rattle.runs.specs.Runs.{scan, settle, level}
use Rattle.runs.specs.Whole.{no_steps, tally}
use Rattle.whole.specs.Calls.{call_of, calls_of}

pub bytes_rows : calls_of (0 ∷ 1 ∷ 2 ∷ 3 ∷ 4 ∷ 9 ∷ 254 ∷ 255 ∷ [])
    ≡ scan 0 false ∷ scan 0 true ∷ settle 0 ∷ level 0 ∷ scan 1 false ∷ scan 2 true ∷ settle 63 ∷ level 63 ∷ []
unfolding calls_of call_of
bytes_rows = refl

-- so many chunks, calls as bytes, and whether they leave no step out
pub record Row : Type 0 where
  pub chunks : ℕ
  pub calls : List ℕ
  pub complete : Bool

pub row : ℕ → List ℕ → Bool → Row
row chunks calls complete = record { chunks = chunks; calls = calls; complete = complete }

pub right : Row → Bool
unfolding every tally calls_of call_of
right r = let all = every (λ k. (tally (calls_of r.calls) no_steps).levelled k) r.chunks in pick r.complete all (not all)

pub each_right : List Row → Bool
each_right [] = true
each_right (r ∷ rs) = right r && each_right rs

-- one chunk: in time; a guess makes no difference; settle and level too early; again in time; a step twice; nothing. Two chunks: both orders of the
-- scans; settle of the second before that of the first; again behind it; the second forgotten
pub rows : List Row
rows =
    row 1 (0 ∷ 2 ∷ 3 ∷ []) true
    ∷ row 1 (1 ∷ 2 ∷ 3 ∷ []) true
    ∷ row 1 (2 ∷ 0 ∷ 3 ∷ []) false
    ∷ row 1 (0 ∷ 3 ∷ 2 ∷ []) false
    ∷ row 1 (2 ∷ 0 ∷ 3 ∷ 2 ∷ 3 ∷ []) true
    ∷ row 1 (0 ∷ 1 ∷ 2 ∷ 2 ∷ 3 ∷ 3 ∷ []) true
    ∷ row 1 [] false
    ∷ row 2 (0 ∷ 4 ∷ 2 ∷ 6 ∷ 3 ∷ 7 ∷ []) true
    ∷ row 2 (5 ∷ 0 ∷ 2 ∷ 3 ∷ 6 ∷ 7 ∷ []) true
    ∷ row 2 (0 ∷ 4 ∷ 6 ∷ 2 ∷ 7 ∷ 3 ∷ []) false
    ∷ row 2 (0 ∷ 4 ∷ 6 ∷ 2 ∷ 6 ∷ 7 ∷ 3 ∷ []) true
    ∷ row 2 (0 ∷ 2 ∷ 3 ∷ []) false
    ∷ []

pub tally_rows : each_right rows ≡ true
unfolding right each_right rows row every tally calls_of call_of
tally_rows = refl
