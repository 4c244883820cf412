-- What a step on an accepted chunk may rely on, whatever the job.
use Rattle.std.specs.Prelude.{ℕ, ◌≤◌, ◌≡◌}
use Rattle.rules.specs.Layout.{size_of}
use Rattle.index.specs.declared.Job.{Job}

-- record and buffer are as long as the job's
pub record Fitting (j : Job) (n w : ℕ) : Type 0 where
  pub short : n ≤ 16777216
  pub few : j.levels ≤ 16
  pub total : w ≡ size_of j.levels n
