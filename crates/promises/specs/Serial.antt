-- "Running the committed programs one after another from the opening table, in the listed order", "with the same guards". Assumes nothing.
use Rattle.std.specs.Prelude.{ℕ, List, [], ◌∷◌}
use Rattle.machine.specs.Runs.{Outcome, kept_by}
use Rattle.area.specs.Marks.{store_all}
use Rattle.steps.specs.Gathering.{run_at}

-- the table after a run's stores
abbrev pub stores_on : Outcome → List ℕ → List ℕ
stores_on o t = store_all (kept_by o).cells (kept_by o).values t

-- the last table
unfoldable pub serial_table : (image g : List ℕ) → List ℕ → List ℕ → List ℕ
serial_table image g [] t = t
serial_table image g (k ∷ ks) t = serial_table image g ks (stores_on (run_at image t g k) t)

-- each program's run, on the table that those before it have left
unfoldable pub serial_runs : (image g : List ℕ) → List ℕ → List ℕ → List Outcome
serial_runs image g [] t = []
serial_runs image g (k ∷ ks) t = run_at image t g k ∷ serial_runs image g ks (stores_on (run_at image t g k) t)
