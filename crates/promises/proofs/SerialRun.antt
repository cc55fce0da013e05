-- The serial run: the programs that commit do what they would have done one after another, "with the same guards" (document 02, ask 5).
-- Assumes nothing.
use Prim.Native.Nat.{ℕ}
use mathlib.Core.Path.{◌≡◌, sym, ◌∙◌}
use mathlib.Core.List.{List, map}
use lib.ListN.{length}
use Rattle.image.specs.Image.{count_of}
use Rattle.steps.specs.Gathering.{run_at}
use Rattle.listing.specs.Listing.{order_of}
use Rattle.promises.specs.Laid.{World}
use Rattle.promises.specs.History.{RunToEnd}
use Rattle.promises.specs.Serial.{serial_runs, serial_table}
use Rattle.promises.proofs.AtEnd.{paper_ends, end_order}
use Rattle.promises.proofs.Replay.{serial_runs_lem, serial_table_lem}

-- Demand 3: "Running the committed programs one after another from the opening table, in the listed order, each one loads the same values, takes the
-- same path and stores the same, and the last table is the end table." An outcome has answer, reads, stores, path and loaded values.
pub serial_run : (image t g : List ℕ) (w : World) → RunToEnd image t g w
    → (let l = order_of (length t) (count_of image) w.area in
    (serial_runs image g l t ≡ map (run_at image t g) l) × (serial_table image g l t ≡ w.table))
serial_run image t g w run =
    let end = paper_ends run in
    rw (end_order end) (serial_runs_lem image t g, serial_table_lem image t g ∙ sym end.table_is)
