-- How a worked case writes an area down: the write marks, the read marks, and a slot for each program, by its state, detail, read cells, stored cells
-- and stored values. Assumes nothing.
use Rattle.std.specs.Prelude.{ℕ, List, ◌++◌}
use Rattle.image.specs.Assembler.{joined}
use Rattle.slot.specs.Log.{layout}

abbrev pub slot : (state detail : ℕ) → (reads cells values : List ℕ) → List ℕ
slot state detail reads cells values = layout state detail (record { reads = reads; cells = cells; values = values })

abbrev pub area : (writes reads : List ℕ) → (slots : List (List ℕ)) → List ℕ
area writes reads slots = writes ++ (reads ++ joined slots)
