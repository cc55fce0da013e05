-- The two kinds of arguments: the cells of a table, for the program `cells`, and the ends between which each of them must stay, for the program `guards`.
-- Assumes nothing.
use Rattle.std.specs.Prelude.{ℕ, ◌*◌}
use Rattle.image.specs.Limits.{max_cells}
use Rattle.guard.specs.Signed.{highest}
use Rattle.guard.specs.Guards.{guard_words}
use Rattle.arguments.specs.declared.Kind.{Kind}
use Rattle.arguments.specs.declared.Kind.TheVariants.{Cells, Ends}

-- how many there are for each cell: document 02, ask 5: "pairs, low then high, cell by cell"
abbrev pub per_cell : Kind → ℕ
per_cell Cells = 1
per_cell Ends = guard_words 1

abbrev pub most_arguments : Kind → ℕ
most_arguments kind = max_cells * per_cell kind

-- document 01, "Sizes": "Cells and registers hold 0 to 4294967295."; an end is "a signed 32-bit number"
abbrev pub largest : Kind → ℕ
largest Cells = 4294967295
largest Ends = highest
