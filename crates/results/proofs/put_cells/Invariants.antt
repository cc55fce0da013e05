-- The lines of the cells below this one are put. Assumes nothing.
use Rattle.text.specs.Filled.{texts}
use Rattle.text.specs.Paper.{Put}
use Rattle.results.specs.Listing.{cell_line}
use Rattle.results.proofs.put_cells.Given as goal

abbrev pub invariant-loop-cell : goal.invariant-loop-cell
invariant-loop-cell l = Put l.fn.page (texts (cell_line l.table) l.cell) l.page
