-- Behind the lines of the cells below this one there is room for its line. Assumes nothing.
use native.Mathlib.Omega.{arith}
use Rattle.text.proofs.Pages.{text_room}
use Rattle.results.specs.Listing.{cell_line}
use Rattle.results.proofs.put_cells.Goals as goal

pub filled-requires : goal.filled-requires
unfolding cell_line
filled-requires c = text_room (cell_line _) (omega arith) c.loop-cell.invariant c.requires.1
