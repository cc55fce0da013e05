-- The entries up to this place are put. Assumes nothing.
use Rattle.text.specs.Filled.{texts}
use Rattle.text.specs.Paper.{Put}
use Rattle.results.specs.Listing.{order_entry}
use Rattle.results.proofs.put_entries.Given as goal

abbrev pub invariant-loop-program : goal.invariant-loop-program
invariant-loop-program l = Put l.fn.page (texts (order_entry l.order) l.program-index) l.page
