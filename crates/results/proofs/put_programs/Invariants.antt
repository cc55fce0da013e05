-- The lines of the programs below k are put. Assumes nothing.
use Rattle.text.specs.Paper.{Put}
use Rattle.results.specs.Listing.{program_lines}
use Rattle.results.proofs.put_programs.Given as goal

abbrev pub invariant-loop-k : goal.invariant-loop-k
invariant-loop-k l = Put l.fn.page (program_lines l.cells l.k l.area) l.page
