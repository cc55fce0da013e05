-- What is said of the programs below k is put. Assumes nothing.
use Rattle.text.specs.Filled.{texts}
use Rattle.text.specs.Paper.{Put}
use Rattle.reasons.specs.Reasons.{program_of}
use Rattle.reasons.proofs.put_reasons.Given as goal

abbrev pub invariant-loop-k : goal.invariant-loop-k
invariant-loop-k l = Put l.fn.page (texts (program_of l.opening l.batch) l.k) l.page
