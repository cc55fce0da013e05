-- The loop's invariant: the lines of the programs below k stand there. Assumes nothing.
use Rattle.text.specs.Filled.{texts}
use Rattle.text.specs.Paper.{Put}
use Rattle.from_image.proofs.Sheets.{program_text}
use Rattle.from_image.proofs.put_programs.Given as goal

abbrev pub invariant-loop-k : goal.invariant-loop-k
invariant-loop-k l = Put l.initial.page (texts (program_text l.image) l.k) l.page
