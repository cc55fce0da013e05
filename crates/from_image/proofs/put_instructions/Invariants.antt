-- The loop's invariant: the lines of the instructions below i stand there. Assumes nothing.
use Rattle.text.specs.Filled.{texts}
use Rattle.text.specs.Paper.{Put}
use Rattle.from_image.proofs.Sheets.{instruction_text}
use Rattle.from_image.proofs.put_instructions.Given as goal

abbrev pub invariant-loop-i : goal.invariant-loop-i
invariant-loop-i l = Put l.initial.page (texts (instruction_text l.program) l.i) l.page
