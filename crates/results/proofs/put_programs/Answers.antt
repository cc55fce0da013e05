-- Behind the lines of the programs below k there is room for that of program k. Assumes nothing.
use native.Mathlib.Omega.{arith}
use Rattle.text.proofs.Pages.{text_room}
use Rattle.area.proofs.Checks.{measured_lies}
use Rattle.results.specs.Listing.{program_line}
use Rattle.results.proofs.put_programs.Goals as goal

pub put_program-requires : goal.put_program-requires
put_program-requires c = (measured_lies _ _ _ c.requires.0 _ (omega arith), text_room (program_line _ _) (omega arith) c.loop-k.invariant c.requires.1)
