-- The program is its part of the image, and its slot is lent to the run and put back where it was. Assumes nothing.
use native.Mathlib.Omega.{arith}
use Rattle.image.proofs.Laws.{accepted, lies}
use Rattle.steps.proofs.Slots.{runs_into}
use Rattle.steps.proofs.run_into.Goals as goal

pub part_of-part-requires : goal.part_of-part-requires
part_of-part-requires c = (lies _ (accepted _ c.requires.0.accepted).offsets _ c.requires.1, omega (arith, c.requires.0.programs, c.requires.1))

pub returns : goal.returns
returns c = runs_into _ _ _ _ _ _ _ _ _ c.slot_start-at.ensures c.part_of-part.ensures.bytes_are c.run_program.ensures
