-- The ends of the programs below i that the mask has are put. Assumes nothing.
use native.Mathlib.Omega.{arith}
use Rattle.base.specs.Masks.{has_bit}
use Rattle.writer.proofs.Programs.{end_room}
use Rattle.writer.proofs.put_ends.Goals as goal

pub put_end-end-requires : goal.put_end-end-requires
put_end-end-requires c = (c.requires.0, omega arith, end_room (has_bit _) _ (omega arith) c.loop-i.invariant.1 c.requires.1)
