-- The bytes of the programs below i that the mask has are put. Assumes nothing.
use native.Mathlib.Omega.{arith}
use Rattle.base.specs.Masks.{has_bit}
use Rattle.writer.proofs.Programs.{body_room}
use Rattle.writer.proofs.put_bodies.Goals as goal

pub bytes-requires : goal.bytes-requires
bytes-requires c = rw c.taken_part.ensures (body_room (has_bit _) _ (omega arith) c.loop-i.invariant.1 c.requires.1)
