-- The programs of the group have slots, and nothing is marked before the first. Assumes nothing.
use native.Mathlib.Omega.{arith}
use Rattle.listing.proofs.Readers.{readers_start}
use Rattle.listing.proofs.find_readers.Goals as goal

pub loop-number-init : goal.loop-number-init
loop-number-init c = rw c.requires.2 (readers_start _ _)

pub add_reader-requires : goal.add_reader-requires
add_reader-requires c = (c.requires.0.slotted _ (omega arith), omega (arith, c.requires.1.small))
