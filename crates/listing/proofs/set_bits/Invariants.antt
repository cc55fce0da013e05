-- The loop's invariant: the bits are set for the cells passed. Assumes nothing.
use mathlib.Core.Path.{◌≡◌}
use lib.ListN.{take}
use Rattle.listing.specs.Readers.{with_bits}
use Rattle.listing.proofs.set_bits.Given as goal

abbrev pub invariant-loop-cell : goal.invariant-loop-cell
invariant-loop-cell l = l.readers ≡ with_bits l.bit (take l.cell-index l.cells) l.initial.readers
