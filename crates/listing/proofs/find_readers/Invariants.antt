-- The loop's invariant: the bits are those of the programs from start up to the number. Assumes nothing.
use Rattle.listing.specs.Readers.{committed_reads, ReadersOf}
use Rattle.listing.proofs.find_readers.Given as goal

abbrev pub invariant-loop-number : goal.invariant-loop-number
invariant-loop-number l = ReadersOf (committed_reads l.cells l.area) l.start l.number l.readers
