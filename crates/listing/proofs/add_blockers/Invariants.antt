-- The loop's invariant: the group's bits are in the entries of the programs that are not in the rest. Assumes nothing.
use Rattle.listing.proofs.Readers.{Adding}
use Rattle.listing.proofs.add_blockers.Given as goal

abbrev pub invariant-loop-i : goal.invariant-loop-i
invariant-loop-i l = Adding l.cells l.set l.start l.area l.readers l.initial.blockers l.i-iterator.0 l.blockers
