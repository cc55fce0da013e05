-- The loop's invariant: the programs below start are in the entries. Assumes nothing.
use Prim.Native.Nat.{min}
use Rattle.listing.specs.Readers.{Blockers}
use Rattle.listing.proofs.fill_blockers.Given as goal

abbrev pub invariant-loop-start : goal.invariant-loop-start
invariant-loop-start l = Blockers l.cells l.set (min l.start l.n) l.area l.blockers
