-- The loop's invariant: none that is not in the rest is free. Assumes nothing.
use Rattle.listing.proofs.Masks.{Unseen}
use Rattle.listing.proofs.next_free.Given as goal

abbrev pub invariant-loop-i : goal.invariant-loop-i
invariant-loop-i l = Unseen l.blockers l.left l.i-iterator.0
