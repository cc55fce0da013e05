-- The loop's invariant: the group's bits are in the entries of the programs that are not in the rest. Assumes nothing.
use Rattle.listing.proofs.Readers.{adding_next, adding_end}
use Rattle.listing.proofs.add_blockers.Goals as goal

pub loop-i-preserved : goal.loop-i-preserved
loop-i-preserved c = adding_next c.loop-i.invariant c.in-Some.ensures.steps c.readers_of.ensures c.raised.ensures

pub returns : goal.returns
returns c = adding_end c.loop-i.invariant c.in-None.ensures.steps
