-- The first that is found free is the first of all. Assumes nothing.
use Rattle.listing.proofs.Masks.{unseen_found}
use Rattle.listing.proofs.next_free.Goals as goal

pub returns-then-blockers-i-eq0 : goal.returns-then-blockers-i-eq0
returns-then-blockers-i-eq0 c = unseen_found c.loop-i.invariant c.in-Some.ensures.steps c.if-blockers-i-eq0.true
