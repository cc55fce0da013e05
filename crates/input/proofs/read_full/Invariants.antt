-- What has come stays within what is lent; the measure is the room that is left, which falls at each turn that goes on. Assumes nothing.
use Rattle.std.proofs.Common.{◌-◌, ◌≤◌, length}
use Rattle.input.proofs.read_full.Given as goal

abbrev pub invariant-loop-there : goal.invariant-loop-there
invariant-loop-there g l = l.there ≤ length l.room

abbrev pub decreases-loop-there : goal.decreases-loop-there
decreases-loop-there g l = length l.room - l.there
