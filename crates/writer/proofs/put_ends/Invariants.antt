-- The ends of the programs below i that the mask has are put. Assumes nothing.
use Prim.Native.Nat.{◌≤◌}
use Rattle.base.specs.Masks.{has_bit}
use Rattle.writer.specs.Picked.{picked}
use Rattle.writer.specs.Writing.{Ended}
use Rattle.writer.proofs.put_ends.Given as goal

abbrev pub invariant-loop-i : goal.invariant-loop-i
invariant-loop-i l = (l.i ≤ l.n) × Ended l.fn.page l.start (picked (has_bit l.mask) l.image l.i) l.page l.end
