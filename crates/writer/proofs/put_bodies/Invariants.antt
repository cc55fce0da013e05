-- The bytes of the programs below i that the mask has are put. Assumes nothing.
use Prim.Native.Nat.{◌≤◌}
use Rattle.base.specs.Masks.{has_bit}
use Rattle.text.specs.Paper.{Put}
use Rattle.writer.specs.Joined.{joined}
use Rattle.writer.specs.Picked.{picked}
use Rattle.writer.proofs.put_bodies.Given as goal

abbrev pub invariant-loop-i : goal.invariant-loop-i
invariant-loop-i l = (l.i ≤ l.n) × Put l.fn.page (joined (picked (has_bit l.mask) l.image l.i)) l.page
