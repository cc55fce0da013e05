-- The loop's invariant: `size` is the length of the programs below i that the mask has. Assumes nothing.
use mathlib.Core.Path.{◌≡◌}
use Prim.Native.Nat.{◌≤◌}
use lib.ListN.{length}
use Rattle.base.specs.Masks.{has_bit}
use Rattle.writer.specs.Joined.{joined}
use Rattle.writer.specs.Picked.{picked}
use Rattle.writer.proofs.taken_bytes.Given as goal

abbrev pub invariant-loop-i : goal.invariant-loop-i
invariant-loop-i l = (l.i ≤ l.n) × (l.size ≡ length (joined (picked (has_bit l.mask) l.image l.i)))
