-- The loop's invariant: `found` is how many of the programs below k the mask has. Assumes nothing.
use Rattle.std.proofs.Common.{◌≡◌}
use Rattle.base.specs.Words.{count}
use Rattle.base.specs.Masks.{has_bit}
use Rattle.masks.proofs.count.Given as goal

abbrev pub invariant-loop-k : goal.invariant-loop-k
invariant-loop-k l = l.found ≡ count (has_bit l.mask) l.k
