-- The loop's invariant: the words below i are ends of the full range. Assumes nothing.
use Rattle.std.proofs.Common.{◌≡◌, ℕ, ◌<◌, get_or}
use Rattle.guard.specs.Guards.{full_end}
use Rattle.guard.proofs.full_range.Given as goal

abbrev pub invariant-loop-i : goal.invariant-loop-i
invariant-loop-i l = (k : ℕ) → k < l.i → get_or l.guards k 0 ≡ full_end k
