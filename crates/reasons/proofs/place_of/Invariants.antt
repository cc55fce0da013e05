-- The loop's invariant: `count` is how many of the programs below k are carried. Assumes nothing.
use mathlib.Core.Path.{◌≡◌}
use Prim.Native.Nat.{◌≤◌}
use Rattle.reasons.specs.Reasons.{place_of}
use Rattle.reasons.proofs.place_of.Given as goal

abbrev pub invariant-loop-k : goal.invariant-loop-k
invariant-loop-k l = (l.k ≤ l.number) × (l.count ≡ place_of l.cells l.k l.area)
