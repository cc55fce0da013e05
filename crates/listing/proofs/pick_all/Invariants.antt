-- The loop's invariant: those taken so far, and then those that are picked from what is left, are all that are picked. Assumes nothing.
use mathlib.Core.Path.{◌≡◌}
use mathlib.Core.List.{◌++◌}
use Prim.Native.Nat.{◌-◌}
use lib.ListN.{take}
use Rattle.listing.specs.Masks.{picks}
use Rattle.listing.proofs.pick_all.Given as goal

abbrev pub invariant-loop-taken : goal.invariant-loop-taken
invariant-loop-taken l = take l.taken l.order ++ picks (l.n - l.taken) l.blockers l.left ≡ picks l.n l.blockers l.all
