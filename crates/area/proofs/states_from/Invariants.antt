-- The loop's invariant: no state passed is below the least. Assumes nothing.
use mathlib.Core.Path.{◌≡◌}
use mathlib.Core.Bool.{true}
use lib.Dec.{leb}
use Rattle.base.specs.Words.{every}
use Rattle.area.specs.Layout.{state_of}
use Rattle.area.proofs.states_from.Given as goal

abbrev pub invariant-loop-k : goal.invariant-loop-k
invariant-loop-k l = every l.k (λ q. leb l.least (state_of l.cells q l.area)) ≡ true
