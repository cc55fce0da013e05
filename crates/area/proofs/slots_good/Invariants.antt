-- The loop's invariant: each slot passed is good. Assumes nothing.
use mathlib.Core.Path.{◌≡◌}
use mathlib.Core.Bool.{true}
use Rattle.base.specs.Words.{every}
use Rattle.area.specs.Checks.{slot_good}
use Rattle.area.proofs.slots_good.Given as goal

abbrev pub invariant-loop-k : goal.invariant-loop-k
invariant-loop-k l = every l.k (λ q. slot_good l.cells q l.area) ≡ true
