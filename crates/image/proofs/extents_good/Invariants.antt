-- `extents_good` meets its contract. The loop's invariant: each program passed has a good extent. Assumes nothing.
use mathlib.Core.Path.{◌≡◌}
use mathlib.Core.Bool.{true}
use Prim.Native.Nat.{◌≤◌}
use Rattle.base.specs.Words.{every}
use Rattle.image.specs.Image.{extent_good}
use Rattle.image.proofs.extents_good.Given as goal

abbrev pub invariant-loop-p : goal.invariant-loop-p
invariant-loop-p l = (l.p ≤ l.n) × (every l.p (λ q. extent_good l.bytes q) ≡ true)
