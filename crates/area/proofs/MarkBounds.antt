-- A mark is not raised above the program's own. Assumes nothing.
use Prim.Native.Nat.{ℕ, ◌≤◌}
use mathlib.Core.Path.{◌≡◌}
use mathlib.Core.Logic.{◌⊎◌, inl, inr}
use mathlib.Core.Bool.{true, false, cond, ◌||◌}
use native.Mathlib.Omega.{arith}
use lib.Dec.{eqb, ltb}
use borrow.Author.Tests.{ltb-false}
use Rattle.base.proofs.Bools.{known, or_false}
use Rattle.area.specs.Marks.{lower}

pub lower_few : (mark mine : ℕ) → lower mark mine ≤ mine
unfolding lower
lower_few mark mine = go (known (eqb mark 0 || ltb mine mark))
  where
    go : (eqb mark 0 || ltb mine mark ≡ true) ⊎ (eqb mark 0 || ltb mine mark ≡ false) → cond (eqb mark 0 || ltb mine mark) mine mark ≤ mine
    go (inl e) = rw e (omega arith)
    go (inr e) = rw e (ltb-false mine mark (or_false (eqb mark 0) (ltb mine mark) e).1)
