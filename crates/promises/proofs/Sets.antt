-- Sets of programs: nobody, and one more. Assumes nothing.
use mathlib.Core.Path.{◌≡◌}
use mathlib.Core.Bool.{Bool, true, false, ◌&&◌, ◌||◌}
use Prim.Native.Nat.{ℕ}
use native.Mathlib.Omega.{arith}
use lib.Dec.{eqb}
use borrow.Author.Tests.{eqb-true}

abbrev pub nobody : ℕ → Bool
nobody j = false

-- k and those of the set
unfoldable pub also : ℕ → (ℕ → Bool) → ℕ → Bool
also k set j = eqb j k || set j

module _ (k : ℕ) (set : ℕ → Bool) where
  pub also_own : also k set k ≡ true
  unfolding also
  also_own = grind arith

  pub also_keeps : (j : ℕ) → set j ≡ true → also k set j ≡ true
  unfolding also
  also_keeps j h = grind arith

  pub also_other : (j : ℕ) → (j ≡ k → ⊥) → also k set j ≡ set j
  unfolding also
  also_other j h = grind arith

-- one more, among those that pass a test
module _ (k : ℕ) (set test : ℕ → Bool) where
  pub also_failing : test k ≡ false → (j : ℕ) → also k set j && test j ≡ set j && test j
  unfolding also
  also_failing e j = grind (arith, eqb-true)

  pub also_passing : test k ≡ true → (j : ℕ) → also k set j && test j ≡ also k (λ i. set i && test i) j
  unfolding also
  also_passing e j = grind (arith, eqb-true)
