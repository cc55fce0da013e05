-- The smallest number below n that passes: `least`. Assumes nothing.
use Prim.Native.Nat.{ℕ, zero, suc, ◌≤◌, ◌<◌}
use mathlib.Core.Path.{◌≡◌, refl, ap, ◌∙◌}
use mathlib.Core.Logic.{◌⊎◌, inl, inr}
use mathlib.Core.Bool.{Bool, true, false, cond}
use native.Mathlib.Decide.{dec_lt}
use native.Mathlib.Omega.{arith}
use lib.Dec.{ltb}
use borrow.Author.Tests.{ltb-true, ltb-false}
use Rattle.base.specs.Words.{least}
use Rattle.base.proofs.Bools.{clash}
use Rattle.base.proofs.Numbers.{below}

-- what the smallest is: one that passes, or n, and no larger than any that passes
pub record Smallest (p : ℕ → Bool) (n v : ℕ) : Type 0 where
  pub within : v ≤ n
  pub passes : v < n → p v ≡ true
  pub low : (i : ℕ) → i < n → p i ≡ true → v ≤ i

pub least_smallest : (p : ℕ → Bool) (n : ℕ) → Smallest p n (least p n)
unfolding least
least_smallest p zero = record { within = omega arith; passes = λ l. absurd (omega arith); low = λ i l e. omega arith }
least_smallest p (suc n) = go (ltb (least p n) n) (p n) refl refl (least_smallest p n)
  where
    go : (b q : Bool) → ltb (least p n) n ≡ b → p n ≡ q → Smallest p n (least p n)
        → Smallest p (suc n) (cond b (least p n) (cond q n (suc n)))
    go true q e f s =
        let l : least p n < n = ltb-true (least p n) n e in
        record { within = omega arith; passes = λ _. s.passes l; low = λ i h k. under i k (below i n h) }
      where
        under : (i : ℕ) → p i ≡ true → (i ≡ n) ⊎ (i < n) → least p n ≤ i
        under i k (inl q) = let l : least p n < n = ltb-true (least p n) n e in omega arith
        under i k (inr h) = s.low i h k
    go false true e f s = record { within = omega arith; passes = λ _. f; low = λ i h k. over i k (below i n h) }
      where
        over : (i : ℕ) → p i ≡ true → (i ≡ n) ⊎ (i < n) → n ≤ i
        over i k (inl q) = omega arith
        over i k (inr h) = let l = s.low i h k in omega (arith, ltb-false (least p n) n e)
    go false false e f s = record { within = omega arith; passes = λ l. absurd (omega arith); low = λ i h k. none i k (below i n h) }
      where
        none : (i : ℕ) → p i ≡ true → (i ≡ n) ⊎ (i < n) → suc n ≤ i
        none i k (inl q) = clash k (ap p q ∙ f)
        none i k (inr h) = let l = s.low i h k in absurd (omega (arith, ltb-false (least p n) n e))

-- there is only one
pub smallest_once : (p : ℕ → Bool) (n v u : ℕ) → Smallest p n v → Smallest p n u → v ≡ u
smallest_once p n v u s t = go (dec_lt v u) (dec_lt u v)
  where
    go : Dec (v < u) → Dec (u < v) → v ≡ u
    go (yes l) d = absurd (let h = t.low v (omega (arith, t.within)) (s.passes (omega (arith, t.within))) in omega arith)
    go (no l) (yes m) = absurd (let h = s.low u (omega (arith, s.within)) (t.passes (omega (arith, s.within))) in omega arith)
    go (no l) (no m) = omega arith

pub is_least : (p : ℕ → Bool) (n v : ℕ) → Smallest p n v → v ≡ least p n
is_least p n v s = smallest_once p n v (least p n) s (least_smallest p n)
