-- The numbers below n: `some`. Assumes nothing.
use mathlib.Core.Path.{◌≡◌, refl}
use mathlib.Core.Logic.{◌⊎◌, inl, inr}
use mathlib.Core.Bool.{Bool, true, false, ◌||◌}
use Prim.Native.Nat.{ℕ, zero, suc, ◌<◌}
use native.Mathlib.Nat.{not-suc-le-zero}
use native.Mathlib.Omega.{arith}
use Rattle.base.specs.Words.{some}
use Rattle.base.proofs.Bools.{clash, not_true, or_cases, or_left, or_right}
use Rattle.base.proofs.Numbers.{below}

pub some_in : (n : ℕ) (f : ℕ → Bool) (i : ℕ) → i < n → f i ≡ true → some n f ≡ true
unfolding some
some_in zero f i l h = absurd (not-suc-le-zero l)
some_in (suc n) f i l h = go (below i n l) (λ k. some_in n f i k h)
  where
    go : (i ≡ n) ⊎ (i < n) → (i < n → some n f ≡ true) → some n f || f n ≡ true
    go (inl e) ih = or_right (some n f) (f n) (rw e at h)
    go (inr k) ih = or_left (some n f) (f n) (ih k)

pub some_out : (n : ℕ) (f : ℕ → Bool) → some n f ≡ true → (i : ℕ) × (i < n) × (f i ≡ true)
unfolding some
some_out zero f e = clash e refl
some_out (suc n) f e = go (or_cases (some n f) (f n) e) (some_out n f)
  where
    go : (some n f ≡ true) ⊎ (f n ≡ true) → (some n f ≡ true → (i : ℕ) × (i < n) × (f i ≡ true)) → (i : ℕ) × (i < suc n) × (f i ≡ true)
    go (inl h) ih = let w = ih h in (w.0, omega (arith, w.1), w.2)
    go (inr h) ih = (n, omega arith, h)

pub some_none : (n : ℕ) (f : ℕ → Bool) → some n f ≡ false → (i : ℕ) → i < n → f i ≡ false
some_none n f e i l = not_true (λ h. clash (some_in n f i l h) e)
