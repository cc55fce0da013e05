-- How many of the numbers below n pass: `count`. Assumes nothing.
use mathlib.Core.Path.{◌≡◌, refl}
use mathlib.Core.Logic.{◌⊎◌, inl, inr}
use mathlib.Core.Bool.{Bool, true, false, cond}
use Prim.Native.Nat.{ℕ, zero, suc, ◌+◌, ◌≤◌, ◌<◌}
use native.Mathlib.Omega.{arith}
use native.Mathlib.Numerals.{add-one}
use Rattle.base.specs.Words.{count}
use Rattle.base.proofs.Bools.{clash}
use Rattle.base.proofs.Numbers.{below}

-- ---- a turn of a loop that counts

pub count_none : (p : ℕ → Bool) → count p 0 ≡ 0
unfolding count
count_none p = refl

pub count_in_lem : (p : ℕ → Bool) (i : ℕ) → p i ≡ true → count p (i + 1) ≡ count p i + 1
unfolding count
count_in_lem p i e = rw (add-one i, e) (omega arith)

pub count_out : (p : ℕ → Bool) (i : ℕ) → p i ≡ false → count p (i + 1) ≡ count p i
unfolding count
count_out p i e = rw (add-one i, e) (omega arith)

-- ---- how large it is

pub count_le : (p : ℕ → Bool) (n : ℕ) → count p n ≤ n
unfolding count
count_le p zero = omega arith
count_le p (suc k) = go (p k) (count_le p k)
  where
    go : (b : Bool) → count p k ≤ k → cond b 1 0 + count p k ≤ suc k
    go true h = omega arith
    go false h = omega arith

-- one that passes is counted: after it the count is larger than before
pub count_below : (p : ℕ → Bool) (n i : ℕ) → i < n → p i ≡ true → count p i < count p n
unfolding count
count_below p zero i h e = absurd (omega arith)
count_below p (suc k) i h e = go (below i k h) (count_below p k i)
  where
    go : (i ≡ k) ⊎ (i < k) → (i < k → p i ≡ true → count p i < count p k) → count p i < cond (p k) 1 0 + count p k
    go (inl q) ih = rw (← q, e) (omega arith)
    go (inr q) ih = let t = ih q e in omega arith

pub count_some : (p : ℕ → Bool) (n i : ℕ) → i < n → p i ≡ true → 0 < count p n
count_some p n i h e = let t = count_below p n i h e in omega arith

-- one that fails is not counted
pub count_misses : (p : ℕ → Bool) (n i : ℕ) → i < n → p i ≡ false → count p n < n
unfolding count
count_misses p zero i h e = absurd (omega arith)
count_misses p (suc k) i h e = go (below i k h) (p k) refl (count_le p k) (λ l. count_misses p k i l e)
  where
    go : (i ≡ k) ⊎ (i < k) → (b : Bool) → p k ≡ b → count p k ≤ k → (i < k → count p k < k) → cond b 1 0 + count p k < suc k
    go (inl q) true f l ih = clash f (rw q at e)
    go (inl q) false f l ih = omega arith
    go (inr q) true f l ih = let t = ih q in omega arith
    go (inr q) false f l ih = omega arith

pub count_zero : (p : ℕ → Bool) (n : ℕ) → ((i : ℕ) → i < n → p i ≡ false) → count p n ≡ 0
unfolding count
count_zero p zero h = refl
count_zero p (suc k) h = rw (h k (omega arith)) (omega (arith, count_zero p k (λ i l. h i (omega arith))))

-- all of them pass
pub count_all : (p : ℕ → Bool) (n : ℕ) → ((i : ℕ) → i < n → p i ≡ true) → count p n ≡ n
unfolding count
count_all p zero h = refl
count_all p (suc k) h = rw (h k (omega arith)) (omega (arith, count_all p k (λ i l. h i (omega arith))))

-- it depends on what passes below n alone
pub count_ext : (p q : ℕ → Bool) (n : ℕ) → ((i : ℕ) → i < n → p i ≡ q i) → count p n ≡ count q n
unfolding count
count_ext p q zero h = refl
count_ext p q (suc k) h = rw (h k (omega arith), count_ext p q k (λ i l. h i (omega arith)))
