-- The numbers below n: `every` and `first`. Assumes nothing.
use mathlib.Core.Path.{◌≡◌, refl, sym, ◌∙◌, ap}
use mathlib.Core.Logic.{◌⊎◌, inl, inr}
use mathlib.Core.Bool.{Bool, true, false, cond}
use Prim.Native.Nat.{ℕ, zero, suc, ◌+◌, ◌≤◌, ◌<◌}
use native.Mathlib.Nat.{not-suc-le-zero}
use native.Mathlib.Numerals.{add-one}
use native.Mathlib.Omega.{arith}
use lib.Dec.{ltb}
use borrow.Author.Tests.{ltb-true, ltb-false}
use Rattle.base.specs.Words.{every, or_else, first}
use Rattle.base.proofs.Bools.{known, clash, not_true, and_both}

-- what the cases of a number are
pub zero_or : (m : ℕ) → (m ≡ 0) ⊎ ((k : ℕ) × (m ≡ suc k))
zero_or zero = inl refl
zero_or (suc k) = inr (k, refl)

pub below : (i k : ℕ) → i < suc k → (i ≡ k) ⊎ (i < k)
below i k h = go (known (ltb i k))
  where
    go : (ltb i k ≡ true) ⊎ (ltb i k ≡ false) → (i ≡ k) ⊎ (i < k)
    go (inl e) = inr (ltb-true i k e)
    go (inr e) = inl (omega (arith, ltb-false i k e))

-- ---- every: none, one more, each of them, one that fails

pub every_none : (f : ℕ → Bool) → every 0 f ≡ true
unfolding every
every_none f = refl

pub every_more : (i : ℕ) (f : ℕ → Bool) → every i f ≡ true → f i ≡ true → every (i + 1) f ≡ true
unfolding every
every_more i f h k = rw (add-one, h, k)

pub every_at : (n : ℕ) (f : ℕ → Bool) → every n f ≡ true → (i : ℕ) → i < n → f i ≡ true
unfolding every
every_at zero f h i l = absurd (not-suc-le-zero l)
every_at (suc n) f h i l = let t = and_both (every n f) (f n) h in go t.1 (every_at n f t.0 i) (below i n l)
  where
    go : f n ≡ true → (i < n → f i ≡ true) → (i ≡ n) ⊎ (i < n) → f i ≡ true
    go last under (inl e) = rw e last
    go last under (inr k) = under k

pub every_from : (n : ℕ) (f : ℕ → Bool) → ((i : ℕ) → i < n → f i ≡ true) → every n f ≡ true
unfolding every
every_from zero f h = refl
every_from (suc n) f h = rw (every_from n f (λ i l. h i (omega arith)), h n (omega arith))

pub every_false : (n : ℕ) (f : ℕ → Bool) (i : ℕ) → i < n → f i ≡ false → every n f ≡ false
every_false n f i l h = not_true (λ e. clash (every_at n f e i l) h)

-- ---- first

pub first_le : (p : ℕ → Bool) (n : ℕ) → first p n ≤ n
unfolding first or_else
first_le p zero = omega arith
first_le p (suc k) = go (first p k) (p k) (first_le p k)
  where
    go : (f : ℕ) (b : Bool) → f ≤ k → or_else f (cond b (suc k) 0) ≤ suc k
    go zero true h = omega arith
    go zero false h = omega arith
    go (suc a) b h = omega arith

pub first_some : (p : ℕ → Bool) (n i : ℕ) → i < n → p i ≡ true → (0 < first p n) × (first p n ≤ suc i)
unfolding first or_else
first_some p zero i h e = absurd (omega arith)
first_some p (suc k) i h e = go (first p k) (p k) refl refl (below i k h) (λ s. first_some p k i s e) (first_le p k)
  where
    go : (f : ℕ) (b : Bool) → first p k ≡ f → p k ≡ b → (i ≡ k) ⊎ (i < k) → (i < k → (0 < first p k) × (first p k ≤ suc i)) → first p k ≤ k → (0 < or_else f (cond b (suc k) 0)) × (or_else f (cond b (suc k) 0) ≤ suc i)
    go zero true q r (inl s) ih l = omega arith
    go zero true q r (inr s) ih l = let t = ih s in absurd (omega arith)
    go zero false q r (inl s) ih l = clash e (ap p s ∙ r)
    go zero false q r (inr s) ih l = let t = ih s in absurd (omega arith)
    go (suc a) b q r (inl s) ih l = omega arith
    go (suc a) b q r (inr s) ih l = let t = ih s in omega arith

-- a number that `first` names is below n and passes
pub first_is : (p : ℕ → Bool) (n i : ℕ) → first p n ≡ suc i → (i < n) × (p i ≡ true)
unfolding first or_else
first_is p zero i e = absurd (omega arith)
first_is p (suc k) i e = go (first p k) (p k) refl refl e (first_is p k)
  where
    go : (f : ℕ) (b : Bool) → first p k ≡ f → p k ≡ b → or_else f (cond b (suc k) 0) ≡ suc i → ((i : ℕ) → first p k ≡ suc i → (i < k) × (p i ≡ true)) → (i < suc k) × (p i ≡ true)
    go zero true q r u ih = let s : i ≡ k = omega arith in (omega arith, ap p s ∙ r)
    go zero false q r u ih = absurd (omega arith)
    go (suc a) b q r u ih = let t = ih i (q ∙ u) in (omega arith, t.1)

pub first_none : (p : ℕ → Bool) (n : ℕ) → first p n ≡ 0 → (i : ℕ) → i < n → p i ≡ false
first_none p n e i h = not_true (λ t. let s = first_some p n i h t in omega arith)

pub none_first : (p : ℕ → Bool) (n : ℕ) → ((i : ℕ) → i < n → p i ≡ false) → first p n ≡ 0
none_first p n h = go (zero_or (first p n))
  where
    go : (first p n ≡ 0) ⊎ ((k : ℕ) × (first p n ≡ suc k)) → first p n ≡ 0
    go (inl e) = e
    go (inr w) = let t = first_is p n w.0 w.1 in clash t.1 (h w.0 t.0)

-- the mark v is that number: all that is asked of it
pub first_unique : (p : ℕ → Bool) (n v : ℕ) → ((i : ℕ) → i < n → p i ≡ true → (0 < v) × (v ≤ suc i)) → ((i : ℕ) → v ≡ suc i → (i < n) × (p i ≡ true)) → v ≡ first p n
first_unique p n v low is = go (zero_or v) (zero_or (first p n))
  where
    go : (v ≡ 0) ⊎ ((k : ℕ) × (v ≡ suc k)) → (first p n ≡ 0) ⊎ ((k : ℕ) × (first p n ≡ suc k)) → v ≡ first p n
    go (inl a) (inl b) = a ∙ sym b
    go (inl a) (inr b) = let t = first_is p n b.0 b.1 in let u = low b.0 t.0 t.1 in absurd (omega arith)
    go (inr a) (inl b) = let t = is a.0 a.1 in let u = first_some p n a.0 t.0 t.1 in absurd (omega arith)
    go (inr a) (inr b) =
        let t = first_is p n b.0 b.1 in let u = low b.0 t.0 t.1 in
        let t' = is a.0 a.1 in let u' = first_some p n a.0 t'.0 t'.1 in
        let ea : v ≡ suc a.0 = a.1 in let eb : first p n ≡ suc b.0 = b.1 in
        omega arith

-- it depends on what passes below n alone
pub first_ext : (p q : ℕ → Bool) (n : ℕ) → ((i : ℕ) → i < n → p i ≡ q i) → first p n ≡ first q n
first_ext p q n h = first_unique q n (first p n) (λ i l e. first_some p n i l (h i l ∙ e)) (λ i e. let t = first_is p n i e in (t.0, sym (h i t.0) ∙ t.1))

pub every_ext : (n : ℕ) (f g : ℕ → Bool) → ((i : ℕ) → i < n → f i ≡ g i) → every n f ≡ every n g
unfolding every
every_ext zero f g h = refl
every_ext (suc n) f g h = rw (every_ext n f g (λ i l. h i (omega arith)), h n (omega arith))
