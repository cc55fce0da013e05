-- Members of lists: `has`, `distinct`, `meets`. Assumes nothing.
use mathlib.Core.Path.{◌≡◌, refl, sym}
use mathlib.Core.Logic.{◌⊎◌, inl, inr}
use mathlib.Core.Bool.{Bool, true, false, not, ◌||◌}
use mathlib.Core.List.{List, [], ◌∷◌, ◌++◌}
use Prim.Native.Nat.{ℕ, zero, suc, ◌<◌}
use native.Mathlib.Omega.{arith}
use lib.ListN.{length, get_or}
use lib.Dec.{eqb}
use borrow.Author.Tests.{eqb-true, eq-eqb}
use Rattle.base.specs.Words.{has, distinct, meets}
use Rattle.base.proofs.Bools.{clash, not_true, nots, no_not, both_and, and_left, and_right, or_cases, or_left, or_right, same_test}

pub has_cases : (c x : ℕ) (xs : List ℕ) → has c (x ∷ xs) ≡ true → (c ≡ x) ⊎ (has c xs ≡ true)
unfolding has
has_cases c x xs e = go (or_cases (eqb c x) (has c xs) e)
  where
    go : (eqb c x ≡ true) ⊎ (has c xs ≡ true) → (c ≡ x) ⊎ (has c xs ≡ true)
    go (inl p) = inl (eqb-true c x p)
    go (inr p) = inr p

pub has_head : (x : ℕ) (xs : List ℕ) → has x (x ∷ xs) ≡ true
unfolding has
has_head x xs = or_left (eqb x x) (has x xs) (eq-eqb x x refl)

pub has_at : (c x : ℕ) (xs : List ℕ) → c ≡ x → has c (x ∷ xs) ≡ true
unfolding has
has_at c x xs e = or_left (eqb c x) (has c xs) (eq-eqb c x e)

pub has_tail : (c x : ℕ) (xs : List ℕ) → has c xs ≡ true → has c (x ∷ xs) ≡ true
unfolding has
has_tail c x xs h = or_right (eqb c x) (has c xs) h

pub has_none : (c : ℕ) → has c [] ≡ true → ⊥
unfolding has
has_none c e = clash e refl

-- the number at a place of a list is a member
pub has_get_or : (xs : List ℕ) (i : ℕ) → i < length xs → has (get_or xs i 0) xs ≡ true
has_get_or [] i l = absurd (omega arith)
has_get_or (x ∷ xs) zero l = has_head x xs
has_get_or (x ∷ xs) (suc i) l = has_tail (get_or xs i 0) x xs (has_get_or xs i (omega arith))

-- and a member stands at some place
pub has_place : (c : ℕ) (xs : List ℕ) → has c xs ≡ true → (i : ℕ) × (i < length xs) × (get_or xs i 0 ≡ c)
has_place c [] h = absurd (has_none c h)
has_place c (x ∷ xs) h = go (has_cases c x xs h) (has_place c xs)
  where
    go : (c ≡ x) ⊎ (has c xs ≡ true) → (has c xs ≡ true → (i : ℕ) × (i < length xs) × (get_or xs i 0 ≡ c)) → (i : ℕ) × (i < length (x ∷ xs)) × (get_or (x ∷ xs) i 0 ≡ c)
    go (inl e) f = (0, omega arith, sym e)
    go (inr m) f = let w = f m in (suc w.0, omega (arith, w.1), w.2)

-- the members of a list with another at its end
pub has_append : (c : ℕ) (xs ys : List ℕ) → has c (xs ++ ys) ≡ has c xs || has c ys
unfolding has
has_append c [] ys = refl
has_append c (x ∷ xs) ys = rw (has_append c xs ys) (go (eqb c x))
  where
    go : (b : Bool) → b || (has c xs || has c ys) ≡ (b || has c xs) || has c ys
    go true = refl
    go false = refl

pub has_left : (c : ℕ) (xs ys : List ℕ) → has c xs ≡ true → has c (xs ++ ys) ≡ true
has_left c xs ys h = rw (has_append c xs ys) (or_left (has c xs) (has c ys) h)

pub has_right : (c : ℕ) (xs ys : List ℕ) → has c ys ≡ true → has c (xs ++ ys) ≡ true
has_right c xs ys h = rw (has_append c xs ys) (or_right (has c xs) (has c ys) h)

pub has_either : (c : ℕ) (xs ys : List ℕ) → has c (xs ++ ys) ≡ true → (has c xs ≡ true) ⊎ (has c ys ≡ true)
has_either c xs ys h = or_cases (has c xs) (has c ys) (rw (has_append c xs ys) at h)

-- one member
pub has_only : (c x : ℕ) → has c (x ∷ []) ≡ true → c ≡ x
has_only c x h = go (has_cases c x [] h)
  where
    go : (c ≡ x) ⊎ (has c [] ≡ true) → c ≡ x
    go (inl e) = e
    go (inr e) = absurd (has_none c e)

-- a new number at the end stands there once
pub distinct_snoc : (x : ℕ) (xs : List ℕ) → has x xs ≡ false → distinct xs ≡ true → distinct (xs ++ (x ∷ [])) ≡ true
unfolding distinct has
distinct_snoc x [] n d = refl
distinct_snoc x (y ∷ ys) n d =
    let fresh : has y ys ≡ false = nots (has y ys) (and_left (not (has y ys)) (distinct ys) d) in
    let apart : has x ys ≡ false = not_true (λ h. clash (has_tail x y ys h) n) in
    both_and (no_not (not_true (λ h. go (has_either y ys (x ∷ []) h) fresh)))
    (distinct_snoc x ys apart (and_right (not (has y ys)) (distinct ys) d))
  where
    go : (has y ys ≡ true) ⊎ (has y (x ∷ []) ≡ true) → has y ys ≡ false → ⊥
    go (inl h) f = clash h f
    go (inr h) f = clash (has_at x y ys (sym (has_only y x h))) n

pub meets_in : (c : ℕ) (xs ys : List ℕ) → has c xs ≡ true → has c ys ≡ true → meets xs ys ≡ true
unfolding meets
meets_in c [] ys h k = absurd (has_none c h)
meets_in c (x ∷ xs) ys h k = go (has_cases c x xs h) (λ t. meets_in c xs ys t k)
  where
    go : (c ≡ x) ⊎ (has c xs ≡ true) → (has c xs ≡ true → meets xs ys ≡ true) → has x ys || meets xs ys ≡ true
    go (inl p) f = or_left (has x ys) (meets xs ys) (rw p at k)
    go (inr p) f = or_right (has x ys) (meets xs ys) (f p)

pub meets_out : (xs ys : List ℕ) → meets xs ys ≡ true → (c : ℕ) × (has c xs ≡ true) × (has c ys ≡ true)
unfolding meets
meets_out [] ys e = clash e refl
meets_out (x ∷ xs) ys e = go (or_cases (has x ys) (meets xs ys) e) (meets_out xs ys)
  where
    go : (has x ys ≡ true) ⊎ (meets xs ys ≡ true) → (meets xs ys ≡ true → (c : ℕ) × (has c xs ≡ true) × (has c ys ≡ true)) → (c : ℕ) × (has c (x ∷ xs) ≡ true) × (has c ys ≡ true)
    go (inl p) f = (x, has_head x xs, p)
    go (inr p) f = let t = f p in (t.0, has_tail t.0 x xs t.1, t.2)

pub meets_swap : (xs ys : List ℕ) → meets xs ys ≡ meets ys xs
meets_swap xs ys = same_test (swap xs ys) (swap ys xs)
  where
    swap : (us vs : List ℕ) → meets us vs ≡ true → meets vs us ≡ true
    swap us vs e = let w = meets_out us vs e in meets_in w.0 vs us w.2 w.1
