-- A cell's place in a list, and a list with the cell once. Assumes nothing.
use Rattle.std.proofs.Common.{ℕ, zero, suc, ◌+◌, ◌≤◌, ◌<◌, Bool, true, false, not, cond, ◌⊎◌, inl, inr, ◌≡◌, refl, sym, Option, Some, IfSome, is_some}
use Rattle.std.proofs.Common.{List, [], ◌∷◌, ◌++◌, add-one, arith, length, get_or, eqb, eqb-true, eq-eqb, ne_eqb}
use Rattle.std.proofs.lemmas.List.{length_push}
use Rattle.base.specs.Words.{has, distinct}
use Rattle.base.proofs.Bools.{clash, not_true, nots, and_left, and_right}
use Rattle.base.proofs.Members.{has_cases, has_none, has_get_or, has_left, has_right, has_head, has_either, has_only, distinct_snoc}
use Rattle.slot.specs.Log.{place_in, found_place, later, newest_by, newest_in, once_by, once}

-- ---- the place that is said

-- what `found_place` tells of a number: by the test of whether it is a place, and by the place
pub found_place_none : (p : ℕ) (r : Option ℕ) → r ≡ found_place p → is_some r ≡ false → p ≡ 0
found_place_none zero r e none = refl
found_place_none (suc k) r e none = clash (rw e) none

pub found_place_any : (p : ℕ) (r : Option ℕ) → r ≡ found_place p → is_some r ≡ true → (k : ℕ) × (p ≡ suc k)
found_place_any zero r e some = clash some (rw e)
found_place_any (suc k) r e some = (k, refl)

pub found_place_some : (p k : ℕ) → Some k ≡ found_place p → p ≡ suc k
found_place_some zero k e = cc
found_place_some (suc j) k e = cc

pub found_place_below : (n p : ℕ) → p ≤ n → IfSome (found_place p) (λ k. k < n)
found_place_below n zero h = tt
found_place_below n (suc k) h = omega arith

-- a place in a list is one where the cell stands
abbrev pub Stands : ℕ → List ℕ → ℕ → Type 0
Stands c xs k = (k < length xs) × (get_or xs k 0 ≡ c)

pub found : (c : ℕ) (xs : List ℕ) (k : ℕ) → place_in c xs ≡ suc k → Stands c xs k
unfolding place_in
found c [] k e = absurd (omega arith)
found c (x ∷ xs) k e = go (eqb c x) refl (place_in c xs) refl e (found c xs)
  where
    go : (b : Bool) → eqb c x ≡ b → (j : ℕ) → place_in c xs ≡ j → cond b 1 (later j) ≡ suc k
        → ((i : ℕ) → place_in c xs ≡ suc i → Stands c xs i) → Stands c (x ∷ xs) k
    go true t j p q ih = let r : k ≡ 0 = omega arith in rw r (omega arith, sym (eqb-true c x t))
    go false t zero p q ih = absurd (omega arith)
    go false t (suc j) p q ih = let r : k ≡ suc j = omega arith in let s = ih j p in rw r (omega arith, s.1)

-- no place: the cell is no member
pub absent : (c : ℕ) (xs : List ℕ) → place_in c xs ≡ 0 → has c xs ≡ false
unfolding place_in
absent c [] e = not_true (has_none c)
absent c (x ∷ xs) e = go (eqb c x) refl (place_in c xs) refl e (absent c xs)
  where
    go : (b : Bool) → eqb c x ≡ b → (j : ℕ) → place_in c xs ≡ j → cond b 1 (later j) ≡ 0 → (place_in c xs ≡ 0 → has c xs ≡ false)
        → has c (x ∷ xs) ≡ false
    go true t j p q ih = absurd (omega arith)
    go false t zero p q ih = not_true (λ h. other (has_cases c x xs h) (ih p))
      where
        other : (c ≡ x) ⊎ (has c xs ≡ true) → has c xs ≡ false → ⊥
        other (inl s) n = clash (eq-eqb c x s) t
        other (inr s) n = clash s n
    go false t (suc j) p q ih = absurd (omega arith)

pub present : (c : ℕ) (xs : List ℕ) (k : ℕ) → place_in c xs ≡ suc k → has c xs ≡ true
present c xs k e = let s = found c xs k e in rw s.1 at (has_get_or xs k s.0)

pub place_bound : (c : ℕ) (xs : List ℕ) → place_in c xs ≤ length xs
place_bound c xs = go (place_in c xs) refl
  where
    go : (k : ℕ) → place_in c xs ≡ k → k ≤ length xs
    go zero e = omega arith
    go (suc k) e = omega (arith, (found c xs k e).0)

-- ---- the place that a search from the newest finds

-- the newest entry is looked at first, and those before it where that one is another
pub newest_here : (c : ℕ) (xs : List ℕ) → newest_in c (xs ++ (c ∷ [])) ≡ length xs + 1
unfolding newest_in
newest_here c [] = rw (eq-eqb c c refl)
newest_here c (x ∷ xs) = rw (newest_here c xs, add-one (length xs)) (omega arith)

pub newest_before : (c d : ℕ) (xs : List ℕ) → (c ≡ d → ⊥) → newest_in c (xs ++ (d ∷ [])) ≡ newest_in c xs
unfolding newest_in
newest_before c d [] h = rw (ne_eqb c d h)
newest_before c d (x ∷ xs) h = rw (newest_before c d xs h)

-- as a search of a list from its end tells it: the entry at i is the last that is c, or none is
pub newest_none : (c : ℕ) (xs : List ℕ) → ((k : ℕ) → k < length xs → get_or xs k 0 ≡ c → ⊥) → newest_in c xs ≡ 0
unfolding newest_in
newest_none c [] h = refl
newest_none c (x ∷ xs) h = rw (newest_none c xs (λ k l. h (suc k) (omega arith)), ne_eqb c x (λ e. h 0 (omega arith) (sym e)))

pub newest_at : (c : ℕ) (xs : List ℕ) (i : ℕ) → i < length xs → get_or xs i 0 ≡ c → ((k : ℕ) → i < k → k < length xs → get_or xs k 0 ≡ c → ⊥)
    → newest_in c xs ≡ suc i
unfolding newest_in
newest_at c [] i l e after = absurd (omega arith)
newest_at c (x ∷ xs) zero l e after = rw (newest_none c xs (λ k m. after (suc k) (omega arith) (omega arith)), eq-eqb c x (sym e))
newest_at c (x ∷ xs) (suc i) l e after = rw (newest_at c xs i (omega arith) e (λ k m n. after (suc k) (omega arith) (omega arith)))

-- a cell that stands once has one place, from whichever end it is looked for
pub one_place : (c : ℕ) (xs : List ℕ) → distinct xs ≡ true → newest_in c xs ≡ place_in c xs
unfolding newest_in place_in distinct
one_place c [] d = refl
one_place c (x ∷ xs) d = rw (one_place c xs (and_right (not (has x xs)) (distinct xs) d)) (go (eqb c x) refl (place_in c xs) refl)
  where
    go : (b : Bool) → eqb c x ≡ b → (k : ℕ) → place_in c xs ≡ k → newest_by k b ≡ cond b 1 (later k)
    go true e zero p = refl
    go true e (suc k) p =
        clash (rw (eqb-true c x e) at (present c xs k p)) (nots (has x xs) (and_left (not (has x xs)) (distinct xs) d))
    go false e zero p = refl
    go false e (suc k) p = refl

-- ---- once

pub once_new : (c : ℕ) (xs : List ℕ) → place_in c xs ≡ 0 → once c xs ≡ xs ++ (c ∷ [])
unfolding once
once_new c xs e = rw e

pub once_old : (c : ℕ) (xs : List ℕ) (k : ℕ) → place_in c xs ≡ suc k → once c xs ≡ xs
unfolding once
once_old c xs k e = rw e

-- each law of `once` is shown for a new cell and for an old one
once_by_lem : (c : ℕ) (xs : List ℕ) (P : List ℕ → Type 0) → (place_in c xs ≡ 0 → P (xs ++ (c ∷ [])))
    → ((k : ℕ) → place_in c xs ≡ suc k → P xs) → P (once c xs)
unfolding once
once_by_lem c xs P new old = go (place_in c xs) refl
  where
    go : (k : ℕ) → place_in c xs ≡ k → P (once_by k c xs)
    go zero e = new e
    go (suc k) e = old k e

module _ (c : ℕ) (xs : List ℕ) where
  pub once_length : length (once c xs) ≤ length xs + 1
  once_length = once_by_lem c xs (λ ys. length ys ≤ length xs + 1) (λ e. omega (arith, length_push xs c)) (λ k e. omega arith)

  pub once_has : has c (once c xs) ≡ true
  once_has = once_by_lem c xs (λ ys. has c ys ≡ true) (λ e. has_right c xs (c ∷ []) (has_head c [])) (λ k e. present c xs k e)

  pub once_keeps : (d : ℕ) → has d xs ≡ true → has d (once c xs) ≡ true
  once_keeps d h = once_by_lem c xs (λ ys. has d ys ≡ true) (λ e. has_left d xs (c ∷ []) h) (λ k e. h)

  pub once_below : (T : ℕ) → c < T → ((d : ℕ) → has d xs ≡ true → d < T) → (d : ℕ) → has d (once c xs) ≡ true → d < T
  once_below T l b = once_by_lem c xs (λ ys. (d : ℕ) → has d ys ≡ true → d < T) (λ e d h. go d (has_either d xs (c ∷ []) h)) (λ k e. b)
    where
      go : (d : ℕ) → (has d xs ≡ true) ⊎ (has d (c ∷ []) ≡ true) → d < T
      go d (inl h) = b d h
      go d (inr h) = rw (has_only d c h) l

  pub once_distinct : distinct xs ≡ true → distinct (once c xs) ≡ true
  once_distinct d = once_by_lem c xs (λ ys. distinct ys ≡ true) (λ e. distinct_snoc c xs (absent c xs e) d) (λ k e. d)
