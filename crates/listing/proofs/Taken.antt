-- What one turn of the listed order says: which programs are left, which block another, which are ready. Assumes nothing.
use mathlib.Core.Path.{◌≡◌, refl, sym, ◌∙◌, ap}
use mathlib.Core.Logic.{◌⊎◌, inl, inr, ◌≢◌}
use mathlib.Core.Bool.{Bool, true, false, not, cond, ◌&&◌}
use mathlib.Core.List.{List, ◌∷◌}
use Prim.Native.Nat.{ℕ, zero, suc, ◌+◌, ◌≤◌, ◌<◌}
use native.Mathlib.Omega.{arith}
use lib.Dec.{eqb}
use borrow.Author.Tests.{eqb-true, eqb-false, eq-eqb, ne_eqb}
use Rattle.base.specs.Words.{first, count, meets}
use Rattle.base.proofs.Bools.{known, clash, and_both, both_and, nots, no_not}
use Rattle.base.proofs.Numbers.{below, first_ext}
use Rattle.listing.specs.Order.{blocks, ready, without, grow, listed}

-- ---- one fewer is left

pub without_is : (i : ℕ) (left : ℕ → Bool) (j : ℕ) → without i left j ≡ true → (left j ≡ true) × (j ≢ i)
unfolding without
without_is i left j e = let t = and_both (left j) (not (eqb j i)) e in (t.0, eqb-false j i (nots (eqb j i) t.1))

pub is_without : (i : ℕ) (left : ℕ → Bool) (j : ℕ) → left j ≡ true → j ≢ i → without i left j ≡ true
unfolding without
is_without i left j e h = both_and e (no_not (ne_eqb j i h))

pub without_else : (i : ℕ) (left : ℕ → Bool) (j : ℕ) → without i left j ≡ false → (j ≡ i) ⊎ (left j ≡ false)
unfolding without
without_else i left j e = go (known (eqb j i)) (known (left j))
  where
    go : (eqb j i ≡ true) ⊎ (eqb j i ≡ false) → (left j ≡ true) ⊎ (left j ≡ false) → (j ≡ i) ⊎ (left j ≡ false)
    go (inl q) r = inl (eqb-true j i q)
    go (inr q) (inl r) = clash {b = left j && not (eqb j i)} (rw (q, r)) e
    go (inr q) (inr r) = inr r

-- the count looks at the numbers below n alone
count_past : (left : ℕ → Bool) (n i : ℕ) → n ≤ i → count (without i left) n ≡ count left n
unfolding count without
count_past left zero i h = refl
count_past left (suc k) i h = rw (ne_eqb k i (λ e. omega arith), count_past left k i (omega arith)) (go (left k))
  where
    go : (b : Bool) → cond (b && true) 1 0 + count left k ≡ cond b 1 0 + count left k
    go true = refl
    go false = refl

pub count_without : (left : ℕ → Bool) (n i : ℕ) → i < n → left i ≡ true → count left n ≡ suc (count (without i left) n)
unfolding count without
count_without left zero i h e = absurd (omega arith)
count_without left (suc k) i h e = go (below i k h) (count_without left k i)
  where
    go : (i ≡ k) ⊎ (i < k) → (i < k → left i ≡ true → count left k ≡ suc (count (without i left) k))
        → cond (left k) 1 0 + count left k ≡ suc (cond (left k && not (eqb k i)) 1 0 + count (without i left) k)
    go (inl q) ih = let f = count_past left k i (omega arith) in rw (ap left (sym q) ∙ e, eq-eqb k i (sym q)) (omega arith)
    go (inr q) ih = let f = ih q e in rw (ne_eqb k i (λ z. omega arith)) (last (left k) f)
      where
        last : (b : Bool) → count left k ≡ suc (count (without i left) k)
            → cond b 1 0 + count left k ≡ suc (cond (b && true) 1 0 + count (without i left) k)
        last true f = omega arith
        last false f = omega arith

-- ---- who blocks, who is ready

module _ (reads stores : ℕ → List ℕ) (left : ℕ → Bool) where
  pub blocks_is : (i j : ℕ) → blocks reads stores left i j ≡ true → (left j ≡ true) × (j ≢ i) × (meets (reads j) (stores i) ≡ true)
  unfolding blocks
  blocks_is i j e =
      let t = and_both (left j) (not (eqb j i) && meets (reads j) (stores i)) e in
      let u = and_both (not (eqb j i)) (meets (reads j) (stores i)) t.1 in
      (t.0, eqb-false j i (nots (eqb j i) u.0), u.1)

  pub is_blocks : (i j : ℕ) → left j ≡ true → j ≢ i → meets (reads j) (stores i) ≡ true → blocks reads stores left i j ≡ true
  unfolding blocks
  is_blocks i j e h m = both_and e (both_and (no_not (ne_eqb j i h)) m)

  pub ready_is : (n i : ℕ) → ready n reads stores left i ≡ true → (left i ≡ true) × (first (blocks reads stores left i) n ≡ 0)
  unfolding ready
  ready_is n i e = let t = and_both (left i) (eqb (first (blocks reads stores left i) n) 0) e in (t.0, eqb-true _ _ t.1)

  pub is_ready_lem : (n i : ℕ) → left i ≡ true → first (blocks reads stores left i) n ≡ 0 → ready n reads stores left i ≡ true
  unfolding ready
  is_ready_lem n i e f = both_and e (eq-eqb _ _ f)

-- ---- the listed order depends on who is left, and on the cells of those who are

module _ (n : ℕ) (reads reads' stores stores' : ℕ → List ℕ) where
  -- the two sets that are left have the same numbers below n, and the cells of these are the same
  pub record Alike (left left' : ℕ → Bool) : Type 0 where
    pub left_same : (i : ℕ) → i < n → left i ≡ left' i
    pub reads_same : (i : ℕ) → i < n → left i ≡ true → reads i ≡ reads' i
    pub stores_same : (i : ℕ) → i < n → left i ≡ true → stores i ≡ stores' i

  module _ (left left' : ℕ → Bool) (alike : Alike left left') where
    alike_without : (i : ℕ) → Alike (without i left) (without i left')
    unfolding without
    alike_without i =
        record {
          left_same = λ j l. ap (λ (b : Bool). b && not (eqb j i)) (alike.left_same j l);
          reads_same = λ j l h. alike.reads_same j l (without_is i left j h).0;
          stores_same = λ j l h. alike.stores_same j l (without_is i left j h).0;
        }

    blocks_ext : (i j : ℕ) → i < n → j < n → left i ≡ true → blocks reads stores left i j ≡ blocks reads' stores' left' i j
    unfolding blocks
    blocks_ext i j li lj e = go (known (left j))
      where
        go : (left j ≡ true) ⊎ (left j ≡ false)
            → left j && (not (eqb j i) && meets (reads j) (stores i)) ≡ left' j && (not (eqb j i) && meets (reads' j) (stores' i))
        go (inl q) = rw (← alike.left_same j lj, alike.reads_same j lj q, alike.stores_same i li e)
        go (inr q) = rw (← alike.left_same j lj, q)

    ready_ext : (i : ℕ) → i < n → ready n reads stores left i ≡ ready n reads' stores' left' i
    unfolding ready
    ready_ext i l = go (known (left i))
      where
        go : (left i ≡ true) ⊎ (left i ≡ false)
            → left i && eqb (first (blocks reads stores left i) n) 0 ≡ left' i && eqb (first (blocks reads' stores' left' i) n) 0
        go (inl q) = rw (← alike.left_same i l, first_ext (blocks reads stores left i) (blocks reads' stores' left' i) n (λ j k. blocks_ext i j l k q))
        go (inr q) = rw (← alike.left_same i l, q)

  pub listed_ext : (k : ℕ) (left left' : ℕ → Bool) → Alike left left' → listed k n reads stores left ≡ listed k n reads' stores' left'
  unfolding listed grow
  listed_ext zero left left' alike = refl
  listed_ext (suc k) left left' alike =
      rw (← first_ext (ready n reads stores left) (ready n reads' stores' left') n (ready_ext left left' alike))
      (go (first (ready n reads stores left) n) (λ i. listed_ext k (without i left) (without i left') (alike_without left left' alike i)))
    where
      go : (v : ℕ) → ((i : ℕ) → listed k n reads stores (without i left) ≡ listed k n reads' stores' (without i left'))
          → grow v (λ i. listed k n reads stores (without i left)) ≡ grow v (λ i. listed k n reads' stores' (without i left'))
      go zero ih = refl
      go (suc i) ih = ap (λ (z : List ℕ). i ∷ z) (ih i)
