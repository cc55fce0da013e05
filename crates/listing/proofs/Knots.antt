-- The listed order has every program that is left exactly where some order of them exists at all, in which each stands before those that store what
-- it reads. It holds of any reads, stores and left. Assumes nothing.
use mathlib.Core.Path.{◌≡◌, refl, sym, ◌∙◌}
use mathlib.Core.Logic.{◌⊎◌, inl, inr, ◌≢◌}
use mathlib.Core.Bool.{Bool, true, false, cond}
use mathlib.Core.List.{List, [], ◌∷◌}
use Prim.Native.Nat.{ℕ, zero, suc, ◌<◌}
use native.Mathlib.Omega.{arith}
use lib.Dec.{eqb}
use lib.ListN.{length}
use borrow.Author.Tests.{eqb-true, eqb-false}
use Rattle.base.specs.Words.{first, count, has, meets}
use Rattle.base.proofs.Bools.{known, clash}
use Rattle.base.proofs.Counts.{count_le, count_some}
use Rattle.base.proofs.Members.{has_cases, has_at, has_tail, has_none}
use Rattle.base.proofs.Numbers.{first_is}
use Rattle.listing.specs.Order.{ready, without, grow, listed, Ordered, Order}
use Rattle.listing.proofs.Taken.{is_without, count_without, ready_is}
use Rattle.listing.proofs.Whole.{listed_members, listed_ordered, length_listed}

-- the place of j in the list
unfoldable place_at : ℕ → List ℕ → ℕ
place_at j [] = 0
place_at j (x ∷ xs) = cond (eqb j x) 0 (suc (place_at j xs))

further : (k x : ℕ) (o : List ℕ) → eqb k x ≡ false → has k (x ∷ o) ≡ true → has k o ≡ true
further k x o f g = go (has_cases k x o g)
  where
    go : (k ≡ x) ⊎ (has k o ≡ true) → has k o ≡ true
    go (inl z) = absurd (eqb-false k x f z)
    go (inr z) = z

-- j reads what i stores, so it does not stand after it
stands_before : (reads stores : ℕ → List ℕ) (o : List ℕ) (i j : ℕ) → Ordered reads stores o → has i o ≡ true → has j o ≡ true → j ≢ i
    → meets (reads j) (stores i) ≡ true → place_at j o < place_at i o
unfolding place_at
stands_before reads stores [] i j h a b ne m = absurd (has_none i a)
stands_before reads stores (x ∷ o) i j h a b ne m = go (known (eqb i x)) (known (eqb j x)) (stands_before reads stores o i j h.1)
  where
    go : (eqb i x ≡ true) ⊎ (eqb i x ≡ false) → (eqb j x ≡ true) ⊎ (eqb j x ≡ false)
        → (has i o ≡ true → has j o ≡ true → j ≢ i → meets (reads j) (stores i) ≡ true → place_at j o < place_at i o)
        → cond (eqb j x) 0 (suc (place_at j o)) < cond (eqb i x) 0 (suc (place_at i o))
    go (inl p) (inl q) ih = absurd (ne (eqb-true j x q ∙ sym (eqb-true i x p)))
    go (inl p) (inr q) ih = clash m (rw (eqb-true i x p) (h.0 j (further j x o q b)))
    go (inr p) (inl q) ih = rw (p, q) (omega arith)
    go (inr p) (inr q) ih = rw (p, q) (omega (arith, ih (further i x o p a) (further j x o q b) ne m))

-- where the listing has as many as are left, it has each
as_many : (k n : ℕ) (reads stores : ℕ → List ℕ) (left : ℕ → Bool) → length (listed k n reads stores left) ≡ count left n
    → (j : ℕ) → j < n → left j ≡ true → has j (listed k n reads stores left) ≡ true
unfolding listed grow
as_many zero n reads stores left c j l e = absurd (omega (arith, count_some left n j l e))
as_many (suc k) n reads stores left c j l e = go (first (ready n reads stores left) n) refl c (λ i. as_many k n reads stores (without i left))
  where
    go : (f : ℕ) → first (ready n reads stores left) n ≡ f → length (grow f (λ i. listed k n reads stores (without i left))) ≡ count left n
        → ((i : ℕ) → length (listed k n reads stores (without i left)) ≡ count (without i left) n
        → (j : ℕ) → j < n → without i left j ≡ true → has j (listed k n reads stores (without i left)) ≡ true)
        → has j (grow f (λ i. listed k n reads stores (without i left))) ≡ true
    go zero f d ih = absurd (omega (arith, count_some left n j l e))
    go (suc i) f d ih = last (known (eqb j i))
      where
        last : (eqb j i ≡ true) ⊎ (eqb j i ≡ false) → has j (i ∷ listed k n reads stores (without i left)) ≡ true
        last (inl q) = has_at j i (listed k n reads stores (without i left)) (eqb-true j i q)
        last (inr q) =
            let t = first_is (ready n reads stores left) n i f in
            let u = ready_is reads stores left n i t.1 in
            let v = count_without left n i t.0 u.0 in
            has_tail j i (listed k n reads stores (without i left)) (ih i (omega arith) j l (is_without i left j e (eqb-false j i q)))

module _ (n : ℕ) (reads stores : ℕ → List ℕ) (left : ℕ → Bool) where
  -- a list with as many as are left is an order of them
  pub listed_order : length (listed n n reads stores left) ≡ count left n → Order n reads stores left (listed n n reads stores left)
  listed_order e = record {
    all_there = as_many n n reads stores left e;
    only_left = listed_members n reads stores n left;
    in_order = listed_ordered n reads stores n left;
  }

  -- where there is any order, the list has as many as are left
  pub order_listed : (o : List ℕ) → Order n reads stores left o → length (listed n n reads stores left) ≡ count left n
  order_listed o h =
      length_listed
      (record { falls = λ i j li lj di dj ne m. stands_before reads stores o i j h.in_order (h.all_there i li di) (h.all_there j lj dj) ne m })
      n left (λ i e. e) (count_le left n)

  -- so one with fewer says that there is no order at all
  pub listed_stuck : (length (listed n n reads stores left) ≡ count left n → ⊥) → (o : List ℕ) → Order n reads stores left o → ⊥
  listed_stuck h o k = h (order_listed o k)
