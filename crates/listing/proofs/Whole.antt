-- Laws of the listed order over any reads, stores and programs left: whom it names, that none reads what one before it stores, and when it gets
-- through. Assumes nothing.
use mathlib.Core.Path.{◌≡◌, refl, sym, ◌∙◌, ap}
use mathlib.Core.Logic.{◌⊎◌, inl, inr, ◌≢◌}
use mathlib.Core.Bool.{Bool, true, false}
use mathlib.Core.List.{List, ◌∷◌}
use Prim.Native.Nat.{ℕ, zero, suc, ◌≤◌, ◌<◌}
use native.Mathlib.Omega.{arith}
use lib.Dec.{eqb}
use lib.ListN.{length}
use borrow.Author.Tests.{eqb-true, eqb-false}
use Rattle.base.specs.Words.{first, count, has, distinct, meets}
use Rattle.base.proofs.Bools.{known, clash, not_true, both_and, no_not}
use Rattle.base.proofs.Numbers.{zero_or, first_some, first_is, first_none}
use Rattle.base.proofs.Members.{has_cases, has_at, has_tail, has_none}
use Rattle.base.proofs.Counts.{count_some, count_zero}
use Rattle.listing.specs.Order.{blocks, ready, without, grow, listed, Ordered}
use Rattle.listing.proofs.Taken.{without_is, is_without, count_without, blocks_is, is_blocks, ready_is, is_ready_lem}

module _ (n : ℕ) (reads stores : ℕ → List ℕ) where
  -- who is taken was left
  taken : (left : ℕ → Bool) (i : ℕ) → first (ready n reads stores left) n ≡ suc i
      → (i < n) × (left i ≡ true) × (first (blocks reads stores left i) n ≡ 0)
  taken left i e = let t = first_is (ready n reads stores left) n i e in let u = ready_is reads stores left n i t.1 in (t.0, u.0, u.1)

  pub listed_members : (k : ℕ) (left : ℕ → Bool) (j : ℕ) → has j (listed k n reads stores left) ≡ true → (j < n) × (left j ≡ true)
  unfolding listed grow
  listed_members zero left j h = absurd (has_none j h)
  listed_members (suc k) left j h = go (first (ready n reads stores left) n) refl h (λ i. listed_members k (without i left) j)
    where
      go : (f : ℕ) → first (ready n reads stores left) n ≡ f → has j (grow f (λ i. listed k n reads stores (without i left))) ≡ true
          → ((i : ℕ) → has j (listed k n reads stores (without i left)) ≡ true → (j < n) × (without i left j ≡ true)) → (j < n) × (left j ≡ true)
      go zero e g ih = absurd (has_none j g)
      go (suc i) e g ih = last (has_cases j i (listed k n reads stores (without i left)) g)
        where
          last : (j ≡ i) ⊎ (has j (listed k n reads stores (without i left)) ≡ true) → (j < n) × (left j ≡ true)
          last (inl q) = let t = taken left i e in (omega arith, ap left q ∙ t.1)
          last (inr q) = let t = ih i q in (t.0, (without_is i left j t.1).0)

  -- nobody is taken twice
  pub listed_distinct : (k : ℕ) (left : ℕ → Bool) → distinct (listed k n reads stores left) ≡ true
  unfolding listed grow distinct
  listed_distinct zero left = refl
  listed_distinct (suc k) left = go (first (ready n reads stores left) n) (λ i. listed_distinct k (without i left))
    where
      go : (f : ℕ) → ((i : ℕ) → distinct (listed k n reads stores (without i left)) ≡ true)
          → distinct (grow f (λ i. listed k n reads stores (without i left))) ≡ true
      go zero ih = refl
      go (suc i) ih = both_and (no_not (not_true (λ h. (without_is i left i (listed_members k (without i left) i h).1).1 refl))) (ih i)

  -- who comes later was left, and blocked nobody who was taken
  pub listed_ordered : (k : ℕ) (left : ℕ → Bool) → Ordered reads stores (listed k n reads stores left)
  unfolding listed grow
  listed_ordered zero left = tt
  listed_ordered (suc k) left = go (first (ready n reads stores left) n) refl (λ i. listed_ordered k (without i left))
    where
      go : (f : ℕ) → first (ready n reads stores left) n ≡ f → ((i : ℕ) → Ordered reads stores (listed k n reads stores (without i left)))
          → Ordered reads stores (grow f (λ i. listed k n reads stores (without i left)))
      go zero e ih = tt
      go (suc i) e ih = (
        λ j h. let a = listed_members k (without i left) j h in
            let b = without_is i left j a.1 in
            not_true (λ m. clash (is_blocks reads stores left i j b.0 b.1 m) (first_none (blocks reads stores left i) n (taken left i e).2 j a.0)),
        ih i,
      )

-- ---- the taking never gets stuck: where some of the programs are left, one of these is ready

pub record NeverStuck (n : ℕ) (reads stores : ℕ → List ℕ) (all : ℕ → Bool) : Type 0 where
  pub goes_on : (left : ℕ → Bool) → ((i : ℕ) → left i ≡ true → all i ≡ true) → (i : ℕ) → i < n → left i ≡ true
      → 0 < first (ready n reads stores left) n

-- then each program is listed, and there are as many as are left
module _ {n : ℕ} {reads stores : ℕ → List ℕ} {all : ℕ → Bool} (never : NeverStuck n reads stores all) where
  pub all_listed : (k : ℕ) (left : ℕ → Bool) → ((i : ℕ) → left i ≡ true → all i ≡ true) → count left n ≤ k → (j : ℕ) → j < n → left j ≡ true
      → has j (listed k n reads stores left) ≡ true
  unfolding listed grow
  all_listed zero left sub c j l e = let t = count_some left n j l e in absurd (omega arith)
  all_listed (suc k) left sub c j l e =
      go (first (ready n reads stores left) n) refl (λ i. all_listed k (without i left) (λ x h. sub x (without_is i left x h).0))
    where
      go : (f : ℕ) → first (ready n reads stores left) n ≡ f
          → ((i : ℕ) → count (without i left) n ≤ k → (j : ℕ) → j < n → without i left j ≡ true
          → has j (listed k n reads stores (without i left)) ≡ true)
          → has j (grow f (λ i. listed k n reads stores (without i left))) ≡ true
      go zero f ih = let t = never.goes_on left sub j l e in absurd (omega arith)
      go (suc i) f ih = last (known (eqb j i))
        where
          last : (eqb j i ≡ true) ⊎ (eqb j i ≡ false) → has j (i ∷ listed k n reads stores (without i left)) ≡ true
          last (inl q) = has_at j i (listed k n reads stores (without i left)) (eqb-true j i q)
          last (inr q) =
              let t = taken n reads stores left i f in
              let v = count_without left n i t.0 t.1 in
              has_tail j i (listed k n reads stores (without i left)) (ih i (omega arith) j l (is_without i left j e (eqb-false j i q)))

  pub listed_many : (k : ℕ) (left : ℕ → Bool) → ((i : ℕ) → left i ≡ true → all i ≡ true) → count left n ≤ k
      → length (listed k n reads stores left) ≡ count left n
  unfolding listed grow
  listed_many zero left sub c = omega arith
  listed_many (suc k) left sub c =
      go (first (ready n reads stores left) n) refl (λ i. listed_many k (without i left) (λ x h. sub x (without_is i left x h).0))
    where
      go : (f : ℕ) → first (ready n reads stores left) n ≡ f
          → ((i : ℕ) → count (without i left) n ≤ k → length (listed k n reads stores (without i left)) ≡ count (without i left) n)
          → length (grow f (λ i. listed k n reads stores (without i left))) ≡ count left n
      go zero f ih = sym (count_zero left n (λ i l. not_true (λ e. let t = never.goes_on left sub i l e in omega arith)))
      go (suc i) f ih =
          let t = taken n reads stores left i f in
          let v = count_without left n i t.0 t.1 in
          let w = ih i (omega arith) in
          omega arith

-- ---- where each program has a rank, and one that blocks another ranks below it, all are listed

-- j reads what i stores, so it must be taken before i
pub record Ranked (n : ℕ) (reads stores : ℕ → List ℕ) (all : ℕ → Bool) (rank : ℕ → ℕ) : Type 0 where
  pub falls : (i j : ℕ) → i < n → j < n → all i ≡ true → all j ≡ true → j ≢ i → meets (reads j) (stores i) ≡ true → rank j < rank i

module _ {n : ℕ} {reads stores : ℕ → List ℕ} {all : ℕ → Bool} {rank : ℕ → ℕ} (ranked : Ranked n reads stores all rank) where
  -- from any program that is left, go to one that blocks it, until none does: the rank falls
  some_ready : (left : ℕ → Bool) → ((i : ℕ) → left i ≡ true → all i ≡ true) → (k i : ℕ) → rank i < k → i < n → left i ≡ true
      → 0 < first (ready n reads stores left) n
  some_ready left sub zero i h l e = absurd (omega arith)
  some_ready left sub (suc k) i h l e = go (zero_or (first (blocks reads stores left i) n)) (some_ready left sub k)
    where
      go : (first (blocks reads stores left i) n ≡ 0) ⊎ ((j : ℕ) × (first (blocks reads stores left i) n ≡ suc j))
          → ((i : ℕ) → rank i < k → i < n → left i ≡ true → 0 < first (ready n reads stores left) n) → 0 < first (ready n reads stores left) n
      go (inl z) ih = (first_some (ready n reads stores left) n i l (is_ready_lem reads stores left n i e z)).0
      go (inr z) ih =
          let t = first_is (blocks reads stores left i) n z.0 z.1 in
          let b = blocks_is reads stores left i z.0 t.1 in
          let f = ranked.falls i z.0 l t.0 (sub i e) (sub z.0 b.0) b.1 b.2 in
          ih z.0 (omega arith) t.0 b.0

  pub never_stuck : NeverStuck n reads stores all
  never_stuck = record { goes_on = λ left sub i l e. some_ready left sub (suc (rank i)) i (omega arith) l e }

  pub listed_whole : (k : ℕ) (left : ℕ → Bool) → ((i : ℕ) → left i ≡ true → all i ≡ true) → count left n ≤ k → (j : ℕ) → j < n → left j ≡ true
      → has j (listed k n reads stores left) ≡ true
  listed_whole = all_listed never_stuck

  pub length_listed : (k : ℕ) (left : ℕ → Bool) → ((i : ℕ) → left i ≡ true → all i ≡ true) → count left n ≤ k
      → length (listed k n reads stores left) ≡ count left n
  length_listed = listed_many never_stuck
