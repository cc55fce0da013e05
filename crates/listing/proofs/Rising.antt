-- Rising number order: the numbers that pass, in rising order, and when the listed order is that. Assumes nothing.
use mathlib.Core.Path.{◌≡◌, refl, sym, ◌∙◌, ap}
use mathlib.Core.Logic.{◌⊎◌, inl, inr}
use mathlib.Core.Bool.{Bool, true, false, cond}
use mathlib.Core.List.{List, [], ◌∷◌, ◌++◌, append-nil}
use Prim.Native.Nat.{ℕ, zero, suc, ◌≤◌, ◌<◌}
use native.Mathlib.Omega.{arith}
use Rattle.base.specs.Words.{first, has, meets}
use Rattle.base.proofs.Bools.{clash, not_true}
use Rattle.base.proofs.Numbers.{zero_or, below, first_some, first_is, first_none, none_first}
use Rattle.base.proofs.Members.{has_cases, has_head, has_tail, has_none, has_left, has_right, has_either, has_only}
use Rattle.base.proofs.Counts.{count_le}
use Rattle.listing.specs.Order.{blocks, ready, without, grow, listed, rising}
use Rattle.listing.proofs.Taken.{without_is, blocks_is, is_ready_lem}
use Rattle.listing.proofs.Whole.{listed_members, Ranked, listed_whole}

-- each member is below all that follow
abbrev Rising : List ℕ → Type 0
Rising [] = Unit {0}
Rising (i ∷ l) = ((j : ℕ) → has j l ≡ true → i < j) × Rising l

-- rising lists with the same members are equal
rising_unique : (l l' : List ℕ) → Rising l → Rising l' → ((j : ℕ) → has j l ≡ true → has j l' ≡ true) → ((j : ℕ) → has j l' ≡ true → has j l ≡ true)
    → l ≡ l'
rising_unique [] [] u v f g = refl
rising_unique [] (y ∷ l') u v f g = absurd (has_none y (g y (has_head y l')))
rising_unique (x ∷ l) [] u v f g = absurd (has_none x (f x (has_head x l)))
rising_unique (x ∷ l) (y ∷ l') u v f g =
    let e : x ≡ y = heads (has_cases x y l' (f x (has_head x l))) (has_cases y x l (g y (has_head y l'))) in
    let t : l ≡ l' = rising_unique l l' u.1 v.1
    (λ j h. other j y l' (has_cases j y l' (f j (has_tail j x l h))) (let a = u.0 j h in λ q. omega arith))
    (λ j h. other j x l (has_cases j x l (g j (has_tail j y l' h))) (let a = v.0 j h in λ q. omega arith)) in
    rw (e, t)
  where
    heads : (x ≡ y) ⊎ (has x l' ≡ true) → (y ≡ x) ⊎ (has y l ≡ true) → x ≡ y
    heads (inl e) q = e
    heads (inr e) (inl q) = sym q
    heads (inr e) (inr q) = let a = v.0 x e in let b = u.0 y q in absurd (omega arith)

    other : (j z : ℕ) (m : List ℕ) → (j ≡ z) ⊎ (has j m ≡ true) → (j ≡ z → ⊥) → has j m ≡ true
    other j z m (inl e) h = absurd (h e)
    other j z m (inr e) h = e

-- ---- the numbers that pass, in rising order

pub rising_members : (test : ℕ → Bool) (n j : ℕ) → has j (rising test n) ≡ true → (j < n) × (test j ≡ true)
unfolding rising
rising_members test zero j h = absurd (has_none j h)
rising_members test (suc n) j h = go (has_either j (rising test n) (cond (test n) (n ∷ []) []) h) (test n) refl (rising_members test n j)
  where
    go : (has j (rising test n) ≡ true) ⊎ (has j (cond (test n) (n ∷ []) []) ≡ true) → (b : Bool) → test n ≡ b
        → (has j (rising test n) ≡ true → (j < n) × (test j ≡ true)) → (j < suc n) × (test j ≡ true)
    go (inl p) b e ih = let t = ih p in (omega arith, t.1)
    go (inr p) true e ih = let q : j ≡ n = has_only j n (rw e at p) in (omega arith, ap test q ∙ e)
    go (inr p) false e ih = absurd (has_none j (rw e at p))

pub members_rising : (test : ℕ → Bool) (n j : ℕ) → j < n → test j ≡ true → has j (rising test n) ≡ true
unfolding rising
members_rising test zero j l e = absurd (omega arith)
members_rising test (suc n) j l e = go (below j n l) (λ h. members_rising test n j h e)
  where
    go : (j ≡ n) ⊎ (j < n) → (j < n → has j (rising test n) ≡ true) → has j (rising test n ++ cond (test n) (n ∷ []) []) ≡ true
    go (inl q) ih = has_right j (rising test n) (cond (test n) (n ∷ []) []) (rw (← q, e) (has_head j []))
    go (inr q) ih = has_left j (rising test n) (cond (test n) (n ∷ []) []) (ih q)

-- it depends on what passes below n alone
pub rising_ext : (test test' : ℕ → Bool) (n : ℕ) → ((i : ℕ) → i < n → test i ≡ test' i) → rising test n ≡ rising test' n
unfolding rising
rising_ext test test' zero h = refl
rising_ext test test' (suc n) h = rw (h n (omega arith), rising_ext test test' n (λ i l. h i (omega arith)))

rising_snoc : (l : List ℕ) (x : ℕ) → Rising l → ((j : ℕ) → has j l ≡ true → j < x) → Rising (l ++ (x ∷ []))
rising_snoc [] x u h = (λ j k. absurd (has_none j k), tt)
rising_snoc (y ∷ l) x u h = (λ j k. go j (has_either j l (x ∷ []) k), rising_snoc l x u.1 (λ j k. h j (has_tail j y l k)))
  where
    go : (j : ℕ) → (has j l ≡ true) ⊎ (has j (x ∷ []) ≡ true) → y < j
    go j (inl k) = u.0 j k
    go j (inr k) = let e = has_only j x k in let f = h y (has_head y l) in omega arith

rising_rises : (test : ℕ → Bool) (n : ℕ) → Rising (rising test n)
unfolding rising
rising_rises test zero = tt
rising_rises test (suc n) = go (test n) (rising_rises test n)
  where
    go : (b : Bool) → Rising (rising test n) → Rising (rising test n ++ cond b (n ∷ []) [])
    go true ih = rising_snoc (rising test n) n ih (λ j h. (rising_members test n j h).0)
    go false ih = rw append-nil ih

-- ---- where no program reads what an earlier one stores, the smallest that is left can always be taken

pub record Upward (n : ℕ) (reads stores : ℕ → List ℕ) (all : ℕ → Bool) : Type 0 where
  pub up : (i j : ℕ) → i < n → j < n → all i ≡ true → all j ≡ true → meets (reads j) (stores i) ≡ true → j ≤ i

module _ {n : ℕ} {reads stores : ℕ → List ℕ} {all : ℕ → Bool} (upward : Upward n reads stores all) where
  -- so the one that is taken is the smallest that is left
  smallest : (left : ℕ → Bool) → ((i : ℕ) → left i ≡ true → all i ≡ true) → (i j : ℕ) → first (ready n reads stores left) n ≡ suc i → j < n
      → left j ≡ true → i ≤ j
  smallest left sub i j e l h = go (zero_or (first left n))
    where
      go : (first left n ≡ 0) ⊎ ((x : ℕ) × (first left n ≡ suc x)) → i ≤ j
      go (inl z) = clash h (first_none left n z j l)
      go (inr z) =
          let t = first_is left n z.0 z.1 in
          let ez : first left n ≡ suc z.0 = z.1 in
          let free : first (blocks reads stores left z.0) n ≡ 0 = none_first (blocks reads stores left z.0) n (λ y ly. not_true (λ b.
          let u = blocks_is reads stores left z.0 y b in
          let a = upward.up z.0 y t.0 ly (sub z.0 t.1) (sub y u.0) u.2 in
          let s = first_some left n y ly u.0 in
          u.1 (omega arith))) in
          let a = first_some (ready n reads stores left) n z.0 t.0 (is_ready_lem reads stores left n z.0 t.1 free) in
          let s = first_some left n j l h in
          omega arith

  listed_rises : (k : ℕ) (left : ℕ → Bool) → ((i : ℕ) → left i ≡ true → all i ≡ true) → Rising (listed k n reads stores left)
  unfolding listed grow
  listed_rises zero left sub = tt
  listed_rises (suc k) left sub =
      go (first (ready n reads stores left) n) refl (λ i. listed_rises k (without i left) (λ x h. sub x (without_is i left x h).0))
    where
      go : (f : ℕ) → first (ready n reads stores left) n ≡ f → ((i : ℕ) → Rising (listed k n reads stores (without i left)))
          → Rising (grow f (λ i. listed k n reads stores (without i left)))
      go zero e ih = tt
      go (suc i) e ih = (
        λ j h. let a = listed_members n reads stores k (without i left) j h in
            let b = without_is i left j a.1 in
            let c = smallest left sub i j e a.0 b.0 in
            omega (arith, b.1),
        ih i,
      )

  -- such an order has everybody: the number itself is a rank
  ranked : Ranked n reads stores all (λ i. i)
  ranked = record { falls = λ i j li lj ei ej ne h. let u = upward.up i j li lj ei ej h in omega arith }

  pub listed_rising : listed n n reads stores all ≡ rising all n
  listed_rising =
      rising_unique (listed n n reads stores all) (rising all n) (listed_rises n all (λ i e. e)) (rising_rises all n)
      (λ j h. let t = listed_members n reads stores n all j h in members_rising all n j t.0 t.1)
      (λ j h. let t = rising_members all n j h in listed_whole ranked n all (λ i e. e) (count_le all n) j t.0 t.1)
