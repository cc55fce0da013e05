-- A turn of a loop: a search that goes up through the numbers, and a walk over the words of a part. Assumes nothing.
use mathlib.Core.Path.{◌≡◌}
use mathlib.Core.Logic.{◌⊎◌, inl, inr}
use mathlib.Core.Bool.{Bool, true, false}
use mathlib.Core.List.{List, [], ◌∷◌}
use Prim.Native.Nat.{ℕ, suc, ◌+◌, ◌-◌, ◌≤◌, ◌<◌}
use native.Mathlib.Omega.{arith}
use lib.Dec.{ltb}
use lib.ListN.{length, get_or}
use lib.Seq.{drop-cons}
use borrow.Author.Tests.{ltb-true, ltb-false}
use Rattle.base.specs.Words.{first, words}
use Rattle.base.proofs.Bools.{known, clash}
use Rattle.base.proofs.Numbers.{first_none, first_unique}

-- ---- the search for the first number that passes: none yet, none at i either, i is the one

pub first_at : (p : ℕ → Bool) (n i : ℕ) → first p i ≡ 0 → p i ≡ true → i < n → i + 1 ≡ first p n
first_at p n i e f l =
    first_unique p n (i + 1)
    (λ j k q. go j q (known (ltb j i)))
    (λ j q. let z : i ≡ j = omega arith in (omega arith, rw z at f))
  where
    go : (j : ℕ) → p j ≡ true → (ltb j i ≡ true) ⊎ (ltb j i ≡ false) → (0 < i + 1) × (i + 1 ≤ suc j)
    go j q (inl b) = clash q (first_none p i e j (ltb-true j i b))
    go j q (inr b) = omega (arith, ltb-false j i b)

-- ---- a walk over the n words from a place on: k of them are passed

pub words_start : (l : List ℕ) (at n : ℕ) → words (at + 0) (n - 0) l ≡ words at n l
words_start l at n = let e : at + 0 ≡ at = omega arith in let f : n - 0 ≡ n = omega arith in rw (e, f)

module _ (l : List ℕ) (at n : ℕ) (lies : at + n ≤ length l) where
  pub words_next : (k : ℕ) → k < n → words (at + k) (n - k) l ≡ get_or l (at + k) 0 ∷ words (at + (k + 1)) (n - (k + 1)) l
  unfolding words
  words_next k h =
      let e : n - k ≡ suc (n - (k + 1)) = omega arith in
      let f : suc (at + k) ≡ at + (k + 1) = omega arith in
      rw (e, drop-cons l (at + k) 0 (omega arith), f)

  pub words_end : (k : ℕ) → n ≤ k → words (at + k) (n - k) l ≡ []
  unfolding words
  words_end k h = let e : n - k ≡ 0 = omega arith in rw e
