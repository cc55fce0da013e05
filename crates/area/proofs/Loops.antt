-- The loops over a slot's lists: what has been passed is done, as the list says it. Assumes nothing.
use Prim.Native.Nat.{ℕ, suc, ◌+◌, ◌-◌, ◌≤◌, ◌<◌}
use mathlib.Core.Path.{◌≡◌, refl, sym, ◌∙◌}
use mathlib.Core.Bool.{Bool, true}
use mathlib.Core.List.{List, [], ◌∷◌, ◌++◌}
use native.Mathlib.Omega.{arith}
use lib.ListN.{length, get_or, set, take, drop}
use Rattle.std.specs.List.{list_all}
use Rattle.std.proofs.lemmas.List.Recursion.{and_at, and_from_places}
use Rattle.base.specs.Words.{every, words}
use Rattle.base.proofs.Bools.{same_test}
use Rattle.base.proofs.Numbers.{every_at, every_from}
use Rattle.base.proofs.Parts.{words_length, words_at, words_snoc}
use Rattle.area.specs.Marks.{mark_of, lower, reserve, store_all}

-- ---- a loop that reserves

reserve_snoc : (at : ℕ) (cs : List ℕ) (c k : ℕ) (a : List ℕ)
    → reserve at (cs ++ (c ∷ [])) k a ≡ set (reserve at cs k a) (at + c) (lower (get_or (reserve at cs k a) (at + c) 0) (mark_of k))
unfolding reserve
reserve_snoc at [] c k a = refl
reserve_snoc at (x ∷ cs) c k a = reserve_snoc at cs c k (set a (at + x) _)

-- no cell of the list, and one more of them
pub reserve_none : (marks at k : ℕ) (a : List ℕ) → reserve marks (words at 0 a) k a ≡ a
unfolding reserve words
reserve_none marks at k a = refl

pub reserve_more : (marks at i k : ℕ) (a : List ℕ) → at + i < length a
    → reserve marks (words at (i + 1) a) k a
    ≡ set (reserve marks (words at i a) k a) (marks + get_or a (at + i) 0)
    (lower (get_or (reserve marks (words at i a) k a) (marks + get_or a (at + i) 0) 0) (mark_of k))
reserve_more marks at i k a lies =
    let e : i + 1 ≡ suc i = omega arith in
    rw (e, words_snoc at i a lies) (reserve_snoc _ (words at i a) _ _ _)

-- ---- a loop that stores

store_snoc : (cs vs : List ℕ) (c v : ℕ) (t : List ℕ) → length cs ≡ length vs
    → store_all (cs ++ (c ∷ [])) (vs ++ (v ∷ [])) t ≡ set (store_all cs vs t) c v
unfolding store_all
store_snoc [] [] c v t e = refl
store_snoc [] (y ∷ vs) c v t e = absurd (omega arith)
store_snoc (x ∷ cs) [] c v t e = absurd (omega arith)
store_snoc (x ∷ cs) (y ∷ vs) c v t e = store_snoc cs vs c v (set t x y) (omega arith)

-- no store, and one more
pub store_none : (cells values : ℕ) (a t : List ℕ) → store_all (words cells 0 a) (words values 0 a) t ≡ t
unfolding store_all words
store_none cells values a t = refl

pub store_more : (cells values i : ℕ) (a t : List ℕ) → cells + i < length a → values + i < length a
    → store_all (words cells (i + 1) a) (words values (i + 1) a) t
    ≡ set (store_all (words cells i a) (words values i a) t) (get_or a (cells + i) 0) (get_or a (values + i) 0)
store_more cells values i a t l m =
    let same : length (words cells i a) ≡ length (words values i a) =
    words_length cells i a (omega arith) ∙ sym (words_length values i a (omega arith)) in
    let e : i + 1 ≡ suc i = omega arith in
    rw (e, words_snoc cells i a l, words_snoc values i a m) (store_snoc (words cells i a) (words values i a) _ _ _ same)

-- ---- the words of a list, as the code lends them

module _ (at count : ℕ) (a : List ℕ) where
  pub lent_words : take (at + count - at) (drop at a) ≡ words at count a
  unfolding words
  lent_words = let e : at + count - at ≡ count = omega arith in rw e

  -- all of them pass a test
  pub all_lent : at + count ≤ length a → (test : ℕ → Bool) → list_all test (words at count a) ≡ every count (λ i. test (get_or a (at + i) 0))
  all_lent lies test = same_test (λ e. every_from count _ (λ i l. rw (words_at at count a i l) at (each e i l))) (λ e. all (every_at count _ e))
    where
      full : length (words at count a) ≡ count
      full = words_length at count a lies

      each : list_all test (words at count a) ≡ true → (i : ℕ) → i < count → test (get_or (words at count a) i 0) ≡ true
      each e i l = and_at (list_all test) test refl (λ x xs. refl) _ i 0 (omega (arith, full)) e

      all : ((i : ℕ) → i < count → test (get_or a (at + i) 0) ≡ true) → list_all test (words at count a) ≡ true
      all f = and_from_places (list_all test) test refl (λ x xs. refl) _ 0 (λ i l. let h : i < count = omega (arith, full) in rw (words_at at count a i h) (f i h))
