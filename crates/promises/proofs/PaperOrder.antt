-- The listed order of the paper's batch, with no area in sight: it names each committed program once and nobody else, and under Rule 1 it rises.
-- Assumes nothing.
use Prim.Native.Nat.{ℕ, ◌+◌, ◌-◌}
use mathlib.Core.Path.{◌≡◌}
use mathlib.Core.Bool.{true, false, cond, ◌&&◌}
use mathlib.Core.List.{List}
use native.Mathlib.Omega.{arith}
use lib.Dec.{ltb}
use lib.ListN.{length}
use borrow.Author.Tests.{ltb-true, lt-ltb}
use Rattle.base.specs.Words.{count, has, distinct}
use Rattle.base.proofs.Bools.{and_both, both_and, same_test}
use Rattle.base.proofs.Counts.{count_le}
use Rattle.listing.specs.Order.{Ordered, listed, rising}
use Rattle.listing.proofs.Whole.{listed_members, listed_distinct, listed_ordered, Ranked, listed_whole, length_listed}
use Rattle.listing.proofs.Rising.{listed_rising}
use Rattle.promises.specs.Paper.{Batch, read_set, write_set, raw, commits}
use Rattle.promises.proofs.Conflicts.{commits_not_both, rule1_no_raw, no_raw_upward, no_war_downward}

unfoldable pub paper_order : Batch → List ℕ
paper_order b = listed b.programs b.programs (λ k. read_set b k) (λ k. write_set b k) (commits b)

-- Those with RAW come first, the largest number first, then the others by number: one without RAW reads nothing that an earlier one stores, one
-- without WAR stores nothing that an earlier one reads, and each that commits is without one of them.
rank : Batch → ℕ → ℕ
rank b k = cond (raw b k) (b.programs - k) (b.programs + k)

module _ (b : Batch) where
  ranked : Ranked b.programs (λ k. read_set b k) (λ k. write_set b k) (commits b) (rank b)
  unfolding rank
  ranked =
      record { falls = λ i j li lj ei ej ne h. grind (arith, commits_not_both b i ei, no_war_downward b i j, no_raw_upward b i j) }

  pub order_members : (k : ℕ) → has k (paper_order b) ≡ ltb k b.programs && commits b k
  unfolding paper_order
  order_members k =
      same_test
      (λ h. let t = listed_members b.programs (λ k. read_set b k) (λ k. write_set b k) b.programs (commits b) k h in both_and (lt-ltb _ _ t.0) t.1)
      (λ h. let t = and_both (ltb k b.programs) (commits b k) h in
      listed_whole ranked b.programs (commits b) (λ i e. e) (count_le (commits b) b.programs) k (ltb-true _ _ t.0) t.1)

  pub order_distinct : distinct (paper_order b) ≡ true
  unfolding paper_order
  order_distinct = listed_distinct b.programs (λ k. read_set b k) (λ k. write_set b k) b.programs (commits b)

  pub order_length : length (paper_order b) ≡ count (commits b) b.programs
  unfolding paper_order
  order_length = length_listed ranked b.programs (commits b) (λ i e. e) (count_le (commits b) b.programs)

  pub order_ordered : Ordered (λ k. read_set b k) (λ k. write_set b k) (paper_order b)
  unfolding paper_order
  order_ordered = listed_ordered b.programs (λ k. read_set b k) (λ k. write_set b k) b.programs (commits b)

  -- under Rule 1 a committed program reads nothing that an earlier one stores
  pub order_rising : b.second ≡ false → paper_order b ≡ rising (commits b) b.programs
  unfolding paper_order
  order_rising s = listed_rising (record { up = λ i j li lj ei ej h. no_raw_upward b i j (rule1_no_raw b j s ej) h })
