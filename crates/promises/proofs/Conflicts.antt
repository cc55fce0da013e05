-- What a program that commits has not against it, under Rule 1 and Rule 2 alike, and what that says of who reads what it or another stores.
-- Assumes nothing.
use Prim.Native.Nat.{ℕ, ◌≤◌}
use mathlib.Core.Path.{◌≡◌}
use mathlib.Core.Logic.{◌⊎◌}
use mathlib.Core.Bool.{true, false}
use native.Mathlib.Omega.{arith}
use Rattle.base.specs.Words.{meets}
use Rattle.base.proofs.Members.{meets_swap}
use Rattle.base.proofs.Somes.{some_none}
use Rattle.promises.specs.Paper.{Batch, read_set, write_set, touches, raw, war, commits}

-- Rule 2's second condition, which what commits under Rule 1 meets too
pub commits_not_both : (b : Batch) (k : ℕ) → commits b k ≡ true → (raw b k ≡ false) ⊎ (war b k ≡ false)
unfolding commits
commits_not_both b k e = grind arith

pub rule1_no_raw : (b : Batch) (k : ℕ) → b.second ≡ false → commits b k ≡ true → raw b k ≡ false
unfolding commits
rule1_no_raw b k s e = grind arith

-- ---- what j reads and i stores, by their numbers

-- without RAW j reads nothing that an earlier program stores
pub no_raw_upward : (b : Batch) (i j : ℕ) → raw b j ≡ false → meets (read_set b j) (write_set b i) ≡ true → j ≤ i
unfolding touches
no_raw_upward b i j e h = grind (arith, some_none j (λ x. meets (read_set b j) (write_set b x)) e i)

-- without WAR i stores nothing that an earlier program reads
pub no_war_downward : (b : Batch) (i j : ℕ) → war b i ≡ false → meets (read_set b j) (write_set b i) ≡ true → i ≤ j
unfolding touches
no_war_downward b i j e h =
    grind (arith, meets_swap (write_set b i) (read_set b j), some_none i (λ x. meets (write_set b i) (read_set b x)) e j)
