-- Who commits: what a commit tells, and the decision in the words of the call. Assumes nothing.
use mathlib.Core.Path.{◌≡◌}
use mathlib.Core.Bool.{true, false, cond}
use Prim.Native.Nat.{ℕ}
use native.Mathlib.Omega.{arith}
use Rattle.base.specs.Words.{meets}
use Rattle.base.proofs.Members.{meets_swap}
use Rattle.base.proofs.Somes.{some_none}
use Rattle.slot.specs.States.{can_settle}
use Rattle.steps.specs.declared.Reason.{Reason}
use Rattle.steps.specs.declared.Reason.TheVariants.{Waw, Raw, RawWithWar}
use Rattle.steps.specs.declared.Settled.{Settled}
use Rattle.steps.specs.declared.Settled.TheVariants.{Committed, Carried}
use Rattle.steps.specs.Answers.{state_of_settled, detail_of_settled}
use Rattle.steps.specs.Settling.{by_rule1, by_rule2, decided}
use Rattle.promises.specs.Paper.{Batch, write_set, keeps_stores, gets_settled, touches, waw, war, raw, commits, reason, state_after, detail_after}

-- ---- what a commit tells

module _ (b : Batch) (k : ℕ) where
  pub commits_keeps : commits b k ≡ true → keeps_stores b k ≡ true
  unfolding commits
  commits_keeps e = grind arith

  -- who keeps its stores is settled, and nobody else is
  pub settled_keeps : gets_settled b k ≡ keeps_stores b k
  unfolding gets_settled can_settle
  settled_keeps = grind arith

  pub commits_waw : commits b k ≡ true → waw b k ≡ false
  unfolding commits
  commits_waw e = grind arith

-- who keeps its stores and does not commit has the dependencies of its reason
abbrev pub Has : Reason → Batch → ℕ → Type 0
Has Waw b k = waw b k ≡ true
Has Raw b k = raw b k ≡ true
Has RawWithWar b k = (raw b k ≡ true) × (war b k ≡ true)

pub reason_has : (b : Batch) (k : ℕ) → keeps_stores b k ≡ true → commits b k ≡ false → Has (reason b k) b k
unfolding commits reason
reason_has b k f e = grind arith

-- two programs that commit store no common cell: the later one would have WAW
pub no_common : (b : Batch) (j k : ℕ) → (j ≡ k → ⊥) → commits b j ≡ true → commits b k ≡ true → meets (write_set b j) (write_set b k) ≡ false
unfolding touches
no_common b j k apart cj ck =
    let none_of_j = some_none j (λ i. meets (write_set b j) (write_set b i)) (commits_waw b j cj) k in
    let none_of_k = some_none k (λ i. meets (write_set b k) (write_set b i)) (commits_waw b k ck) j in
    grind (arith, meets_swap (write_set b j) (write_set b k))

-- ---- the decision

-- what settling answers of program k
unfoldable pub decision_on : Batch → ℕ → Settled
decision_on b k = cond (commits b k) Committed (Carried (reason b k))

module _ (b : Batch) (k : ℕ) (f : gets_settled b k ≡ true) where
  -- the rules of the call are the paper's
  pub decided_is : decided b.second (waw b k) (raw b k) (war b k) ≡ decision_on b k
  unfolding decided by_rule1 by_rule2 decision_on commits reason
  decided_is = grind (arith, settled_keeps b k)

  -- and so are the numbers that it leaves in the slot
  pub decision_state : state_of_settled (decision_on b k) ≡ state_after b k
  unfolding decision_on state_after
  decision_state = grind arith

  pub decision_detail : detail_of_settled (decision_on b k) ≡ detail_after b k
  unfolding decision_on detail_after
  decision_detail = grind arith
