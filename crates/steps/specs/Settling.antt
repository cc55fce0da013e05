-- Document 01, "The steps": "Settling decides one gathered program and changes only its state and detail and, on a commit, the table."
-- Assumes nothing.
use Rattle.std.specs.Prelude.{ℕ, ◌≡◌, Bool, cond, ◌&&◌, List, length, Result, Ok, Err}
use Rattle.image.specs.declared.refusals.Refusal.{Refusal}
use Rattle.image.specs.declared.refusals.Refusal.TheVariants as refusal
use Rattle.image.specs.Refusals.{passed, check, after, unless}
use Rattle.image.specs.Image.{count_of, second_rule}
use Rattle.slot.specs.States.{can_settle}
use Rattle.slot.specs.declared.ListKind.TheVariants.{Reads, Stores}
use Rattle.area.specs.declared.MarkKind.TheVariants.{Write, Read}
use Rattle.area.specs.Layout.{state_of, with_state}
use Rattle.area.specs.Marks.{waw, raw, war, lowest, committed_table}
use Rattle.area.specs.Checks.{none_waits}
use Rattle.steps.specs.declared.Reason.TheVariants.{Waw, Raw, RawWithWar}
use Rattle.steps.specs.declared.Settled.{Settled}
use Rattle.steps.specs.declared.Settled.TheVariants.{Committed, Carried}
use Rattle.steps.specs.declared.Verdict.{Verdict}
use Rattle.steps.specs.declared.Verdict.TheVariants as judged
use Rattle.steps.specs.Answers.{state_of_settled, detail_of_settled}
use Rattle.steps.specs.Gathering.{step_refusal}

-- 9, "Settling: some state 0, or this one's not 1"
unfoldable pub is_ready : ℕ → ℕ → ℕ → List ℕ → Bool
is_ready T n k a = none_waits T n a && can_settle (state_of T k a)

unfoldable pub settle_refusal : (image t g a : List ℕ) → ℕ → Result (Unit {0}) Refusal
settle_refusal image t g a k =
    after (step_refusal image t g a k) (check (is_ready (length t) (count_of image) k a) refusal.State passed)

-- "Rule 1 commits without WAW and without RAW. Rule 2 commits without WAW and not with both RAW and WAR." The reasons: "1 WAW, looked at first; 2 RAW
-- (Rule 1); 3 RAW with WAR (Rule 2)".
unfoldable pub by_rule1 : (waw raw : Bool) → Settled
by_rule1 waw raw = cond waw (Carried Waw) (cond raw (Carried Raw) Committed)

unfoldable pub by_rule2 : (waw raw war : Bool) → Settled
by_rule2 waw raw war = cond waw (Carried Waw) (cond (raw && war) (Carried RawWithWar) Committed)

unfoldable pub decided : (second waw raw war : Bool) → Settled
decided second waw raw war = cond second (by_rule2 waw raw war) (by_rule1 waw raw)

-- the decision on program k by the marks and the rule
unfoldable pub verdict : List ℕ → ℕ → ℕ → List ℕ → Settled
verdict image T k a = decided (second_rule image) (waw T k a) (raw T k a) (war T k a)

-- the same with the lowest cell that shows each dependency of the reason (document 02, ask 3), and without the cells again
unfoldable pub with_cells : Settled → ℕ → ℕ → List ℕ → Verdict
with_cells Committed T k a = judged.Commit
with_cells (Carried Waw) T k a = judged.Waw (lowest Stores Write T k a)
with_cells (Carried Raw) T k a = judged.Raw (lowest Reads Write T k a)
with_cells (Carried RawWithWar) T k a = judged.RawWithWar (lowest Reads Write T k a) (lowest Stores Read T k a)

abbrev pub settled_by : Verdict → Settled
settled_by judged.Commit = Committed
settled_by (judged.Waw cell) = Carried Waw
settled_by (judged.Raw cell) = Carried Raw
settled_by (judged.RawWithWar cell other) = Carried RawWithWar

-- "A committed program's stores go into the table at its settling, in the slot's order."
unfoldable pub settled_table : Settled → ℕ → List ℕ → List ℕ → List ℕ
settled_table Committed k a t = committed_table (length t) k a t
settled_table (Carried reason) k a t = t

-- its state and detail are the decision's; "Marks and slots of carried programs stay."
unfoldable pub settled_area : Settled → ℕ → ℕ → List ℕ → List ℕ
settled_area v T k a = with_state T k (state_of_settled v) (detail_of_settled v) a

-- what the call answers and leaves
unfoldable pub settle_answer : (image t g a : List ℕ) → ℕ → Result Settled Refusal
settle_answer image t g a k = unless (settle_refusal image t g a k) Err (Ok (verdict image (length t) k a))

unfoldable pub settle_table : (image t g a : List ℕ) → ℕ → List ℕ
settle_table image t g a k = unless (settle_refusal image t g a k) (λ r. t) (settled_table (verdict image (length t) k a) k a t)

unfoldable pub settle_area : (image t g a : List ℕ) → ℕ → List ℕ
settle_area image t g a k = unless (settle_refusal image t g a k) (λ r. a) (settled_area (verdict image (length t) k a) (length t) k a)

-- The contract of the call.
pub record SettleSays (image t g a : List ℕ) (k : ℕ) (r : Result Settled Refusal) (t' a' : List ℕ) : Type 0 where
  pub answer : r ≡ settle_answer image t g a k
  pub table : t' ≡ settle_table image t g a k
  pub area : a' ≡ settle_area image t g a k

-- The same where the checks have been made.
pub record Settles (image t a : List ℕ) (k : ℕ) (r : Settled) (t' a' : List ℕ) : Type 0 where
  pub answer : r ≡ verdict image (length t) k a
  pub table : t' ≡ settled_table (verdict image (length t) k a) k a t
  pub area : a' ≡ settled_area (verdict image (length t) k a) (length t) k a
