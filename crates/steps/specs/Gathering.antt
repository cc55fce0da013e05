-- Document 01, "The steps": "Gathering runs one waiting program on the table lent to it (its opening table), rewrites that whole slot and makes all its
-- reservations". Assumes nothing.
use Rattle.std.specs.Prelude.{ℕ, ◌≡◌, Bool, List, length, eqb, ltb, Result, Ok, Err}
use Rattle.image.specs.declared.refusals.Refusal.{Refusal}
use Rattle.image.specs.declared.refusals.Refusal.TheVariants as refusal
use Rattle.image.specs.Refusals.{passed, check, after, unless}
use Rattle.image.specs.Image.{count_of, part_of}
use Rattle.slot.specs.States.{waiting}
use Rattle.slot.specs.Log.{Log}
use Rattle.machine.specs.declared.Run.{Run}
use Rattle.machine.specs.Runs.{Outcome, run_of, kept_by, slot_of}
use Rattle.area.specs.declared.MarkKind.TheVariants.{Write, Read}
use Rattle.area.specs.Layout.{marks_at, state_of, with_slot}
use Rattle.area.specs.Marks.{reserve}
use Rattle.area.specs.Checks.{call_refusal}

-- checks 1 to 8, with 14 in its place, which every step begins with
unfoldable pub step_refusal : (image t g a : List ℕ) → ℕ → Result (Unit {0}) Refusal
step_refusal image t g a k = after (call_refusal image t g a) (check (ltb k (count_of image)) refusal.Number passed)

-- 9, "gathering: state not 0"
unfoldable pub waits : ℕ → ℕ → List ℕ → Bool
waits T k a = eqb (state_of T k a) waiting

unfoldable pub gather_refusal : (image t g a : List ℕ) → ℕ → Result (Unit {0}) Refusal
gather_refusal image t g a k = after (step_refusal image t g a k) (check (waits (length t) k a) refusal.State passed)

-- program k of the image on the table t, with the guards g
abbrev pub run_at : (image t g : List ℕ) → ℕ → Outcome
run_at image t g k = run_of (part_of image k) t g

-- program k reserves what it stores and what it reads; one that rejects or faults keeps nothing to reserve
unfoldable pub reserved : ℕ → ℕ → Log → List ℕ → List ℕ
reserved T k l a = reserve (marks_at Read T) l.reads k (reserve (marks_at Write T) l.cells k a)

unfoldable pub gathered_by : ℕ → ℕ → Outcome → List ℕ → List ℕ
gathered_by T k o a = reserved T k (kept_by o) (with_slot T k (slot_of o) a)

-- the area after program k is gathered, and after the call
abbrev pub gathered_area : (image t g : List ℕ) → ℕ → List ℕ → List ℕ
gathered_area image t g k a = gathered_by (length t) k (run_at image t g k) a

unfoldable pub gather_answer : (image t g a : List ℕ) → ℕ → Result Run Refusal
gather_answer image t g a k = unless (gather_refusal image t g a k) Err (Ok (run_at image t g k).answer)

unfoldable pub gather_area : (image t g a : List ℕ) → ℕ → List ℕ
gather_area image t g a k = unless (gather_refusal image t g a k) (λ r. a) (gathered_area image t g k a)

-- The contract of the call.
pub record GatherSays (image t g a : List ℕ) (k : ℕ) (r : Result Run Refusal) (a' : List ℕ) : Type 0 where
  pub answer : r ≡ gather_answer image t g a k
  pub area : a' ≡ gather_area image t g a k

-- The same where the checks have been made.
pub record Gathers (image t g a : List ℕ) (k : ℕ) (r : Run) (a' : List ℕ) : Type 0 where
  pub answer : r ≡ (run_at image t g k).answer
  pub area : a' ≡ gathered_area image t g k a

-- The run alone, in its slot.
pub record RunsInto (image t g a : List ℕ) (k : ℕ) (r : Run) (a' : List ℕ) : Type 0 where
  pub answer : r ≡ (run_at image t g k).answer
  pub area : a' ≡ with_slot (length t) k (slot_of (run_at image t g k)) a
