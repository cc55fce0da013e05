-- The page of the program `why` (document 02, asks 3 and 5): of each program of a settled batch, in number order, why it ended as it did. What the library answers
-- stands in `causes`, what is then said in `sentences`. Assumes nothing.
use Rattle.std.specs.Prelude.{ℕ, ◌+◌, ◌-◌, ◌*◌, ◌/◌, ◌%◌, ◌<◌, ◌≡◌, Bool, cond, ◌&&◌, List, ◌++◌, eqb, length, Option, Some, None, Result, Ok, Err}
use Rattle.base.specs.Words.{count}
use Rattle.text.specs.Filled.{texts}
use Rattle.image.specs.Limits.{max_programs}
use Rattle.image.specs.declared.refusals.Refusal.{Refusal}
use Rattle.image.specs.declared.refusals.Refusal.TheVariants as refusal
use Rattle.image.specs.Refusals.{passed}
use Rattle.image.specs.Image.{count_of, refusal_of, part_of}
use Rattle.guard.specs.Guards.{low_of, high_of}
use Rattle.slot.specs.declared.Group.TheVariants.{Committed, Carried}
use Rattle.slot.specs.States as state
use Rattle.machine.specs.declared.Store.{Store}
use Rattle.machine.specs.Runs as run
use Rattle.machine.specs.Runs.{store_at}
use Rattle.area.specs.declared.Batch.{Batch}
use Rattle.area.specs.Layout.{state_of, detail_of, in_group}
use Rattle.area.specs.Checks.{Paired, Measured, HasSlot}
use Rattle.steps.specs.Gathering.{run_at}
use Rattle.causes.specs.declared.answers.Why.{Why}
use Rattle.causes.specs.declared.answers.Why.TheVariants as why
use Rattle.causes.specs.declared.answers.Cause.{Cause}
use Rattle.causes.specs.Why.{why_answer, before_answer}
use Rattle.refused.specs.Refused.{refused_line}
use Rattle.sentences.specs.Sentences.{free, turned, waw, raw, raw_with_war, again, rejected, load_fault, store_fault, guard_fault, longest}

-- ---- by what the library answers

-- a committed program, by before whom it comes
unfoldable pub committed_text : Result (Option Cause) Refusal → (number : ℕ) → List ℕ
committed_text (Ok None) number = free number
committed_text (Ok (Some cause)) number = turned number cause
committed_text (Err r) number = refused_line r

-- "a program in place p (from 0) is committed, rejected or faulted within p+1 batches": so says the page of a carried program's place in the next batch
unfoldable pub again_text : (place : ℕ) → List ℕ
again_text place = again place (place + 1)

-- a carried program, by why it was carried
unfoldable pub why_text : Why → (number : ℕ) → List ℕ
why_text (why.Waw cause) number = waw number cause
why_text (why.Raw cause) number = raw number cause
why_text (why.RawWithWar cause war) number = raw_with_war number cause war

unfoldable pub carried_text : Result Why Refusal → (number place : ℕ) → List ℕ
carried_text (Ok why) number place = why_text why number ++ again_text place
carried_text (Err r) number place = refused_line r

-- a faulted program of a table of T cells, by its detail, "256 × kind + instruction number"; one that no load and no store outside the table leaves is refused
unfoldable pub faulted_text : (number detail T : ℕ) → List ℕ
faulted_text number detail T =
    cond (eqb (detail / 256) run.load_fault) (load_fault number (detail % 256) (T - 1))
    (cond (eqb (detail / 256) run.store_fault) (store_fault number (detail % 256) (T - 1))
    (refused_line refusal.Reason))

-- ---- a fault of kind 3

-- whether program k has one
unfoldable pub guard_faulted : (T k : ℕ) → List ℕ → Bool
guard_faulted T k a = eqb (state_of T k a) state.faulted && eqb (detail_of T k a / 256) run.guard_fault

-- the store at which its run stopped, which was on the table as it was when the batch was opened
abbrev pub last_store : (image opening g : List ℕ) → ℕ → Store
last_store image opening g k = store_at (part_of image k) (run_at image opening g k).last

-- what is said of it, with the two ends of that cell's guard
unfoldable pub guard_text : (image opening g : List ℕ) → (number place : ℕ) → List ℕ
guard_text image opening g number place =
    let store = last_store image opening g number in
    guard_fault number place store (low_of g store.cell) (high_of g store.cell)

-- ---- the page

-- "Next image: the carried programs in number order": the place of a carried program there is the number of those before it
unfoldable pub place_of : (T k : ℕ) → List ℕ → ℕ
place_of T k a = count (in_group Carried T a) k

-- program k, by the state that it ended in; one that has not ended is refused
unfoldable pub ended_text : (image t g a : List ℕ) → ℕ → List ℕ
ended_text image t g a k =
    cond (eqb (state_of (length t) k a) state.rejected) (rejected k (detail_of (length t) k a))
    (cond (eqb (state_of (length t) k a) state.faulted) (faulted_text k (detail_of (length t) k a) (length t))
    (cond (in_group Committed (length t) a k) (committed_text (before_answer image t g a k) k)
    (cond (in_group Carried (length t) a k) (carried_text (why_answer image t g a k) k (place_of (length t) k a))
    (refused_line refusal.State))))

-- program k: one that a guard stopped, or any other
unfoldable pub program_text : (image opening t g a : List ℕ) → ℕ → List ℕ
program_text image opening t g a k =
    cond (guard_faulted (length t) k a) (guard_text image opening g k (detail_of (length t) k a % 256)) (ended_text image t g a k)

-- every program
unfoldable pub reasons_text : (image opening t g a : List ℕ) → List ℕ
reasons_text image opening t g a = texts (program_text image opening t g a) (count_of image)

-- the most bytes of a page
abbrev pub longest_page : ℕ
longest_page = max_programs * longest

-- ---- what the functions need and leave

-- What a page is told of: an image that is not refused, the table as it was when the batch was opened and as it is, its guards, and an area for both.
pub record CanTell (image opening t g a : List ℕ) : Type 0 where
  pub accepted : refusal_of image ≡ passed
  pub measured : Measured (length t) (count_of image) a
  pub cells_some : 0 < length t
  pub same_cells : length opening ≡ length t
  pub pairs : Paired opening g

-- What is needed for the store at which program k's run stopped.
pub record CanRerun (image opening g : List ℕ) (k : ℕ) : Type 0 where
  pub accepted : refusal_of image ≡ passed
  pub within : k < count_of image
  pub pairs : Paired opening g

-- ---- the same of what is lent of a batch

abbrev pub ended_of : Batch → (k : ℕ) → List ℕ
ended_of b k = ended_text b.image.now b.table.now b.guards.now b.area.now k

abbrev pub program_of : (opening : List ℕ) → Batch → (k : ℕ) → List ℕ
program_of opening b k = program_text b.image.now opening b.table.now b.guards.now b.area.now k

abbrev pub reasons_of : (opening : List ℕ) → Batch → List ℕ
reasons_of opening b = reasons_text b.image.now opening b.table.now b.guards.now b.area.now

abbrev pub CanTellOf : (opening : List ℕ) → Batch → Type 0
CanTellOf opening b = CanTell b.image.now opening b.table.now b.guards.now b.area.now

-- what is needed of program k's slot, and for its run again
abbrev pub CanEnd : Batch → (k : ℕ) → Type 0
CanEnd b k = HasSlot (length b.table.now) k b.area.now × (0 < length b.table.now)

abbrev pub CanStop : (opening : List ℕ) → Batch → (k : ℕ) → Type 0
CanStop opening b k = CanRerun b.image.now opening b.guards.now k
