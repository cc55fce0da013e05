-- Document 02, ask 5: "the batch program lends the full range". A batch with the full range for every cell is the batch of before, so that nothing
-- has changed for whoever uses no guards. Assumes nothing.
use Prim.Native.Nat.{ℕ, ◌^◌, ◌<◌}
use mathlib.Core.Path.{◌≡◌, ap, ◌∙◌}
use mathlib.Core.List.{List}
use lib.ListN.{length, get_or}
use native.Mathlib.Omega.{arith}
use Rattle.std.specs.Prelude.{Ok, Err}
use Rattle.base.proofs.Tables.{tabulate_length}
use borrow.Author.Tests.{eq-eqb}
use Rattle.image.specs.Refusals.{check, unless}
use Rattle.image.specs.Image.{count_of, second_rule, part_of}
use Rattle.image.proofs.Laws.{part_bytes}
use Rattle.guard.specs.Guards.{guard_words, pairs_for, full_end, full_for}
use Rattle.guard.proofs.Laws.{full_range_lem}
use Rattle.machine.specs.Runs.{free_run}
use Rattle.machine.proofs.Guarded.{full_is_free}
use Rattle.area.specs.Checks.{room_refusal, open_refusal, Paired}
use Rattle.steps.specs.Gathering.{gather_refusal, run_at, gathered_by, gather_answer, gather_area}
use Rattle.promises.specs.Paper.{Batch, batch_of}
use Rattle.promises.specs.Laid.{World, end_of}
use Rattle.promises.specs.History.{RunToEnd}
use Rattle.promises.specs.Unguarded.{free_batch, free_refusal, NoGuards}
use Rattle.promises.proofs.Histories.{paper_end}

module _ (image t g : List ℕ) (lent : NoGuards image t g) where
  -- every program's run is document 01's
  pub free_run_lem : (k : ℕ) → run_at image t g k ≡ free_run (part_of image k) t
  free_run_lem k = full_is_free (part_of image k) t g (part_bytes image lent.bytes k) lent.cells lent.full

  pub free_batch_lem : batch_of image t g ≡ free_batch image t
  free_batch_lem = λ i. record { programs = count_of image; second = second_rule image; runs = λ k. free_run_lem k i }

  -- however a batch is run to its end, table and work area are those of the batch of before
  pub free_end : (w : World) → RunToEnd image t g w → w ≡ end_of (free_batch image t) t
  free_end w run = paper_end image t g w run ∙ ap (λ (b : Batch). end_of b t) free_batch_lem

  -- and so is what each gathering answers and leaves, in whatever area
  pub free_gathering : (a : List ℕ) (k : ℕ)
      → (gather_answer image t g a k ≡ unless (gather_refusal image t g a k) Err (Ok (free_run (part_of image k) t).answer))
      × (gather_area image t g a k ≡ unless (gather_refusal image t g a k) (λ r. a) (gathered_by (length t) k (free_run (part_of image k) t) a))
  unfolding gather_answer gather_area
  free_gathering a k = (rw (free_run_lem k), rw (free_run_lem k))

-- the checks are those of before, where there is a pair for each cell
pub free_checks : (image t g a : List ℕ) → Paired t g → open_refusal image t g a ≡ free_refusal image t a
unfolding open_refusal room_refusal pairs_for free_refusal check
free_checks image t g a pairs = rw (eq-eqb (length g) (guard_words (length t)) pairs)

-- and what `batch` and `why` lend is that: the full range, a pair for each cell
pub full_lent : (image t : List ℕ) → ((i : ℕ) → get_or image i 0 < 256) → ((i : ℕ) → get_or t i 0 < 2 ^ 32)
    → NoGuards image t (full_for t) × Paired t (full_for t)
full_lent image t bytes cells =
    let full = full_range_lem (guard_words (length t)) (length t) (omega arith) in
    (record { bytes = bytes; cells = cells; full = full }, tabulate_length full_end (guard_words (length t)))
