-- Each step keeps what the checks 1 to 7 have shown, opening makes it: a whole batch has to check once. Assumes nothing.
use Prim.Native.Nat.{ℕ, ◌≤◌, ◌<◌}
use mathlib.Core.Path.{◌≡◌, refl}
use mathlib.Core.List.{List}
use native.Mathlib.Omega.{arith}
use lib.ListN.{length}
use Rattle.std.specs.Prelude.{Ok, Err}
use Rattle.image.specs.declared.refusals.Refusal.{Refusal}
use Rattle.image.specs.Refusals.{passed, unless}
use Rattle.image.specs.Image.{count_of, part_of}
use Rattle.image.proofs.Refusing.{Checks, unless_done, unless_either}
use Rattle.guard.specs.Guards.{admits}
use Rattle.slot.specs.States.{last_state}
use Rattle.slot.specs.Log.{Fits}
use Rattle.machine.specs.Runs.{kept_by}
use Rattle.machine.proofs.Laws.{part_runnable, run_kept}
use Rattle.area.specs.Checks.{open_refusal, Checked}
use Rattle.area.proofs.Checks.{Passed, checked_passed}
use Rattle.area.proofs.Keeps.{state_keeps, checked_area, checked_table, checked_open}
use Rattle.steps.specs.declared.Settled.{Settled}
use Rattle.steps.specs.declared.Settled.TheVariants.{Committed, Carried}
use Rattle.steps.specs.Answers.{state_of_settled, detail_of_settled}
use Rattle.steps.specs.Opening.{cleared, open_area}
use Rattle.steps.specs.Gathering.{gather_refusal, run_at, gathered_area, gather_area}
use Rattle.steps.specs.Settling.{settle_refusal, verdict, settled_table, settled_area, settle_table, settle_area}
use Rattle.steps.proofs.Refusals.{gather_shows, settle_shows}
use Rattle.steps.proofs.Views.{placed, placed_length, placed_passed, marked, marked_length, marked_passed, gathered_length}
use Rattle.steps.proofs.Views.{gathered_passed, settled_length, table_length}

-- ---- the steps where the checks have been made

module _ (image t g a : List ℕ) (k : ℕ) (c : Checked image t a) (h : k < count_of image) where
  -- what the run of the program keeps fits its slot
  pub fits : Fits (length t) (kept_by (run_at image t g k))
  fits = run_kept (admits g) (part_of image k) t (part_runnable image c.accepted k h).short

  -- gathering, after each of its three parts
  pub placed_checked : Checked image t (placed (length t) k (run_at image t g k) a)
  placed_checked =
      checked_area image t a (placed (length t) k (run_at image t g k) a) c (placed_length (length t) (run_at image t g k) fits (count_of image) k a c.sized h)
      (placed_passed (length t) (run_at image t g k) fits (count_of image) k a c.sized h (checked_passed image t a c))

  pub marked_checked : Checked image t (marked (length t) k (run_at image t g k) a)
  marked_checked =
      checked_area image t a (marked (length t) k (run_at image t g k) a) c (marked_length (length t) (run_at image t g k) fits (count_of image) k a c.sized h)
      (marked_passed (length t) (run_at image t g k) fits (count_of image) k a c.sized h (checked_passed image t a c))

  pub gathered_checked : Checked image t (gathered_area image t g k a)
  gathered_checked =
      checked_area image t a (gathered_area image t g k a) c (gathered_length (length t) (run_at image t g k) fits (count_of image) k a c.sized h)
      (gathered_passed (length t) (run_at image t g k) fits (count_of image) k a c.sized h (checked_passed image t a c))

module _ (image t a : List ℕ) (k : ℕ) (c : Checked image t a) (h : k < count_of image) where
  settled_few : (v : Settled) → state_of_settled v ≤ last_state
  settled_few Committed = omega arith
  settled_few (Carried reason) = omega arith

  settled_passed : (v : Settled) → Passed (length t) (count_of image) (settled_area v (length t) k a)
  unfolding settled_area
  settled_passed v =
      state_keeps (length t) (count_of image) k (state_of_settled v) (detail_of_settled v) a c.sized h (settled_few v)
      (checked_passed image t a c)

  pub settled_checked : (v : Settled) → Checked image (settled_table v k a t) (settled_area v (length t) k a)
  settled_checked v =
      checked_table image t (settled_table v k a t) (settled_area v (length t) k a)
      (checked_area image t a (settled_area v (length t) k a) c (settled_length v (length t) k a) (settled_passed v))
      (table_length v k a t)

-- ---- the calls

pub open_checked : (image t g a : List ℕ) → open_refusal image t g a ≡ passed → Checked image t (open_area image t g a)
unfolding open_area
open_checked image t g a e = rw (unless_done (open_refusal image t g a) (λ r. a) (cleared a) e) (checked_open image t g a e)

module _ (image t g a : List ℕ) (k : ℕ) where
  pub gather_checked : Checked image t a → Checked image t (gather_area image t g a k)
  unfolding gather_area
  gather_checked c =
      unless_either (λ b. Checked image t b) (gather_refusal image t g a k) (λ r. a) (gathered_area image t g k a) (λ f h. c)
      (λ e. gathered_checked image t g a k c (gather_shows image t g a k e).1)

  pub settle_checked : Checked image t a → Checked image (settle_table image t g a k) (settle_area image t g a k)
  unfolding settle_table settle_area unless
  settle_checked c = go (settle_refusal image t g a k) refl
    where
      go : (r : Checks Refusal) → settle_refusal image t g a k ≡ r
          → Checked image (unless r (λ f. t) (settled_table (verdict image (length t) k a) k a t))
          (unless r (λ f. a) (settled_area (verdict image (length t) k a) (length t) k a))
      go (Ok done) e = settled_checked image t a k c (settle_shows image t g a k e).1 (verdict image (length t) k a)
      go (Err f) e = c
