-- The slot that a run leaves passes check 7, and is the part of the area that the runner was lent. Assumes nothing.
use Prim.Native.Nat.{ℕ, ◌+◌, ◌-◌, ◌≤◌}
use mathlib.Core.Path.{◌≡◌, ap, ◌∙◌}
use mathlib.Core.List.{List, ◌++◌}
use native.Mathlib.Omega.{arith}
use lib.ListN.{length, take, drop}
use borrow.Rule.Slice.PartMut.{put_mid, Post-is}
use Rattle.image.specs.Image.{part_of}
use Rattle.slot.specs.States.{last_state}
use Rattle.slot.specs.Layout.{slot_words}
use Rattle.slot.specs.Log.{Fits}
use Rattle.machine.specs.declared.Run.{Run}
use Rattle.machine.specs.declared.Run.TheVariants.{Finished, Rejected, Faulted}
use Rattle.machine.specs.Runs.{Outcome, run_of, state_of_run, detail_of_run, kept_by, slot_of, RunSays}
use Rattle.area.specs.Layout.{slot_start, with_slot}
use Rattle.area.proofs.Checks.{SlotPassed, layout_passed}
use Rattle.steps.specs.Gathering.{RunsInto}

state_few : (r : Run) → state_of_run r ≤ last_state
state_few Finished = omega arith
state_few (Rejected code) = omega arith
state_few (Faulted kind at) = omega arith

pub slot_passes : (T : ℕ) (o : Outcome) → Fits T (kept_by o) → SlotPassed T (slot_of o)
unfolding slot_of
slot_passes T o fits = layout_passed T (state_of_run o.answer) (detail_of_run o.answer) (kept_by o) fits (state_few o.answer)

-- the part that comes back is slot k
put_is : (T k at : ℕ) (a s : List ℕ) → at ≡ slot_start T k → put_mid at (at + slot_words - at) a s ≡ with_slot T k s a
unfolding with_slot
put_is T k at a s e =
    ap (λ (z : List ℕ). take at a ++ (s ++ z)) (Post-is at (at + slot_words) a (omega arith))
    ∙ ap (λ (x : ℕ). take x a ++ (s ++ drop (x + slot_words) a)) e

pub runs_into : (image t g a : List ℕ) (k at : ℕ) (p s : List ℕ) (r : Run) → at ≡ slot_start (length t) k → p ≡ part_of image k → RunSays p t g r s
    → RunsInto image t g a k r (put_mid at (at + slot_words - at) a s)
runs_into image t g a k at p s r e f w =
    record {
      answer = w.answer ∙ ap (λ (x : List ℕ). (run_of x t g).answer) f;
      area =
          put_is (length t) k at a s e
          ∙ ap (λ (x : List ℕ). with_slot (length t) k x a) (w.left ∙ ap (λ (x : List ℕ). slot_of (run_of x t g)) f);
    }
