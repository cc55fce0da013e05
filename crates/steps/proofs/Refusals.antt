-- What a step that is not refused has passed. Assumes nothing.
use Prim.Native.Nat.{ℕ, ◌<◌}
use mathlib.Core.Path.{◌≡◌}
use mathlib.Core.List.{List}
use lib.Dec.{ltb}
use borrow.Author.Tests.{ltb-true}
use Rattle.image.specs.declared.refusals.Refusal.TheVariants as refusal
use Rattle.image.specs.Refusals.{passed}
use Rattle.image.specs.Image.{count_of}
use Rattle.image.proofs.Refusing.{none_fails, none_after, checking, refused_as_lem, done_as}
use Rattle.area.specs.Checks.{call_refusal, Checked, Paired}
use Rattle.area.proofs.Checks.{checked, paired, program_lies, measured}
use Rattle.steps.specs.Gathering.{step_refusal, gather_refusal}
use Rattle.steps.specs.Settling.{settle_refusal}

module _ (image t g a : List ℕ) (k : ℕ) where
  pub step_shows : step_refusal image t g a k ≡ passed → Checked image t a × (k < count_of image)
  unfolding step_refusal
  step_shows e =
      let w = none_after (call_refusal image t g a) _ e in
      (checked image t g a w.0, ltb-true _ _ (none_fails (ltb k (count_of image)) refusal.Number _ w.1).0)

  step_pairs : step_refusal image t g a k ≡ passed → Paired t g
  unfolding step_refusal
  step_pairs e = paired image t g a (none_after (call_refusal image t g a) _ e).0

  -- of gathering also that the guards are pairs
  pub gather_shows : gather_refusal image t g a k ≡ passed → Checked image t a × (k < count_of image) × Paired t g
  unfolding gather_refusal
  gather_shows e =
      let w = (none_after (step_refusal image t g a k) _ e).0 in
      let s = step_shows w in
      (s.0, s.1, step_pairs w)

  pub settle_shows : settle_refusal image t g a k ≡ passed → Checked image t a × (k < count_of image)
  unfolding settle_refusal
  settle_shows e = step_shows (none_after (step_refusal image t g a k) _ e).0

-- how the steps go: check by check, with what those before have shown, and then what is done
pub ruleset step_by_check = (checking, program_lies, measured, step_shows)

pub ruleset done_by_check = (checking, refused_as_lem, done_as, gather_shows, settle_shows)
