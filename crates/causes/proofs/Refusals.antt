-- What a question that is not refused has passed, and what is not refused. Assumes nothing.
use Prim.Native.Nat.{ℕ, ◌<◌}
use mathlib.Core.Path.{◌≡◌, refl}
use mathlib.Core.Bool.{true}
use mathlib.Core.List.{List}
use lib.ListN.{length}
use borrow.Author.Tests.{lt-ltb}
use Rattle.image.specs.Refusals.{passed}
use Rattle.image.specs.Image.{count_of}
use Rattle.image.proofs.Refusing.{checking, goes_on, first_passes, none_after}
use Rattle.area.specs.Checks.{call_refusal, all_ended, Checked}
use Rattle.area.proofs.Checks.{measured, program_lies}
use Rattle.steps.specs.Gathering.{step_refusal}
use Rattle.steps.proofs.Refusals.{step_shows}
use Rattle.causes.specs.Why.{ask_refusal, carried_refusal}

module _ (image t g a : List ℕ) (k : ℕ) where
  pub ask_shows : ask_refusal image t g a k ≡ passed → Checked image t a × (k < count_of image)
  unfolding ask_refusal
  ask_shows e = step_shows image t g a k (none_after (step_refusal image t g a k) _ e).0

  pub carried_shows : carried_refusal image t g a k ≡ passed → Checked image t a × (k < count_of image)
  unfolding carried_refusal
  carried_shows e = ask_shows (none_after (ask_refusal image t g a k) _ e).0

  -- where all of them pass
  pub ask_passes : call_refusal image t g a ≡ passed → k < count_of image → all_ended (length t) (count_of image) a ≡ true
      → passed ≡ ask_refusal image t g a k
  unfolding ask_refusal step_refusal
  ask_passes e l ended = first_passes (first_passes refl e (goes_on _ (lt-ltb _ _ l) refl)) refl (goes_on _ ended refl)

-- what the checks need, and what those before them have shown
pub ruleset asking = (checking, step_shows, measured)

pub ruleset carrying = (checking, ask_shows, program_lies)
