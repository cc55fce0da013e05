-- Document 01, "The steps": "Opening sets the whole area to 0." Assumes nothing.
use Rattle.std.specs.Prelude.{ℕ, ◌≡◌, List, length, replicate, Result}
use Rattle.image.specs.declared.refusals.Refusal.{Refusal}
use Rattle.image.specs.Refusals.{unless}
use Rattle.area.specs.Checks.{open_refusal}

abbrev pub cleared : List ℕ → List ℕ
cleared a = replicate (length a) 0

-- the area after the call
unfoldable pub open_area : (image t g a : List ℕ) → List ℕ
open_area image t g a = unless (open_refusal image t g a) (λ r. a) (cleared a)

-- The contract of the call.
pub record OpenSays (image t g a : List ℕ) (r : Result (Unit {0}) Refusal) (a' : List ℕ) : Type 0 where
  pub answer : r ≡ open_refusal image t g a
  pub area : a' ≡ open_area image t g a
