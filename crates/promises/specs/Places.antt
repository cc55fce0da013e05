-- Document 02, ask 2: "return program and instruction too". What it means that a refusal has the place of a bad instruction, or none. Assumes
-- nothing.
use Rattle.std.specs.Prelude.{◌≡◌, ◌⊎◌, true, false, List, ℕ, Result}
use Rattle.image.specs.declared.refusals.Refusal.{Refusal}
use Rattle.image.specs.Refusals.{refusing, told, says_where}
use Rattle.image.specs.Image.{image_checks, fresh_refusal_of}

-- a number of 41 to 44 or 61 to 64 comes with the place that its source found; program and instruction are 0 and 0 with every other number
pub record Placed (source : Result (Unit {0}) Refusal → Type 0) (r : Result (Unit {0}) Refusal) : Type 0 where
  pub there : says_where (told r).number ≡ true → source r
  pub nowhere : says_where (told r).number ≡ false → told r ≡ refusing (told r).number

-- the image; and of the next image the fresh one too
abbrev pub InImage : List ℕ → Result (Unit {0}) Refusal → Type 0
InImage image r = r ≡ image_checks image

abbrev pub InEither : (image fresh : List ℕ) → Result (Unit {0}) Refusal → Type 0
InEither image fresh r = (r ≡ image_checks image) ⊎ (r ≡ fresh_refusal_of fresh)
