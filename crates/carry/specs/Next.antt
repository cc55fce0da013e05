-- Document 01, "Next image": "the carried programs in number order, then the fresh image's programs, with the fresh image's rule byte." And what the
-- call answers and leaves. Assumes nothing.
use Rattle.std.specs.Prelude.{◌≡◌, List, ◌++◌, ℕ, ◌+◌, leb, length, drop, Result, Ok, Err}
use Rattle.base.specs.Words.{count}
use Rattle.image.specs.Limits.{max_programs}
use Rattle.image.specs.declared.refusals.Refusal.{Refusal}
use Rattle.image.specs.declared.refusals.Refusal.TheVariants as refusal
use Rattle.image.specs.Refusals.{passed, check, after, unless}
use Rattle.image.specs.Image.{count_of, rule_byte, fresh_refusal_of}
use Rattle.slot.specs.declared.Group.TheVariants.{Carried}
use Rattle.area.specs.Layout.{in_group}
use Rattle.area.specs.Checks.{ended_refusal}
use Rattle.writer.specs.Joined.{image_of}
use Rattle.writer.specs.Picked.{picked, all_of}

-- the carried programs, and how many there are
unfoldable pub carried_count : ℕ → ℕ → List ℕ → ℕ
carried_count T n a = count (in_group Carried T a) n

abbrev pub carried_of : ℕ → List ℕ → List ℕ → List (List ℕ)
carried_of T image a = picked (in_group Carried T a) image (count_of image)

unfoldable pub next_programs : ℕ → List ℕ → List ℕ → List ℕ → List (List ℕ)
next_programs T image a fresh = carried_of T image a ++ all_of fresh

unfoldable pub next_image : ℕ → List ℕ → List ℕ → List ℕ → List ℕ
next_image T image a fresh = image_of (rule_byte fresh) (next_programs T image a fresh)

-- "Checks go .. for the next image: 1 to 7, 9, 21 to 24, 11, 10." First what is lent,
unfoldable pub lent_refusal : (image t g a : List ℕ) → List ℕ → Result (Unit {0}) Refusal
lent_refusal image t g a fresh = after (ended_refusal image t g a) (fresh_refusal_of fresh)

-- then how large the next image is: 11, "carried plus fresh over 64"; 10, "output shorter than the next image"
unfoldable pub size_refusal : ℕ → List ℕ → List ℕ → Result (Unit {0}) Refusal
size_refusal programs next out =
    check (leb programs max_programs) refusal.TooMany
    (check (leb (length next) (length out)) refusal.TooShort
    passed)

unfoldable pub next_refusal : (image t g a : List ℕ) → List ℕ → List ℕ → Result (Unit {0}) Refusal
next_refusal image t g a fresh out =
    after (lent_refusal image t g a fresh)
    (size_refusal (carried_count (length t) (count_of image) a + count_of fresh) (next_image (length t) image a fresh) out)

unfoldable pub next_answer : (image t g a : List ℕ) → List ℕ → List ℕ → Result ℕ Refusal
next_answer image t g a fresh out =
    unless (next_refusal image t g a fresh out) Err (Ok (length (next_image (length t) image a fresh)))

-- "the output beyond the image .. untouched"
unfoldable pub next_out : (image t g a : List ℕ) → List ℕ → List ℕ → List ℕ
next_out image t g a fresh out =
    unless (next_refusal image t g a fresh out) (λ r. out)
    (next_image (length t) image a fresh ++ drop (length (next_image (length t) image a fresh)) out)

-- The contract of the call.
pub record NextSays (image t g a fresh out : List ℕ) (r : Result ℕ Refusal) (out' : List ℕ) : Type 0 where
  pub answer : r ≡ next_answer image t g a fresh out
  pub bytes : out' ≡ next_out image t g a fresh out
