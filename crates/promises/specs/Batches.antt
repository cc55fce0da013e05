-- A sequence of batches, from 0 to a last one: "each batch is run to its end and the next is made by this step", with any fresh images that are
-- accepted. Table and guards may be changed between two batches. Assumes nothing.
use Rattle.std.specs.Prelude.{ℕ, zero, suc, ◌≤◌, ◌<◌, ◌≡◌, true, List, length}
use Rattle.base.specs.Words.{count}
use Rattle.image.specs.Refusals.{passed}
use Rattle.image.specs.Image.{count_of, part_of}
use Rattle.slot.specs.declared.Group.TheVariants.{Carried}
use Rattle.slot.specs.States.{carried, is_done}
use Rattle.area.specs.Layout.{state_of, in_group}
use Rattle.carry.specs.Next.{next_refusal, next_image}
use Rattle.promises.specs.Laid.{World}
use Rattle.promises.specs.History.{RunToEnd}

pub record Batches (last : ℕ) (images tables guards : ℕ → List ℕ) (worlds : ℕ → World) : Type 0 where
  pub fresh : ℕ → List ℕ
  pub out : ℕ → List ℕ
  pub ends : (i : ℕ) → i ≤ last → RunToEnd (images i) (tables i) (guards i) (worlds i)
  pub accepted : (i : ℕ) → i < last → next_refusal (images i) (worlds i).table (guards i) (worlds i).area (fresh i) (out i) ≡ passed
  pub follows : (i : ℕ) → i < last → images (suc i) ≡ next_image (length (worlds i).table) (images i) (worlds i).area (fresh i)

-- batch i's own table size and the state of its program q
abbrev pub state_in : (ℕ → World) → ℕ → ℕ → ℕ
state_in worlds i q = state_of (length (worlds i).table) q (worlds i).area

-- where the program that stood in place p of batch 0 stands in batch i, as long as it is carried: behind the carried ones before it
unfoldable pub place_of : (ℕ → World) → ℕ → ℕ → ℕ
place_of worlds p zero = p
place_of worlds p (suc i) = count (in_group Carried (length (worlds i).table) (worlds i).area) (place_of worlds p i)

-- The program that stood in place p of batch 0 "is committed, rejected or faulted within p+1 batches": in the batch of some number up to p. In every
-- batch before that one it is carried; in every batch up to that one the image has it, the very same program, in its place there.
pub record EndsWithin (images : ℕ → List ℕ) (worlds : ℕ → World) (p : ℕ) : Type 0 where
  pub batch : ℕ
  pub soon : batch ≤ p
  pub done : is_done (state_in worlds batch (place_of worlds p batch)) ≡ true
  pub carried_before : (i : ℕ) → i < batch → state_in worlds i (place_of worlds p i) ≡ carried
  pub stands : (i : ℕ) → i ≤ batch → place_of worlds p i < count_of (images i)
  pub same_program : (i : ℕ) → i ≤ batch → part_of (images i) (place_of worlds p i) ≡ part_of (images 0) p
