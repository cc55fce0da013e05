-- No program waits for ever: program 0 is never carried, and each carried program moves forward. Assumes nothing.
use Prim.Native.Nat.{ℕ, ◌<◌}
use mathlib.Core.Path.{◌≡◌}
use mathlib.Core.Bool.{false}
use mathlib.Core.List.{List}
use lib.ListN.{length}
use Rattle.image.specs.Image.{count_of}
use Rattle.slot.specs.declared.Group.TheVariants.{Carried}
use Rattle.area.specs.Layout.{in_group}
use Rattle.promises.specs.Laid.{World}
use Rattle.promises.specs.History.{RunToEnd}
use Rattle.promises.specs.Batches.{Batches, EndsWithin}
use Rattle.promises.proofs.AtEnd.{paper_ends, end_zero}
use Rattle.promises.proofs.Carrying.{ends_within}

-- "Number 0 is never carried."
pub zero_never_carried : (image t g : List ℕ) (w : World) → RunToEnd image t g w → in_group Carried (length t) w.area 0 ≡ false
zero_never_carried image t g w run = end_zero (paper_ends run)

-- "So where each batch is run to its end and the next is made by this step, a program in place p (from 0) is committed, rejected or faulted within
-- p+1 batches."
pub within_batches : (p : ℕ) (images tables guards : ℕ → List ℕ) (worlds : ℕ → World) → Batches p images tables guards worlds
    → p < count_of (images 0) → EndsWithin images worlds p
within_batches p images tables guards worlds batches l = ends_within batches l
