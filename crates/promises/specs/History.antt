-- Histories: any list of steps, played from an opened batch by the calls' own contracts, "with nobody else changing image, table or work area", and
-- "with the same guards" (document 02, ask 5). A refused step changes nothing, as the contracts say. Assumes nothing.
use Rattle.std.specs.Prelude.{ℕ, ◌<◌, ◌≡◌, Bool, true, false, ◌||◌, List, [], ◌∷◌, eqb, length}
use Rattle.image.specs.Image.{count_of}
use Rattle.image.specs.Refusals.{passed}
use Rattle.area.specs.Checks.{open_refusal, all_ended}
use Rattle.steps.specs.Opening.{open_area}
use Rattle.steps.specs.Gathering.{gather_area}
use Rattle.steps.specs.Settling.{settle_table, settle_area}
use Rattle.promises.specs.Paper.{batch_of, gets_settled}
use Rattle.promises.specs.Laid.{World}

-- any program number at all, in the image or not
pub data Step : Type 0 where
  gather : ℕ → Step
  settle : ℕ → Step

-- what the call leaves: of gathering the table stays, which it is lent to read; the guards g, lent to read at every call, always do
unfoldable pub after_step : (image g : List ℕ) → Step → World → World
after_step image g (gather k) w = record { table = w.table; area = gather_area image w.table g w.area k }
after_step image g (settle k) w = record { table = settle_table image w.table g w.area k; area = settle_area image w.table g w.area k }

unfoldable pub played : (image g : List ℕ) → List Step → World → World
played image g [] w = w
played image g (s ∷ h) w = played image g h (after_step image g s w)

-- a batch opened on the table t with the guards g in the area a, and a history of it with the same guards
unfoldable pub opening : (image t g a : List ℕ) → World
opening image t g a = record { table = t; area = open_area image t g a }

abbrev pub world_after : (image t g a : List ℕ) → List Step → World
world_after image t g a h = played image g h (opening image t g a)

-- no state is 0 or 1
unfoldable pub is_over : List ℕ → World → Bool
is_over image w = all_ended (length w.table) (count_of image) w.area

-- the step stands in the history
unfoldable pub gathers : ℕ → List Step → Bool
gathers k [] = false
gathers k (gather j ∷ h) = eqb k j || gathers k h
gathers k (settle j ∷ h) = gathers k h

unfoldable pub settles : ℕ → List Step → Bool
settles k [] = false
settles k (gather j ∷ h) = settles k h
settles k (settle j ∷ h) = eqb k j || settles k h

-- Every program's gathering stands in the first part and every gathered program's settling in the second, whatever stands between them.
pub record Whole (image t g : List ℕ) (first second : List Step) : Type 0 where
  pub all_gathered : (k : ℕ) → k < count_of image → gathers k first ≡ true
  pub all_settled : (k : ℕ) → k < count_of image → gets_settled (batch_of image t g) k ≡ true → settles k second ≡ true

-- A batch run to its end: it was opened, a history was played, and no state is 0 or 1.
pub record RunToEnd (image t g : List ℕ) (w : World) : Type 0 where
  pub found : List ℕ
  pub history : List Step
  pub opens : open_refusal image t g found ≡ passed
  pub plays : w ≡ world_after image t g found history
  pub over : is_over image w ≡ true
