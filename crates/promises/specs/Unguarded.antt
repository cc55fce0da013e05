-- The batch of before: document 01's, which knows no guards. A store to a cell of the table is then never a fault. Assumes nothing.
use Rattle.std.specs.Prelude.{ℕ, ◌^◌, ◌<◌, List, length, get_or, Result}
use Rattle.image.specs.declared.refusals.Refusal.{Refusal}
use Rattle.image.specs.declared.refusals.Refusal.TheVariants as refusal
use Rattle.image.specs.Refusals.{passed, check, after}
use Rattle.image.specs.Image.{count_of, second_rule, image_checks, part_of}
use Rattle.guard.specs.Guards.{Full}
use Rattle.machine.specs.Runs.{free_run}
use Rattle.area.specs.Checks.{table_good, size_is}
use Rattle.promises.specs.Paper.{Batch}

-- its programs run as document 01 says
abbrev pub free_batch : (image t : List ℕ) → Batch
free_batch image t = record { programs = count_of image; second = second_rule image; runs = λ k. free_run (part_of image k) t }

-- its opening makes checks 1 to 6, and no 14
unfoldable pub free_refusal : (image t a : List ℕ) → Result (Unit {0}) Refusal
free_refusal image t a =
    after (image_checks image)
    (check (table_good t) refusal.TableSize
    (check (size_is (length t) (count_of image) a) refusal.AreaSize
    passed))

-- What is lent to whoever uses no guards: bytes, words, and the full range for every cell.
pub record NoGuards (image t g : List ℕ) : Type 0 where
  pub bytes : (i : ℕ) → get_or image i 0 < 256
  pub cells : (i : ℕ) → get_or t i 0 < 2 ^ 32
  pub full : Full (length t) g
