-- The paper's batch laid out as document 01's table and work area, also on the way, when only some programs have been gathered and some settled.
-- Assumes nothing.
use Rattle.std.specs.Prelude.{ℕ, zero, suc, Bool, true, cond, ◌&&◌, List, [], ◌++◌, length, replicate}
use Rattle.base.specs.Words.{first, tabulate, has}
use Rattle.slot.specs.States.{has_run, is_settled}
use Rattle.slot.specs.Layout.{slot_words}
use Rattle.slot.specs.Log.{cells_of, layout}
use Rattle.machine.specs.Runs.{slot_of}
use Rattle.area.specs.declared.MarkKind.{MarkKind}
use Rattle.area.specs.declared.MarkKind.TheVariants.{Write, Read}
use Rattle.area.specs.Layout.{state_of}
use Rattle.area.specs.Marks.{list_for}
use Rattle.promises.specs.Paper.{Batch, batch_of, sets, commits, state_after, detail_after, installed}

-- a table and a work area
pub record World : Type 0 where
  pub table : List ℕ
  pub area : List ℕ

-- "0, or 1 + the smallest number of a gathered program that stores (reads) the cell"
unfoldable pub mark_on : MarkKind → Batch → (gathered : ℕ → Bool) → ℕ → ℕ
mark_on m b gathered c = first (λ k. gathered k && has c (cells_of (list_for m) (sets b k))) b.programs

-- program k's slot: all 0 while it waits, then its run's, then with the state and detail that it ends with
unfoldable pub slot_on : Batch → (gathered settled : ℕ → Bool) → ℕ → List ℕ
slot_on b gathered settled k =
    cond (gathered k)
    (cond (settled k) (layout (state_after b k) (detail_after b k) (sets b k)) (slot_of (b.runs k)))
    (replicate slot_words 0)

unfoldable pub slots_to : Batch → (gathered settled : ℕ → Bool) → ℕ → List ℕ
slots_to b gathered settled zero = []
slots_to b gathered settled (suc k) = slots_to b gathered settled k ++ slot_on b gathered settled k

-- T write marks, T read marks, the slots
unfoldable pub area_on : Batch → (gathered settled : ℕ → Bool) → ℕ → List ℕ
area_on b gathered settled T =
    tabulate (mark_on Write b gathered) T ++ (tabulate (mark_on Read b gathered) T ++ slots_to b gathered settled b.programs)

-- the table has the stores of the committed programs that have been settled
unfoldable pub table_on : Batch → (settled : ℕ → Bool) → List ℕ → List ℕ
table_on b settled t = installed b (λ k. settled k && commits b k) b.programs t

-- a batch on its opening table, on the way, and at its end
abbrev pub laid_on : Batch → (t : List ℕ) → (gathered settled : ℕ → Bool) → World
laid_on b t gathered settled = record { table = table_on b settled t; area = area_on b gathered settled (length t) }

abbrev pub all : ℕ → Bool
all k = true

abbrev pub end_of : Batch → (t : List ℕ) → World
end_of b t = laid_on b t all all

-- the batch of an image on its opening table with its guards, on the way, and at its end
abbrev pub world_on : (image t g : List ℕ) → (gathered settled : ℕ → Bool) → World
world_on image t g = laid_on (batch_of image t g) t

abbrev pub paper_world : (image t g : List ℕ) → World
paper_world image t g = end_of (batch_of image t g) t

-- which programs an area says are gathered, and which settled
unfoldable pub gathered_in : ℕ → List ℕ → ℕ → Bool
gathered_in T a k = has_run (state_of T k a)

unfoldable pub settled_in : ℕ → List ℕ → ℕ → Bool
settled_in T a k = is_settled (state_of T k a)
