-- Document 01, "Bench sheet": cases 1 to 12, each with its image, its opening table and what is to come of it. Cells 0, 1, 2 are x, y, z. And the
-- same of guarded cells (document 02, ask 5). Assumes nothing.
use Rattle.std.specs.Prelude.{ℕ, zero, suc, ◌-◌, List, [], ◌∷◌, ◌++◌, length, replicate}
use Rattle.base.specs.Words.{tabulate}
use Rattle.image.specs.Image.{count_of}
use Rattle.image.specs.Assembler.{set, load, store, sub, reject, program, image}
use Rattle.image.specs.Bench.{x, y, z, increment, copy, example_1, example_2, example_3, empty}
use Rattle.guard.specs.Guards.{full_for}
use Rattle.area.specs.Layout.{area_words, state_of, detail_of}
use Rattle.listing.specs.Listing.{order_of}
use Rattle.promises.specs.Laid.{World, paper_world}
use Rattle.promises.specs.History.{Step, gather, settle, world_after}

-- ---- a case

-- each program's state and detail, the table, and the listed order
pub record Result : Type 0 where
  pub states : List ℕ
  pub details : List ℕ
  pub table : List ℕ
  pub order : List ℕ

pub record Case : Type 0 where
  pub batch : List ℕ
  pub table : List ℕ
  pub guards : List ℕ
  pub expected : Result

-- ---- what comes of it

abbrev pub result_in : List ℕ → World → Result
result_in i w = record {
  states = tabulate (λ k. state_of (length w.table) k w.area) (count_of i);
  details = tabulate (λ k. detail_of (length w.table) k w.area) (count_of i);
  table = w.table;
  order = order_of (length w.table) (count_of i) w.area;
}

-- one step for each of the first n programs, in number order
unfoldable pub each_of : (ℕ → Step) → ℕ → List Step
each_of step zero = []
each_of step (suc n) = each_of step n ++ (step n ∷ [])

-- "It opens, gathers and settles in number order", here in an area that held something else
abbrev pub used : (image t : List ℕ) → List ℕ
used image t = replicate (area_words (length t) (count_of image)) 7

abbrev pub in_number_order : List ℕ → List Step
in_number_order image = each_of gather (count_of image) ++ each_of settle (count_of image)

abbrev pub run_whole : (image t g : List ℕ) → World
run_whole image t g = world_after image t g (used image t) (in_number_order image)

abbrev pub by_the_calls : Case → World
by_the_calls c = run_whole c.batch c.table c.guards

abbrev pub by_the_paper : Case → World
by_the_paper c = paper_world c.batch c.table c.guards

-- ---- the sheet, written with the assembler and the examples of the image's own cases

-- stores a value
abbrev pub put : ℕ → ℕ → List ℕ
put cell value = program (set 0 cell ∷ set 1 value ∷ store 0 1 ∷ [])

abbrev pub guarded : (batch table guards : List ℕ) → (states details after order : List ℕ) → Case
guarded batch table guards states details after order =
    record {
      batch = batch;
      table = table;
      guards = guards;
      expected = record { states = states; details = details; table = after; order = order };
    }

-- "the batch program lends the full range"
abbrev pub case : (batch table : List ℕ) → (states details after order : List ℕ) → Case
case batch table = guarded batch table (full_for table)

abbrev pub sheet : List Case
sheet =
    -- 1. 004's Example 1, Rule 1: 0 committed, 1 carried for 2, 2 carried for 1; x=10, y=4
    case (example_1 1) (9 ∷ 4 ∷ []) (4 ∷ 5 ∷ 5 ∷ []) (0 ∷ 2 ∷ 1 ∷ []) (10 ∷ 4 ∷ []) (0 ∷ [])
    -- 2. under Rule 2: 0 and 1 committed, 2 carried for 1; x=10, y=5; order 1, 0
    ∷ case (example_1 2) (9 ∷ 4 ∷ []) (4 ∷ 4 ∷ 5 ∷ []) (0 ∷ 0 ∷ 1 ∷ []) (10 ∷ 5 ∷ []) (1 ∷ 0 ∷ [])
    -- 3. Example 2, Rule 1: only 0; y=1
    ∷ case (example_2 1) (1 ∷ 2 ∷ 3 ∷ []) (4 ∷ 5 ∷ 5 ∷ []) (0 ∷ 2 ∷ 2 ∷ []) (1 ∷ 1 ∷ 3 ∷ []) (0 ∷ [])
    -- 4. under Rule 2 all commit: y=1, z=2, order 2, 1, 0
    ∷ case (example_2 2) (1 ∷ 2 ∷ 3 ∷ []) (4 ∷ 4 ∷ 4 ∷ []) (0 ∷ 0 ∷ 0 ∷ []) (1 ∷ 1 ∷ 2 ∷ []) (2 ∷ 1 ∷ 0 ∷ [])
    -- 5. Example 3, Rule 2: 0 and 1; x=3, y=1, z=3; order 0, 1; 2 carried for 3
    ∷ case (example_3 2) (1 ∷ 2 ∷ 3 ∷ []) (4 ∷ 4 ∷ 5 ∷ []) (0 ∷ 0 ∷ 3 ∷ []) (3 ∷ 1 ∷ 3 ∷ []) (0 ∷ 1 ∷ [])
    -- 6. under Rule 1 the same, but 2 is carried for 2
    ∷ case (example_3 1) (1 ∷ 2 ∷ 3 ∷ []) (4 ∷ 4 ∷ 5 ∷ []) (0 ∷ 0 ∷ 2 ∷ []) (3 ∷ 1 ∷ 3 ∷ []) (0 ∷ 1 ∷ [])
    -- 7. an image of 6 bytes: table unchanged, empty order
    ∷ case empty (1 ∷ 2 ∷ 3 ∷ []) [] [] (1 ∷ 2 ∷ 3 ∷ []) []
    -- 8. T=4, a store to cell 4: faulted, detail 513; with 3 it commits
    ∷ case (image 0 (program (set 0 4 ∷ store 0 0 ∷ []) ∷ [])) (1 ∷ 2 ∷ 3 ∷ 9 ∷ []) (3 ∷ []) (513 ∷ []) (1 ∷ 2 ∷ 3 ∷ 9 ∷ []) []
    ∷ case (image 0 (program (set 0 3 ∷ store 0 0 ∷ []) ∷ [])) (1 ∷ 2 ∷ 3 ∷ 9 ∷ []) (4 ∷ []) (0 ∷ []) (1 ∷ 2 ∷ 3 ∷ 3 ∷ []) (0 ∷ [])
    -- 9. stores x; stores x and y; stores y: 1 and 2 are both carried for 1
    ∷ case (image 1 (put x 7 ∷ (put x 8 ++ put y 8) ∷ put y 9 ∷ [])) (1 ∷ 2 ∷ []) (4 ∷ 5 ∷ 5 ∷ []) (0 ∷ 1 ∷ 1 ∷ []) (7 ∷ 2 ∷ []) (0 ∷ [])
    -- 10. program 0 stores x, then rejects with 7; program 1 loads x, which gives the opening value, and stores it to y
    ∷ case (image 1 ((put x 8 ++ reject 7) ∷ copy x y ∷ [])) (1 ∷ 2 ∷ []) (2 ∷ 4 ∷ []) (7 ∷ 0 ∷ []) (1 ∷ 1 ∷ []) (1 ∷ [])
    -- 11. one program loads and then stores x: it commits under both rules
    ∷ case (image 1 (increment ∷ [])) (1 ∷ []) (4 ∷ []) (0 ∷ []) (2 ∷ []) (0 ∷ [])
    ∷ case (image 2 (increment ∷ [])) (1 ∷ []) (4 ∷ []) (0 ∷ []) (2 ∷ []) (0 ∷ [])
    -- 12. 0 − 1 gives 4294967295
    ∷ case (image 1 (program (set 1 1 ∷ sub 1 0 1 ∷ store 0 1 ∷ []) ∷ [])) (1 ∷ []) (4 ∷ []) (0 ∷ []) (4294967295 ∷ []) (0 ∷ [])
    ∷ []

-- ---- "The heater set point is signed and must stay between two ends": x is the heater, from -20 to 45, y takes nothing, z is not guarded

-- a negative number as a word
abbrev minus : ℕ → ℕ
minus n = 4294967296 - n

abbrev pub heater : List ℕ
heater = minus 20 ∷ 45 ∷ 1 ∷ 0 ∷ full_for (0 ∷ [])

-- x takes from x
abbrev lower_by : ℕ → List ℕ
lower_by n = program (load 1 0 ∷ set 2 n ∷ sub 1 1 2 ∷ store 0 1 ∷ [])

abbrev pub heater_sheet : List Case
heater_sheet =
    -- from 5 down by 25 to the low end, and by 26 below it: kind 3 at instruction 3, so that it stores nothing, reserves nothing and is not carried
    guarded (image 1 (lower_by 25 ∷ [])) (5 ∷ 6 ∷ 7 ∷ []) heater (4 ∷ []) (0 ∷ []) (minus 20 ∷ 6 ∷ 7 ∷ []) (0 ∷ [])
    ∷ guarded (image 1 (lower_by 26 ∷ copy x z ∷ [])) (5 ∷ 6 ∷ 7 ∷ []) heater (3 ∷ 4 ∷ []) (771 ∷ 0 ∷ []) (5 ∷ 6 ∷ 5 ∷ []) (1 ∷ [])
    -- up to the high end, and above it
    ∷ guarded (image 1 (put x 45 ∷ [])) (5 ∷ 6 ∷ 7 ∷ []) heater (4 ∷ []) (0 ∷ []) (45 ∷ 6 ∷ 7 ∷ []) (0 ∷ [])
    ∷ guarded (image 1 (put x 46 ∷ [])) (5 ∷ 6 ∷ 7 ∷ []) heater (3 ∷ []) (770 ∷ []) (5 ∷ 6 ∷ 7 ∷ []) []
    -- "low above high closes the cell", also to the value that it has; what stands there at the opening is not judged, in y or in x
    ∷ guarded (image 1 (put y 6 ∷ copy y z ∷ copy x z ∷ [])) (99 ∷ 6 ∷ 7 ∷ []) heater (3 ∷ 4 ∷ 5 ∷ []) (770 ∷ 0 ∷ 1 ∷ []) (99 ∷ 6 ∷ 6 ∷ []) (1 ∷ [])
    -- "Kind 2 comes before kind 3": a store to cell 3, which a list of four pairs would guard
    ∷ guarded (image 1 (put 3 46 ∷ [])) (5 ∷ 6 ∷ 7 ∷ []) heater (3 ∷ []) (514 ∷ []) (5 ∷ 6 ∷ 7 ∷ []) []
    -- every store is judged, also one that the same program would overwrite: 46, and then 45
    ∷ guarded (image 1 ((put x 46 ++ put x 45) ∷ [])) (5 ∷ 6 ∷ 7 ∷ []) heater (3 ∷ []) (770 ∷ []) (5 ∷ 6 ∷ 7 ∷ []) []
    ∷ []
