-- Document 01 tried by computation on the definitions of the listed order, sentence by sentence: "Listed order". The numbers are literals.
-- Assumes nothing.
use Prim.Native.Nat.{ℕ}
use mathlib.Core.Path.{◌≡◌, refl}
use mathlib.Core.List.{List, [], ◌∷◌, ◌++◌, map}
use lib.ListN.{set, replicate}
use Rattle.image.specs.declared.refusals.RefusalNumbers.{RefusalNumbers}
use Rattle.image.specs.Refusals.{refusing, none, Counted, numbers_of_count}
use Rattle.image.specs.Assembler.{joined, image}
use Rattle.image.specs.Bench.{x, y, z}
use Rattle.guard.specs.Guards.{full_for}
use Rattle.slot.specs.declared.Group.TheVariants.{Committed}
use Rattle.slot.specs.Log.{layout}
use Rattle.area.specs.Layout.{in_group}
use Rattle.listing.specs.Order.{rising}
use Rattle.listing.specs.Listing.{order_answer, order_list}
use Rattle.listing.specs.Opened.{opened}

-- ---- how a case is written down

-- a slot in a state, with its read and its stored cells
abbrev pub slot : ℕ → (reads stores : List ℕ) → List ℕ
slot state reads stores = layout state 0 (record { reads = reads; cells = stores; values = map (λ c. 7) stores })

abbrev pub committed : (reads stores : List ℕ) → List ℕ
committed = slot 4

-- a committed program that reads and stores nothing
abbrev pub idle : List ℕ
idle = committed [] []

-- an area for the three cells x, y, z that has these marks, or none, and these slots; an image of as many programs
abbrev marked : (writers readers : List ℕ) → List (List ℕ) → List ℕ
marked writers readers slots = writers ++ readers ++ joined slots

abbrev pub area : List (List ℕ) → List ℕ
area = marked (0 ∷ 0 ∷ 0 ∷ []) (0 ∷ 0 ∷ 0 ∷ [])

abbrev pub batch : List (List ℕ) → List ℕ
batch slots = image 2 (map (λ s. []) slots)

abbrev pub table : List ℕ
table = 50 ∷ 51 ∷ 52 ∷ []

-- the numbers that the call returns, refusal and count, and the list that it leaves
abbrev pub called : (image table area list : List ℕ) → Counted × List ℕ
called image t a list = (numbers_of_count (order_answer image t (full_for t) a list), order_list image t (full_for t) a list)

abbrev pub done : ℕ → List ℕ → Counted × List ℕ
done count list = (record { refusal = none; count = count }, list)

abbrev pub refused_with : RefusalNumbers → List ℕ → Counted × List ℕ
refused_with refusal list = (record { refusal = refusal; count = 0 }, list)

abbrev pub refused : ℕ → List ℕ → Counted × List ℕ
refused number = refused_with (refusing number)

-- the call for these slots, with a list of five entries that are 9
abbrev pub nines : List ℕ
nines = replicate 5 9

abbrev pub lists : List (List ℕ) → Counted × List ℕ
lists slots = called (batch slots) table (area slots) nines

-- ---- "Listed order: repeatedly take the smallest-numbered committed program not yet taken,"

nobody_waits : lists (idle ∷ committed (x ∷ []) [] ∷ committed [] (y ∷ []) ∷ idle ∷ []) ≡ done 4 (0 ∷ 1 ∷ 2 ∷ 3 ∷ 9 ∷ [])
unfolding opened
nobody_waits = refl

-- "committed": of programs in the states 2, 3, 4, 5 and 4
only_committed : lists (slot 2 [] [] ∷ slot 3 [] [] ∷ slot 4 [] [] ∷ slot 5 [] [] ∷ slot 4 [] [] ∷ []) ≡ done 2 (2 ∷ 4 ∷ 9 ∷ 9 ∷ 9 ∷ [])
unfolding opened
only_committed = refl

-- ---- "none of whose stored cells is read by another committed program not yet taken."

-- cases 2, 4 and 5 of the bench sheet
case_2 : lists (committed (x ∷ []) (x ∷ []) ∷ committed (x ∷ y ∷ []) (y ∷ []) ∷ slot 5 (x ∷ y ∷ []) (x ∷ []) ∷ [])
    ≡ done 2 (1 ∷ 0 ∷ 9 ∷ 9 ∷ 9 ∷ [])
unfolding opened
case_2 = refl

case_4 : lists (committed (x ∷ []) (y ∷ []) ∷ committed (y ∷ []) (z ∷ []) ∷ committed (y ∷ z ∷ []) [] ∷ []) ≡ done 3 (2 ∷ 1 ∷ 0 ∷ 9 ∷ 9 ∷ [])
unfolding opened
case_4 = refl

case_5 : lists (committed (x ∷ []) (y ∷ []) ∷ committed (z ∷ []) (x ∷ []) ∷ slot 5 (y ∷ []) (z ∷ []) ∷ []) ≡ done 2 (0 ∷ 1 ∷ 9 ∷ 9 ∷ 9 ∷ [])
unfolding opened
case_5 = refl

-- "the smallest", looked for anew each time: 2 frees 1 and 1 frees 0, and both come before 3, which was free from the start. By passes it would be 2,
-- 3, 1, 0.
smaller_one_freed : lists (committed [] (x ∷ []) ∷ committed (x ∷ []) (y ∷ []) ∷ committed (y ∷ []) [] ∷ idle ∷ []) ≡ done 4 (2 ∷ 1 ∷ 0 ∷ 3 ∷ 9 ∷ [])
unfolding opened
smaller_one_freed = refl

-- 1 frees 3, but 2 is smaller; 2 frees 0, which is smaller than 3. By passes it would be 1, 2, 3, 0.
larger_one_freed : lists (committed [] (y ∷ []) ∷ committed (x ∷ []) [] ∷ committed (y ∷ []) [] ∷ committed [] (x ∷ []) ∷ [])
    ≡ done 4 (1 ∷ 2 ∷ 0 ∷ 3 ∷ 9 ∷ [])
unfolding opened
larger_one_freed = refl

-- "another": a program's own reads do not hold it up
own_reads : lists (committed (x ∷ y ∷ []) (x ∷ y ∷ []) ∷ committed (z ∷ []) (z ∷ []) ∷ []) ≡ done 2 (0 ∷ 1 ∷ 9 ∷ 9 ∷ 9 ∷ [])
unfolding opened
own_reads = refl

-- "committed": a reader in state 4 holds program 0 up, one in state 2, 3 or 5 does not
abbrev reader : ℕ → Counted × List ℕ
reader state = lists (committed [] (x ∷ []) ∷ slot state (x ∷ []) [] ∷ [])

readers : map reader (2 ∷ 3 ∷ 4 ∷ 5 ∷ [])
    ≡ done 1 (0 ∷ 9 ∷ 9 ∷ 9 ∷ 9 ∷ [])
    ∷ done 1 (0 ∷ 9 ∷ 9 ∷ 9 ∷ 9 ∷ [])
    ∷ done 2 (1 ∷ 0 ∷ 9 ∷ 9 ∷ 9 ∷ [])
    ∷ done 1 (0 ∷ 9 ∷ 9 ∷ 9 ∷ 9 ∷ [])
    ∷ []
unfolding opened
readers = refl

-- "read": another that stores the same cell does not hold it up
same_cell_stored : lists (committed [] (x ∷ []) ∷ committed [] (x ∷ []) ∷ []) ≡ done 2 (0 ∷ 1 ∷ 9 ∷ 9 ∷ 9 ∷ [])
unfolding opened
same_cell_stored = refl

-- "stored cells": each of them, up to the 32nd of the stores and of the reads
abbrev x_after : ℕ → ℕ → List ℕ
x_after k cell = replicate k cell ++ (x ∷ [])

each_cell : map (λ k. lists (committed [] (x_after k y) ∷ committed (x_after k z) [] ∷ [])) (1 ∷ 31 ∷ [])
    ≡ done 2 (1 ∷ 0 ∷ 9 ∷ 9 ∷ 9 ∷ [])
    ∷ done 2 (1 ∷ 0 ∷ 9 ∷ 9 ∷ 9 ∷ [])
    ∷ []
unfolding opened
each_cell = refl

-- and no word behind the counted ones: with a read count, or a store count, of 0 the reader, or the writer, has none
counted_alone : lists (committed [] (x ∷ []) ∷ set (committed (x ∷ []) []) 2 0 ∷ [])
    ∷ lists (set (committed [] (x ∷ [])) 3 0 ∷ committed (x ∷ []) [] ∷ [])
    ∷ []
    ≡ done 2 (0 ∷ 1 ∷ 9 ∷ 9 ∷ 9 ∷ [])
    ∷ done 2 (0 ∷ 1 ∷ 9 ∷ 9 ∷ 9 ∷ [])
    ∷ []
unfolding opened
counted_alone = refl

-- "Under Rule 1, for an area that these calls made on this image, this is rising number order": y = x; z = y, carried for 2; x is set; nothing. Marks
-- as gathering leaves them. 0 reads the x that 2 stores, as an earlier one may.
abbrev made : List ℕ
made =
    marked (3 ∷ 1 ∷ 2 ∷ []) (1 ∷ 2 ∷ 0 ∷ [])
    (committed (x ∷ []) (y ∷ []) ∷ set (slot 5 (y ∷ []) (z ∷ [])) 1 2 ∷ committed [] (x ∷ []) ∷ idle ∷ [])

rising_order : (called (image 1 (replicate 4 [])) table made nines ≡ done 3 (0 ∷ 2 ∷ 3 ∷ 9 ∷ 9 ∷ []))
    × (rising (in_group Committed 3 made) 4 ≡ 0 ∷ 2 ∷ 3 ∷ [])
unfolding opened
rising_order = (refl, refl)
