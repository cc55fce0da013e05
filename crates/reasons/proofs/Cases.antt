-- The page tried by computation on the definitions: pages of the bench sheet whole, as they are printed, and areas that no batch leaves. The numbers are
-- literals. Assumes nothing.
use Prim.Native.Nat.{ℕ, ◌+◌, ◌*◌}
use mathlib.Core.Path.{◌≡◌, refl}
use mathlib.Core.List.{List, [], ◌∷◌, ◌++◌}
use lib.ListN.{length, replicate}
use Rattle.text.specs.Ascii.{ascii}
use Rattle.image.specs.Image.{count_of}
use Rattle.image.specs.Assembler.{set, load, store, sub, reject, program, image}
use Rattle.image.specs.Bench.{example_1, example_3, empty}
use Rattle.guard.specs.Guards.{full_for}
use Rattle.area.specs.Layout.{area_words}
use Rattle.area.specs.Sketch.{slot, area}
use Rattle.steps.specs.Opening.{open_area}
use Rattle.steps.specs.Gathering.{gather_area}
use Rattle.steps.specs.Settling.{settle_table, settle_area}
use Rattle.reasons.specs.Reasons.{reasons_text}
use Rattle.reasons.specs.Opened.{opened}

-- ---- how a case is written: the batch of an image on a table is opened, its programs are gathered and settled in this order, and then comes the page

abbrev gathered : (image t g a : List ℕ) → List ℕ → List ℕ
gathered image t g a [] = a
gathered image t g a (k ∷ ks) = gathered image t g (gather_area image t g a k) ks

abbrev settled : (image opening t g a : List ℕ) → List ℕ → List ℕ
settled image opening t g a [] = reasons_text image opening t g a
settled image opening t g a (k ∷ ks) = settled image opening (settle_table image t g a k) g (settle_area image t g a k) ks

abbrev guarded_page : (image t g order : List ℕ) → List ℕ
guarded_page image t g order =
    settled image t t g (gathered image t g (open_area image t g (replicate (area_words (length t) (count_of image)) 7)) order) order

abbrev page : (image t order : List ℕ) → List ℕ
page image t order = guarded_page image t (full_for t) order

-- ---- the bench sheet

-- case 2, "x=x+1; y=x−y; x=x+y" under Rule 2
case_2 : page (example_1 2) (9 ∷ 4 ∷ []) (0 ∷ 1 ∷ 2 ∷ [])
    ≡ ascii "0 committed\n"
    ++ ascii "  No earlier program stores a cell that it reads or stores, so its stores are in the table.\n"
    ++ ascii "1 committed\n"
    ++ ascii "  It read cell 0 as it was when the batch was opened, while program 0 stores it,\n"
    ++ ascii "  so it comes before program 0 (0 -> 1), and its stores are in the table.\n"
    ++ ascii "2 carried waw cell 0 program 0\n"
    ++ ascii "  It stores cell 0, and so does program 0, which comes first: the two cannot both count in one batch.\n"
    ++ ascii "  Its reservations stay; it runs again in the next batch, as number 0, and ends within 1 more batch.\n"
unfolding opened
case_2 = refl

-- case 1, the same under Rule 1: the second carried program has the next place and one more batch
case_1 : page (example_1 1) (9 ∷ 4 ∷ []) (0 ∷ 1 ∷ 2 ∷ [])
    ≡ ascii "0 committed\n"
    ++ ascii "  No earlier program stores a cell that it reads or stores, so its stores are in the table.\n"
    ++ ascii "1 carried raw cell 0 program 0\n"
    ++ ascii "  It read cell 0 as it was when the batch was opened, while program 0, which comes first, stores it.\n"
    ++ ascii "  Its reservations stay; it runs again in the next batch, as number 0, and ends within 1 more batch.\n"
    ++ ascii "2 carried waw cell 0 program 0\n"
    ++ ascii "  It stores cell 0, and so does program 0, which comes first: the two cannot both count in one batch.\n"
    ++ ascii "  Its reservations stay; it runs again in the next batch, as number 1, and ends within 2 more batches.\n"
unfolding opened
case_1 = refl

-- case 5, "y=x; x=z; z=y" under Rule 2
case_5 : page (example_3 2) (1 ∷ 2 ∷ 3 ∷ []) (0 ∷ 1 ∷ 2 ∷ [])
    ≡ ascii "0 committed\n"
    ++ ascii "  No earlier program stores a cell that it reads or stores, so its stores are in the table.\n"
    ++ ascii "1 committed\n"
    ++ ascii "  No earlier program stores a cell that it reads or stores, so its stores are in the table.\n"
    ++ ascii "2 carried raw cell 1 program 0 war cell 2 program 1\n"
    ++ ascii "  It would have to come before program 0, which stores cell 1 that it read as it was (RAW, 0 -> 2),\n"
    ++ ascii "  and after program 1, which read cell 2 that it stores (WAR, 2 -> 1): the two can close a circle.\n"
    ++ ascii "  Its reservations stay; it runs again in the next batch, as number 0, and ends within 1 more batch.\n"
unfolding opened
case_5 = refl

-- one that rejects, one that loads and one that stores outside a table of 4 cells, as in case 8
stopped : page (image 1 (program (reject 7 ∷ []) ∷ program (set 0 9 ∷ set 1 0 ∷ load 1 0 ∷ []) ∷ program (set 0 4 ∷ store 0 0 ∷ []) ∷ [])) (1 ∷ 2 ∷ 3 ∷ 9 ∷ [])
    (0 ∷ 1 ∷ 2 ∷ [])
    ≡ ascii "0 rejected code 7\n"
    ++ ascii "  It rejected with code 7, so it stores nothing, reserves nothing and is not carried.\n"
    ++ ascii "1 faulted load at 2\n"
    ++ ascii "  Its instruction 2, counted from 0, loads a cell outside the table, whose last cell is 3.\n"
    ++ ascii "  It stores nothing, reserves nothing and is not carried.\n"
    ++ ascii "2 faulted store at 1\n"
    ++ ascii "  Its instruction 1, counted from 0, stores to a cell outside the table, whose last cell is 3.\n"
    ++ ascii "  It stores nothing, reserves nothing and is not carried.\n"
unfolding opened
stopped = refl

-- ---- a guard: cell 0 is a heater that must stay between -20 and 45, cell 1 is closed, cell 2 is open

abbrev heater : List ℕ
heater = 4294967276 ∷ 45 ∷ 1 ∷ 0 ∷ 2147483648 ∷ 2147483647 ∷ []

-- one stores 46 to the heater, one -21, one 45, which is let in, and one 0 to the closed cell; then the third is told as any other. The second has read what
-- the third stores: its value is that of its own run, which was on the table as it was opened, and not one that comes of the table as it is
too_hot : guarded_page (image 1 (
    program (set 1 46 ∷ store 0 1 ∷ []) ∷ program (load 1 0 ∷ set 2 20 ∷ sub 1 1 2 ∷ store 0 1 ∷ [])
    ∷ program (set 1 45 ∷ store 0 1 ∷ []) ∷ program (set 0 1 ∷ store 0 7 ∷ []) ∷ []
    )) (4294967295 ∷ 5 ∷ 6 ∷ []) heater (0 ∷ 1 ∷ 2 ∷ 3 ∷ [])
    ≡ ascii "0 faulted guard at 1\n"
    ++ ascii "  Its instruction 1, counted from 0, stores 46 to cell 0, whose guard asks for at least -20 and at most 45.\n"
    ++ ascii "  It stores nothing, reserves nothing and is not carried.\n"
    ++ ascii "1 faulted guard at 3\n"
    ++ ascii "  Its instruction 3, counted from 0, stores -21 to cell 0, whose guard asks for at least -20 and at most 45.\n"
    ++ ascii "  It stores nothing, reserves nothing and is not carried.\n"
    ++ ascii "2 committed\n"
    ++ ascii "  No earlier program stores a cell that it reads or stores, so its stores are in the table.\n"
    ++ ascii "3 faulted guard at 1\n"
    ++ ascii "  Its instruction 1, counted from 0, stores 0 to cell 1, whose guard asks for at least 1 and at most 0.\n"
    ++ ascii "  It stores nothing, reserves nothing and is not carried.\n"
unfolding opened
too_hot = refl

-- "Kind 2 comes before kind 3."
kind_2_first : guarded_page (image 1 (program (set 0 3 ∷ store 0 0 ∷ []) ∷ [])) (1 ∷ 5 ∷ 6 ∷ []) (1 ∷ 0 ∷ 1 ∷ 0 ∷ 1 ∷ 0 ∷ []) (0 ∷ [])
    ≡ ascii "0 faulted store at 1\n"
    ++ ascii "  Its instruction 1, counted from 0, stores to a cell outside the table, whose last cell is 2.\n"
    ++ ascii "  It stores nothing, reserves nothing and is not carried.\n"
unfolding opened
kind_2_first = refl

-- case 7: a batch with no programs has an empty page
case_7 : page empty (1 ∷ 2 ∷ 3 ∷ []) [] ≡ []
unfolding opened
case_7 = refl

-- ---- areas that no batch leaves, of one cell: the library refuses an answer, and its line stands in the program's place

-- carried for a reason that the marks do not give: 15; and so is a fault of no kind; the others have their lines all the same
no_reason_lem : reasons_text (image 1 ([] ∷ [] ∷ [] ∷ [])) (8 ∷ []) (8 ∷ []) (full_for (8 ∷ []))
    (area (0 ∷ []) (0 ∷ []) (slot 5 1 [] (0 ∷ []) (6 ∷ []) ∷ slot 3 (256 * 4 + 4) [] [] [] ∷ slot 2 300 [] [] [] ∷ []))
    ≡ ascii "refused 15\n"
    ++ ascii "refused 15\n"
    ++ ascii "2 rejected code 300\n"
    ++ ascii "  It rejected with code 300, so it stores nothing, reserves nothing and is not carried.\n"
unfolding opened
no_reason_lem = refl

-- one that has not ended: 9, and the library then refuses 9 of the committed one too
not_ended : reasons_text (image 1 ([] ∷ [] ∷ [] ∷ [])) (8 ∷ []) (8 ∷ []) (full_for (8 ∷ [])) (area (0 ∷ []) (0 ∷ []) (slot 1 0 [] [] [] ∷ slot 4 0 [] [] [] ∷ slot 0 0 [] [] [] ∷ []))
    ≡ ascii "refused 9\n" ++ ascii "refused 9\n" ++ ascii "refused 9\n"
unfolding opened
not_ended = refl

-- a detail of kind 3 that no run left: the store is the one that the program's own run names at its end. An empty program names none, which reads as 0 of
-- cell 0; one that stores outside the table names that cell, whose ends are past the guards, and so 0
made_up : reasons_text (image 1 ([] ∷ program (set 0 9 ∷ set 1 7 ∷ store 0 1 ∷ []) ∷ [])) (8 ∷ []) (8 ∷ []) (3 ∷ 4 ∷ [])
    (area (0 ∷ []) (0 ∷ []) (slot 3 (256 * 3 + 4) [] [] [] ∷ slot 3 (256 * 3 + 1) [] [] [] ∷ []))
    ≡ ascii "0 faulted guard at 4\n"
    ++ ascii "  Its instruction 4, counted from 0, stores 0 to cell 0, whose guard asks for at least 3 and at most 4.\n"
    ++ ascii "  It stores nothing, reserves nothing and is not carried.\n"
    ++ ascii "1 faulted guard at 1\n"
    ++ ascii "  Its instruction 1, counted from 0, stores 7 to cell 9, whose guard asks for at least 0 and at most 0.\n"
    ++ ascii "  It stores nothing, reserves nothing and is not carried.\n"
unfolding opened
made_up = refl
