-- Document 01 tried by computation on the area's definitions, sentence by sentence: where the words of "The work area" lie, what marks say, and the
-- dependencies of "The steps". The numbers are literals, and each comparison has a case on both its sides. Assumes nothing.
use Prim.Native.Nat.{ℕ, zero, suc}
use mathlib.Core.Bool.{Bool, true, false}
use mathlib.Core.Path.{◌≡◌, refl}
use mathlib.Core.List.{List, [], ◌∷◌, ◌++◌, map}
use lib.ListN.{replicate}
use Rattle.slot.specs.declared.ListKind.TheVariants.{Reads, Stores}
use Rattle.slot.specs.declared.Group.TheVariants.{Committed, Carried}
use Rattle.area.specs.declared.MarkKind.TheVariants.{Write, Read}
use Rattle.area.specs.Layout.{marks_at, first_slot, slot_start, area_words, state_at, detail_at, count_at, list_at, values_at}
use Rattle.area.specs.Layout.{state_of, detail_of, slot_at, in_group, span_of, reads_of, stores_of, values_of, with_slot, with_state}
use Rattle.area.specs.Marks.{mark_of, named, list_for, lower, reserve, earlier, hit, waw, raw, war, lowest_of, lower_cell, lowest, store_all, committed_table}
use Rattle.area.specs.Sketch.{slot, area}
use Rattle.area.specs.Opened.{opened}

-- n numbers from one on
abbrev from : ℕ → ℕ → List ℕ
from first zero = []
from first (suc n) = first ∷ from (suc first) n

-- ---- "The work area": where the words lie

-- "It has 2T + 100n words of 32 bits."
size : area_words 1 0 ∷ area_words 3 2 ∷ area_words 256 64 ∷ [] ≡ 2 ∷ 206 ∷ 6912 ∷ []
size = refl

-- "First T write marks, then T read marks .. Then a slot of 100 words per program", for T = 3
begins : marks_at Write 3 ∷ marks_at Read 3 ∷ first_slot 3 ∷ map (slot_start 3) (0 ∷ 1 ∷ 2 ∷ []) ≡ 0 ∷ 3 ∷ 6 ∷ 6 ∷ 106 ∷ 206 ∷ []
begins = refl

-- "state, detail, read count, store count, 32 read cells, 32 stored cells, 32 stored values", of program 2
words_of_a_slot :
    state_at 3 2 ∷ detail_at 3 2 ∷ count_at Reads 3 2 ∷ count_at Stores 3 2 ∷ list_at Reads 3 2 ∷ list_at Stores 3 2 ∷ values_at 3 2 ∷ []
    ≡ 206 ∷ 207 ∷ 208 ∷ 209 ∷ 210 ∷ 242 ∷ 274 ∷ []
words_of_a_slot = refl

-- an area of which each word says its place, and what program 2 has there
what_stands_there : (state_of 3 2 (from 0 306) ∷ detail_of 3 2 (from 0 306) ∷ [] ≡ 206 ∷ 207 ∷ []) × (slot_at 3 2 (from 0 306) ≡ from 206 100)
unfolding opened
what_stands_there = (refl, refl)

-- three programs on three cells, in the states 4, 5, 1
abbrev three : List ℕ
three =
    area (1 ∷ 3 ∷ 0 ∷ []) (3 ∷ 0 ∷ 2 ∷ []) (
    slot 4 0 [] (0 ∷ []) (50 ∷ [])
    ∷ slot 5 1 (2 ∷ []) (0 ∷ []) (60 ∷ [])
    ∷ slot 1 0 (2 ∷ 0 ∷ []) (1 ∷ 0 ∷ 2 ∷ []) (71 ∷ 70 ∷ 72 ∷ [])
    ∷ []
    )

-- the counted words of a list alone, in their order; and where they lie
lists_of_three : (map (λ k. reads_of 3 k three) (0 ∷ 1 ∷ 2 ∷ []) ≡ [] ∷ (2 ∷ []) ∷ (2 ∷ 0 ∷ []) ∷ [])
    × (map (λ k. stores_of 3 k three) (0 ∷ 1 ∷ 2 ∷ []) ≡ (0 ∷ []) ∷ (0 ∷ []) ∷ (1 ∷ 0 ∷ 2 ∷ []) ∷ [])
    × (map (λ k. values_of 3 k three) (0 ∷ 1 ∷ 2 ∷ []) ≡ (50 ∷ []) ∷ (60 ∷ []) ∷ (71 ∷ 70 ∷ 72 ∷ []) ∷ [])
unfolding opened
lists_of_three = (refl, refl, refl)

spans_of_three : span_of Reads 3 2 three ∷ span_of Stores 3 2 three ∷ [] ≡ record { at = 210; count = 2 } ∷ record { at = 242; count = 3 } ∷ []
unfolding opened
spans_of_three = refl

-- the committed and the carried among them
groups_of_three : (map (in_group Committed 3 three) (0 ∷ 1 ∷ 2 ∷ []) ≡ true ∷ false ∷ false ∷ [])
    × (map (in_group Carried 3 three) (0 ∷ 1 ∷ 2 ∷ []) ≡ false ∷ true ∷ false ∷ [])
unfolding opened
groups_of_three = (refl, refl)

-- a slot that is put in takes 100 words, a state and a detail take two; all others stay
put_in : (with_slot 3 1 (from 0 100) (replicate 306 7) ≡ replicate 106 7 ++ (from 0 100 ++ replicate 100 7))
    × (with_state 3 1 4 2 (replicate 306 7) ≡ replicate 106 7 ++ (4 ∷ 2 ∷ replicate 198 7))
unfolding opened
put_in = (refl, refl)

-- ---- "The work area": marks

-- "0, or 1 + the smallest number of a gathered program that stores (reads) the cell"
mark_of_lem : map mark_of (0 ∷ 1 ∷ 63 ∷ []) ≡ 1 ∷ 2 ∷ 64 ∷ []
mark_of_lem = refl

stores_and_reads : list_for Write ∷ list_for Read ∷ [] ≡ Stores ∷ Reads ∷ []
stores_and_reads = refl

-- "a mark that is 0 or larger becomes this program's": program 3, whose mark is 4, at a mark that is 0, smaller, its own, larger
lowered : map (λ mark. lower mark 4) (0 ∷ 3 ∷ 4 ∷ 5 ∷ []) ≡ 4 ∷ 3 ∷ 4 ∷ 4 ∷ []
unfolding opened
lowered = refl

-- "makes all its reservations": those behind one that is lost too, in any order, a cell that stands twice as one
all_reservations : map (λ cells. reserve 0 cells 3 (0 ∷ 3 ∷ 4 ∷ 5 ∷ 0 ∷ [])) ((1 ∷ 0 ∷ 3 ∷ []) ∷ (3 ∷ 1 ∷ 0 ∷ []) ∷ (0 ∷ 3 ∷ 0 ∷ 3 ∷ []) ∷ (2 ∷ []) ∷ [] ∷ [])
    ≡ (4 ∷ 3 ∷ 4 ∷ 4 ∷ 0 ∷ []) ∷ (4 ∷ 3 ∷ 4 ∷ 4 ∷ 0 ∷ []) ∷ (4 ∷ 3 ∷ 4 ∷ 4 ∷ 0 ∷ []) ∷ (0 ∷ 3 ∷ 4 ∷ 5 ∷ 0 ∷ []) ∷ (0 ∷ 3 ∷ 4 ∷ 5 ∷ 0 ∷ []) ∷ []
unfolding opened
all_reservations = refl

-- among the marks of its kind alone
of_its_kind : reserve (marks_at Write 2) (1 ∷ []) 0 (replicate 4 9) ∷ reserve (marks_at Read 2) (1 ∷ []) 0 (replicate 4 9) ∷ []
    ≡ (9 ∷ 1 ∷ 9 ∷ 9 ∷ []) ∷ (9 ∷ 9 ∷ 9 ∷ 1 ∷ []) ∷ []
unfolding opened
of_its_kind = refl

-- ---- "The steps": what the marks say against a program

-- "With 'earlier' meaning a smaller number": to program 3, a mark that names nobody, program 0, 2, 3 itself, 4; to program 0, nobody is earlier
named_earlier : (map (λ mark. earlier mark 3) (0 ∷ 1 ∷ 3 ∷ 4 ∷ 5 ∷ []) ≡ false ∷ true ∷ true ∷ false ∷ false ∷ [])
    × (map (λ mark. earlier mark 0) (0 ∷ 1 ∷ 2 ∷ []) ≡ false ∷ false ∷ false ∷ [])
unfolding opened
named_earlier = (refl, refl)

-- one of the cells is enough, whichever
one_is_enough : map (λ cells. hit 1 cells 1 (1 ∷ 1 ∷ 2 ∷ 0 ∷ [])) ((0 ∷ 1 ∷ []) ∷ (1 ∷ 0 ∷ []) ∷ (1 ∷ 2 ∷ []) ∷ [] ∷ []) ≡ true ∷ true ∷ false ∷ false ∷ []
unfolding opened
one_is_enough = refl

-- WAW, RAW and WAR of program 1, which reads cell 0 and stores cell 1, by the write marks and the read marks of the two cells. Behind the counted ones
-- stand a read of cell 1 and a store to cell 0.
abbrev against : List ℕ → List ℕ → List Bool
against writes reads =
    let a : List ℕ = area writes reads (
    slot 1 0 [] [] []
    ∷ (1 ∷ 0 ∷ 1 ∷ 1 ∷ (0 ∷ 1 ∷ replicate 30 0) ++ (1 ∷ 0 ∷ replicate 30 0) ++ replicate 32 0)
    ∷ []
    ) in
    waw 2 1 a ∷ raw 2 1 a ∷ war 2 1 a ∷ []

-- "WAW: a stored cell's write mark names an earlier program. RAW: a read cell's write mark does. WAR: a stored cell's read mark does."
waw_alone : against (0 ∷ 1 ∷ []) (0 ∷ 0 ∷ []) ≡ true ∷ false ∷ false ∷ []
unfolding opened
waw_alone = refl

raw_alone : against (1 ∷ 0 ∷ []) (0 ∷ 0 ∷ []) ≡ false ∷ true ∷ false ∷ []
unfolding opened
raw_alone = refl

war_alone : against (0 ∷ 0 ∷ []) (0 ∷ 1 ∷ []) ≡ false ∷ false ∷ true ∷ []
unfolding opened
war_alone = refl

-- two that read one cell are no dependency
read_and_read : against (0 ∷ 0 ∷ []) (1 ∷ 0 ∷ []) ≡ false ∷ false ∷ false ∷ []
unfolding opened
read_and_read = refl

all_three : against (1 ∷ 1 ∷ []) (1 ∷ 1 ∷ []) ≡ true ∷ true ∷ true ∷ []
unfolding opened
all_three = refl

-- neither its own marks nor a later program's are against it
own_and_later : map (λ mark. against (mark ∷ mark ∷ []) (mark ∷ mark ∷ [])) (2 ∷ 3 ∷ []) ≡ replicate 2 (false ∷ false ∷ false ∷ [])
unfolding opened
own_and_later = refl

-- ---- document 02, ask 3: "the lowest cell that shows the dependency"

-- of the cells 3, 0 and 2 of five, by the marks: the lowest by its number and not by its place; 5 where none does. Neither the mark of another cell nor
-- program 2's own is against program 2
lowest_by_number :
    map (lowest_of 5 0 (3 ∷ 0 ∷ 2 ∷ []) 2) (
    (1 ∷ 0 ∷ 2 ∷ 1 ∷ 0 ∷ [])
    ∷ (0 ∷ 0 ∷ 2 ∷ 1 ∷ 0 ∷ [])
    ∷ (3 ∷ 0 ∷ 3 ∷ 2 ∷ 0 ∷ [])
    ∷ (3 ∷ 1 ∷ 0 ∷ 3 ∷ 1 ∷ [])
    ∷ []
    )
    ≡ 0 ∷ 2 ∷ 3 ∷ 5 ∷ []
unfolding opened
lowest_by_number = refl

-- with one cell more: a lower one that counts, one that does not, the same one, a higher one
one_cell_more : map (lower_cell 0 2 (1 ∷ 3 ∷ 2 ∷ 1 ∷ []) 2) (0 ∷ 1 ∷ 2 ∷ 3 ∷ []) ≡ 0 ∷ 2 ∷ 2 ∷ 2 ∷ []
unfolding opened
one_cell_more = refl

-- of program 2's own stores and reads: WAW and RAW by cell 0's write mark, WAR by cell 2's read mark
lowest_of_three : lowest Stores Write 3 2 three ∷ lowest Reads Write 3 2 three ∷ lowest Stores Read 3 2 three ∷ lowest Reads Read 3 0 three ∷ [] ≡ 0 ∷ 0 ∷ 2 ∷ 3 ∷ []
unfolding opened
lowest_of_three = refl

-- the program that a mark names
names_one_less : map named (1 ∷ 2 ∷ 64 ∷ []) ≡ 0 ∷ 1 ∷ 63 ∷ []
names_one_less = refl

-- ---- stores

-- "A committed program's stores go into the table at its settling, in the slot's order.": of a cell that stands twice the last counts
stores_in_order : store_all (1 ∷ 0 ∷ 1 ∷ []) (5 ∷ 6 ∷ 7 ∷ []) (9 ∷ 9 ∷ 9 ∷ []) ≡ 6 ∷ 7 ∷ 9 ∷ []
unfolding opened
stores_in_order = refl

-- of its own slot, by the stored cells and not by the places
stores_of_three : map (λ k. committed_table 3 k three (7 ∷ 8 ∷ 9 ∷ [])) (0 ∷ 2 ∷ []) ≡ (50 ∷ 8 ∷ 9 ∷ []) ∷ (70 ∷ 71 ∷ 72 ∷ []) ∷ []
unfolding opened
stores_of_three = refl
