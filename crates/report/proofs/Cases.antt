-- Document 01, "Bench sheet", and document 02, ask 5, tried by computation on the definition of what the programs print, and of what they say beside it: whole
-- inputs, byte by byte. Assumes nothing.
use Prim.Native.Nat.{ℕ}
use mathlib.Core.Path.{◌≡◌, refl}
use mathlib.Core.List.{List, [], ◌∷◌, ◌++◌, map}
use lib.ListN.{take, drop, replicate}
use Rattle.text.specs.Ascii.{ascii}
use Rattle.image.specs.Assembler.{set, load, store, sub, program, image}
use Rattle.image.specs.Bench.{empty}
use Rattle.report.specs.Batch.{batch_page, reasons_page, said}
use Rattle.report.specs.declared.Guards.TheVariants.{FullRange, FromInput}
use Rattle.report.specs.Opened.{opened}

-- "Case 2 with T=2 prints:"
abbrev case_2_bytes : List ℕ
case_2_bytes =
    2 ∷ 0 ∷ 9 ∷ 0 ∷ 0 ∷ 0 ∷ 4 ∷ 0 ∷ 0 ∷ 0 ∷ 3 ∷ 0 ∷ 2 ∷ 0 ∷ 12 ∷ 0 ∷ 32 ∷ 0 ∷ 56 ∷ 0 ∷ 80 ∷ 0 ∷ 1 ∷ 0 ∷ 0 ∷ 0 ∷ 2 ∷ 1 ∷ 0 ∷ 0 ∷ 1 ∷ 2 ∷ 0 ∷
    1 ∷ 4 ∷ 1 ∷ 1 ∷ 2 ∷ 3 ∷ 0 ∷ 1 ∷ 0 ∷ 1 ∷ 0 ∷ 0 ∷ 0 ∷ 2 ∷ 1 ∷ 0 ∷ 0 ∷ 1 ∷ 2 ∷ 0 ∷ 1 ∷ 2 ∷ 3 ∷ 2 ∷ 0 ∷ 5 ∷ 1 ∷ 1 ∷ 3 ∷ 3 ∷ 2 ∷ 1 ∷ 0 ∷ 1 ∷
    0 ∷ 0 ∷ 0 ∷ 2 ∷ 1 ∷ 0 ∷ 0 ∷ 1 ∷ 2 ∷ 0 ∷ 1 ∷ 2 ∷ 3 ∷ 2 ∷ 0 ∷ 4 ∷ 1 ∷ 1 ∷ 3 ∷ 3 ∷ 0 ∷ 1 ∷ 0 ∷ []

case_2 : batch_page FullRange case_2_bytes ≡ ascii "batch 2 3 2\n0 committed 0\n1 committed 0\n2 carried 1\norder 1 0\n0 10\n1 5\n"
unfolding opened
case_2 = refl

-- "Fewer bytes than that prefix needs, or T outside 1 to 256, prints "refused 5"": nothing, one byte, T=0, T=257, one byte short of the prefix; with a good
-- image behind them where there is anything behind them
refused_5 : map (batch_page FullRange) ([] ∷ (1 ∷ []) ∷ (0 ∷ 0 ∷ empty) ∷ (1 ∷ 1 ∷ replicate 1028 0 ++ empty) ∷ (1 ∷ 0 ∷ 0 ∷ 0 ∷ 0 ∷ []) ∷ []) ≡ replicate 5 (ascii "refused 5\n")
unfolding opened
refused_5 = refl

-- "another refusal prints its number so": exactly the prefix has no byte for an image; with the six bytes of case 7 it is run
prefix_alone : map (batch_page FullRange) ((1 ∷ 0 ∷ 9 ∷ 0 ∷ 0 ∷ 0 ∷ []) ∷ (1 ∷ 0 ∷ 9 ∷ 0 ∷ 0 ∷ 0 ∷ empty) ∷ []) ≡ ascii "refused 1\n" ∷ ascii "batch 1 0 1\norder\n0 9\n" ∷ []
unfolding opened
prefix_alone = refl

-- 256 cells are not outside: what is refused is the image, which has no byte
largest : batch_page FullRange (0 ∷ 1 ∷ replicate 1024 0) ≡ ascii "refused 1\n"
unfolding opened
largest = refl

-- "14. A skip that lands on m is good; one further gives 4", which is now 44; and where that is
abbrev case_14b_bytes : List ℕ
case_14b_bytes =
    3 ∷ 0 ∷ 1 ∷ 0 ∷ 0 ∷ 0 ∷ 2 ∷ 0 ∷ 0 ∷ 0 ∷ 3 ∷ 0 ∷ 0 ∷ 0 ∷ 1 ∷ 0 ∷ 1 ∷ 0 ∷ 8 ∷ 0 ∷ 20 ∷ 0 ∷ 1 ∷ 1 ∷ 0 ∷ 1 ∷ 7 ∷ 0 ∷ 1 ∷ 2 ∷ 3 ∷ 0 ∷ 1 ∷
    0 ∷ []

case_14b : (batch_page FullRange case_14b_bytes ≡ ascii "refused 44\n") × (said FullRange case_14b_bytes ≡ ascii "program 0, instruction 1: a skip by 2 lands past the end\n")
unfolding opened
case_14b = (refl, refl)

-- nothing is said where all is well, of a prefix, nor of an image that is refused as a whole; a bad instruction behind a prefix that is not good is not
-- looked at
nothing_is_said : map (said FullRange) (case_2_bytes ∷ [] ∷ (0 ∷ 0 ∷ empty) ∷ (1 ∷ 0 ∷ 9 ∷ 0 ∷ 0 ∷ 0 ∷ []) ∷ (0 ∷ 0 ∷ drop 14 case_14b_bytes) ∷ []) ≡ replicate 5 []
unfolding opened
nothing_is_said = refl

-- ---- document 02, ask 5: T and the cells, T pairs of guards, the image

-- one cell, a heater at 20 that must stay between -20 and 45, before an image
abbrev heater : (image : List ℕ) → List ℕ
heater image = 1 ∷ 0 ∷ 20 ∷ 0 ∷ 0 ∷ 0 ∷ 236 ∷ 255 ∷ 255 ∷ 255 ∷ 45 ∷ 0 ∷ 0 ∷ 0 ∷ image

-- one program stores 46, one 45
abbrev two_stores : List ℕ
two_stores = image 1 (program (set 1 46 ∷ store 0 1 ∷ []) ∷ program (set 1 45 ∷ store 0 1 ∷ []) ∷ [])

too_hot : batch_page FromInput (heater two_stores) ≡ ascii "batch 1 2 1\n0 faulted 769\n1 committed 0\norder 1\n0 45\n"
unfolding opened
too_hot = refl

-- "the batch program lends the full range": with it neither is a fault, and the second is carried
full_range_lem : batch_page FullRange (take 6 (heater []) ++ two_stores) ≡ ascii "batch 1 2 1\n0 committed 0\n1 carried 1\norder 0\n0 46\n"
unfolding opened
full_range_lem = refl

-- the value that is named is that of the run on the table as it was opened, 20, although it is 45 by then
why_too_hot : reasons_page FromInput (heater (image 1 (program (set 1 45 ∷ store 0 1 ∷ []) ∷ program (load 1 0 ∷ set 2 41 ∷ sub 1 1 2 ∷ store 0 1 ∷ []) ∷ [])))
    ≡ ascii "0 committed\n"
    ++ ascii "  No earlier program stores a cell that it reads or stores, so its stores are in the table.\n"
    ++ ascii "1 faulted guard at 3\n"
    ++ ascii "  Its instruction 3, counted from 0, stores -21 to cell 0, whose guard asks for at least -20 and at most 45.\n"
    ++ ascii "  It stores nothing, reserves nothing and is not carried.\n"
unfolding opened
why_too_hot = refl

-- "14 guard list not T pairs, after 5": no byte of the guards, one too few, and then exactly the guards, which leave no byte for an image
refused_14 : map (λ n. batch_page FromInput (take n (heater empty))) (5 ∷ 6 ∷ 13 ∷ 14 ∷ 20 ∷ [])
    ≡ ascii "refused 5\n" ∷ ascii "refused 14\n" ∷ ascii "refused 14\n" ∷ ascii "refused 1\n" ∷ ascii "batch 1 0 1\norder\n0 20\n" ∷ []
unfolding opened
refused_14 = refl

-- T outside 1 to 256 is 5 also where there are guards enough; and `why` is refused as `batch` is
refused_before : map (batch_page FromInput) ([] ∷ (0 ∷ 0 ∷ empty) ∷ (1 ∷ 1 ∷ replicate 3084 0 ++ empty) ∷ []) ++ map (λ n. reasons_page FromInput (take n (heater empty))) (5 ∷ 13 ∷ 14 ∷ [])
    ≡ replicate 4 (ascii "refused 5\n") ++ (ascii "refused 14\n" ∷ ascii "refused 1\n" ∷ [])
unfolding opened
refused_before = refl

-- a bad instruction behind guards has its place; where the guards are too short it is not looked at
said_behind_guards :
    map (λ n. said FromInput (take n (heater (drop 14 case_14b_bytes)))) (34 ∷ 13 ∷ 5 ∷ [])
    ≡ ascii "program 0, instruction 1: a skip by 2 lands past the end\n" ∷ [] ∷ [] ∷ []
unfolding opened
said_behind_guards = refl
