-- The sentences tried by computation: each as it is printed, line by line. The numbers are literals, and no two of one sentence are alike.
-- Assumes nothing.
use Prim.Native.Nat.{ℕ}
use mathlib.Core.Path.{◌≡◌, refl}
use mathlib.Core.List.{[], ◌∷◌, ◌++◌, map}
use Rattle.text.specs.Ascii.{ascii}
use Rattle.machine.specs.declared.Store.{Store}
use Rattle.causes.specs.declared.answers.Cause.{Cause}
use Rattle.sentences.specs.Sentences.{free, turned, waw, raw, raw_with_war, again, rejected, load_fault, store_fault, signed_text, guard_fault}
use Rattle.sentences.specs.Sentences.{committed_line, waw_line, raw_line, raw_with_war_line, rejected_line, load_fault_line, store_fault_line, guard_fault_line}
use Rattle.sentences.specs.Opened.{opened}

abbrev at : (cell program : ℕ) → Cause
at cell program = record { cell = cell; program = program }

-- ---- what a script reads

script_lines : committed_line 63
    ∷ waw_line 12 (at 255 3)
    ∷ raw_line 12 (at 255 3)
    ∷ raw_with_war_line 12 (at 255 3) (at 40 7)
    ∷ rejected_line 12 7
    ∷ load_fault_line 12 31
    ∷ store_fault_line 12 31
    ∷ guard_fault_line 12 31
    ∷ []
    ≡ ascii "63 committed\n"
    ∷ ascii "12 carried waw cell 255 program 3\n"
    ∷ ascii "12 carried raw cell 255 program 3\n"
    ∷ ascii "12 carried raw cell 255 program 3 war cell 40 program 7\n"
    ∷ ascii "12 rejected code 7\n"
    ∷ ascii "12 faulted load at 31\n"
    ∷ ascii "12 faulted store at 31\n"
    ∷ ascii "12 faulted guard at 31\n"
    ∷ []
unfolding opened
script_lines = refl

-- ---- and the words behind it

says_free : free 12
    ≡ ascii "12 committed\n"
    ++ ascii "  No earlier program stores a cell that it reads or stores, so its stores are in the table.\n"
unfolding opened
says_free = refl

says_turned : turned 12 (at 255 3)
    ≡ ascii "12 committed\n"
    ++ ascii "  It read cell 255 as it was when the batch was opened, while program 3 stores it,\n"
    ++ ascii "  so it comes before program 3 (3 -> 12), and its stores are in the table.\n"
unfolding opened
says_turned = refl

says_waw : waw 12 (at 255 3)
    ≡ ascii "12 carried waw cell 255 program 3\n"
    ++ ascii "  It stores cell 255, and so does program 3, which comes first: the two cannot both count in one batch.\n"
unfolding opened
says_waw = refl

says_raw : raw 12 (at 255 3)
    ≡ ascii "12 carried raw cell 255 program 3\n"
    ++ ascii "  It read cell 255 as it was when the batch was opened, while program 3, which comes first, stores it.\n"
unfolding opened
says_raw = refl

says_raw_with_war : raw_with_war 12 (at 255 3) (at 40 7)
    ≡ ascii "12 carried raw cell 255 program 3 war cell 40 program 7\n"
    ++ ascii "  It would have to come before program 3, which stores cell 255 that it read as it was (RAW, 3 -> 12),\n"
    ++ ascii "  and after program 7, which read cell 40 that it stores (WAR, 12 -> 7): the two can close a circle.\n"
unfolding opened
says_raw_with_war = refl

-- one batch, and more than one
says_again : again 0 1 ∷ again 1 2 ∷ []
    ≡ ascii "  Its reservations stay; it runs again in the next batch, as number 0, and ends within 1 more batch.\n"
    ∷ ascii "  Its reservations stay; it runs again in the next batch, as number 1, and ends within 2 more batches.\n"
    ∷ []
unfolding opened
says_again = refl

says_rejected : rejected 12 7
    ≡ ascii "12 rejected code 7\n" ++ ascii "  It rejected with code 7, so it stores nothing, reserves nothing and is not carried.\n"
unfolding opened
says_rejected = refl

says_load_fault : load_fault 12 31 5
    ≡ ascii "12 faulted load at 31\n"
    ++ ascii "  Its instruction 31, counted from 0, loads a cell outside the table, whose last cell is 5.\n"
    ++ ascii "  It stores nothing, reserves nothing and is not carried.\n"
unfolding opened
says_load_fault = refl

says_store_fault : store_fault 12 31 5
    ≡ ascii "12 faulted store at 31\n"
    ++ ascii "  Its instruction 31, counted from 0, stores to a cell outside the table, whose last cell is 5.\n"
    ++ ascii "  It stores nothing, reserves nothing and is not carried.\n"
unfolding opened
says_store_fault = refl

-- ---- "read as a signed 32-bit number": around 0, and around the two ends

says_signed : map signed_text (0 ∷ 1 ∷ 2147483647 ∷ 2147483648 ∷ 2147483649 ∷ 4294967295 ∷ [])
    ≡ ascii "0" ∷ ascii "1" ∷ ascii "2147483647" ∷ ascii "-2147483648" ∷ ascii "-2147483647" ∷ ascii "-1" ∷ []
unfolding opened
says_signed = refl

abbrev storing : (cell value : ℕ) → Store
storing cell value = record { cell = cell; value = value }

-- 46 to a heater that must stay between -20 and 45, and -21
says_guard_fault : guard_fault 12 31 (storing 5 46) 4294967276 45
    ≡ ascii "12 faulted guard at 31\n"
    ++ ascii "  Its instruction 31, counted from 0, stores 46 to cell 5, whose guard asks for at least -20 and at most 45.\n"
    ++ ascii "  It stores nothing, reserves nothing and is not carried.\n"
unfolding opened
says_guard_fault = refl

says_too_low : guard_fault 0 3 (storing 255 4294967275) 4294967276 45
    ≡ ascii "0 faulted guard at 3\n"
    ++ ascii "  Its instruction 3, counted from 0, stores -21 to cell 255, whose guard asks for at least -20 and at most 45.\n"
    ++ ascii "  It stores nothing, reserves nothing and is not carried.\n"
unfolding opened
says_too_low = refl
