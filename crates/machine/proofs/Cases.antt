-- Document 01, "Instructions" and the slot of "The work area", tried by computation on whole runs, sentence by sentence. A case compares all that
-- came of a run: answer, log, path and the values loaded; or the slot that it leaves, word by word. Assumes nothing.
use Rattle.std.proofs.Common.{◌≡◌, ℕ, zero, suc, List, [], ◌∷◌, ◌++◌, map, replicate, refl}
use Rattle.image.specs.Assembler.{Instruction, end, set, load, store, sub, skipless, skipequal, reject, program}
use Rattle.guard.specs.Guards.{full_for}
use Rattle.slot.specs.Log.{Log}
use Rattle.machine.specs.declared.FaultKind.TheVariants as fault
use Rattle.machine.specs.declared.Run.{Run}
use Rattle.machine.specs.declared.Run.TheVariants.{Finished, Rejected, Faulted}
use Rattle.machine.specs.Runs.{Outcome, load_fault, store_fault, kind_number, run_of, state_of_run, detail_of_run, slot_of}
use Rattle.machine.specs.Opened.{opened}

-- ---- how a case is written

-- the run of these instructions on a table, where no guard is in its way
abbrev outcome : List Instruction → List ℕ → Outcome
outcome instructions table = run_of (program instructions) table (full_for table)

-- how it ended, its log, the places that it visited, the values that it loaded
data Ran : Type 0 where
  ran : Run → Log → List ℕ → List ℕ → Ran

abbrev run : List Instruction → List ℕ → Ran
run instructions table = let o = outcome instructions table in ran o.answer o.log o.path o.loads

-- the slot that it leaves
abbrev slot : List Instruction → List ℕ → List ℕ
slot instructions table = slot_of (outcome instructions table)

-- these reads, stored cells and values
abbrev log : List ℕ → List ℕ → List ℕ → Log
log reads cells values = record { reads = reads; cells = cells; values = values }

abbrev none : Log
none = log [] [] []

-- a table of so many cells that all hold 5
abbrev fives : ℕ → List ℕ
fives T = replicate T 5

-- n numbers from one on
abbrev from : ℕ → ℕ → List ℕ
from first zero = []
from first (suc n) = first ∷ from (suc first) n

-- ---- "Arriving at m is an end."

-- of no instructions; past the last one; by a skip; and a skip that is not taken, which does not arrive there
no_instructions : run [] (fives 1) ≡ ran Finished none [] []
unfolding opened
no_instructions = refl

past_the_last : run (set 1 1 ∷ set 2 2 ∷ []) (fives 1) ≡ ran Finished none (0 ∷ 1 ∷ []) []
unfolding opened
past_the_last = refl

skip_to_the_end : run (skipequal 0 0 1 ∷ reject 9 ∷ []) (fives 1) ≡ ran Finished none (0 ∷ []) []
unfolding opened
skip_to_the_end = refl

skip_not_taken : run (skipless 0 0 1 ∷ reject 9 ∷ []) (fives 1) ≡ ran (Rejected 9) none (0 ∷ 1 ∷ []) []
unfolding opened
skip_not_taken = refl

-- "end: stops", whatever comes after it
end_stops : run (end ∷ reject 1 ∷ []) (fives 1) ≡ ran Finished none (0 ∷ []) []
unfolding opened
end_stops = refl

-- all 32 instructions take a turn: each cell holds the number of the next, so that 32 loads read 32 cells
thirty_two_loads : run (replicate 32 (load 0 0)) (from 1 32) ≡ ran Finished (log (from 0 32) [] []) (from 0 32) (from 1 32)
unfolding opened
thirty_two_loads = refl

-- what is left out by a skip is not visited
leaves_out_two : run (load 1 0 ∷ skipequal 0 2 2 ∷ reject 9 ∷ reject 9 ∷ load 2 1 ∷ store 2 1 ∷ []) (1 ∷ 2 ∷ 3 ∷ [])
    ≡ ran Finished (log (0 ∷ 1 ∷ []) (2 ∷ []) (1 ∷ [])) (0 ∷ 1 ∷ 4 ∷ 5 ∷ []) (1 ∷ 2 ∷ [])
unfolding opened
leaves_out_two = refl

-- ---- "A load of a cell that the same program has stored gives the stored value and adds nothing to the reads."

load_after_store : run (set 1 7 ∷ store 0 1 ∷ load 2 0 ∷ []) (fives 1) ≡ ran Finished (log [] (0 ∷ []) (7 ∷ [])) (0 ∷ 1 ∷ 2 ∷ []) (7 ∷ [])
unfolding opened
load_after_store = refl

-- the loaded value goes into the register: the load's 7 is stored to cell 1
load_into_the_register : run (set 1 7 ∷ store 0 1 ∷ load 2 0 ∷ set 3 1 ∷ store 3 2 ∷ []) (fives 2)
    ≡ ran Finished (log [] (0 ∷ 1 ∷ []) (7 ∷ 7 ∷ [])) (from 0 5) (7 ∷ [])
unfolding opened
load_into_the_register = refl

-- ---- "Any other load gives the opening table's value and adds the cell to the reads, once."

read_twice : run (load 1 0 ∷ load 2 0 ∷ []) (fives 1) ≡ ran Finished (log (0 ∷ []) [] []) (0 ∷ 1 ∷ []) (5 ∷ 5 ∷ [])
unfolding opened
read_twice = refl

-- a read before the store stays a read
store_after_load : run (load 1 0 ∷ store 0 0 ∷ load 2 0 ∷ []) (fives 1) ≡ ran Finished (log (0 ∷ []) (0 ∷ []) (0 ∷ [])) (0 ∷ 1 ∷ 2 ∷ []) (5 ∷ 0 ∷ [])
unfolding opened
store_after_load = refl

-- ---- "The last store to a cell counts; the cell keeps its first place among the stores."

stored_twice : run (set 1 1 ∷ store 0 1 ∷ store 1 1 ∷ set 2 3 ∷ store 0 2 ∷ load 4 0 ∷ []) (fives 2)
    ≡ ran Finished (log [] (0 ∷ 1 ∷ []) (3 ∷ 1 ∷ [])) (from 0 6) (3 ∷ [])
unfolding opened
stored_twice = refl

-- ---- "A cell number of T or more is a fault with a kind and a place: kind 1 at a load, 2 at a store."

kinds : load_fault ∷ store_fault ∷ map kind_number (fault.Load ∷ fault.Store ∷ []) ≡ 1 ∷ 2 ∷ 1 ∷ 2 ∷ []
kinds = refl

-- cells T−1 and T of 4 (for stores, case 8 of the bench sheet), and of 256; for T = 1 see case 11
load_3_and_4 : map (λ c. run (set 1 c ∷ load 0 1 ∷ []) (fives 4)) (3 ∷ 4 ∷ [])
    ≡ ran Finished (log (3 ∷ []) [] []) (0 ∷ 1 ∷ []) (5 ∷ []) ∷ ran (Faulted fault.Load 1) none (0 ∷ 1 ∷ []) [] ∷ []
unfolding opened
load_3_and_4 = refl

store_3_and_4 : map (λ c. run (set 0 c ∷ store 0 1 ∷ []) (fives 4)) (3 ∷ 4 ∷ [])
    ≡ ran Finished (log [] (3 ∷ []) (0 ∷ [])) (0 ∷ 1 ∷ []) [] ∷ ran (Faulted fault.Store 1) none (0 ∷ 1 ∷ []) [] ∷ []
unfolding opened
store_3_and_4 = refl

load_255_and_256 : map (λ c. run (set 1 c ∷ load 0 1 ∷ []) (fives 256)) (255 ∷ 256 ∷ [])
    ≡ ran Finished (log (255 ∷ []) [] []) (0 ∷ 1 ∷ []) (5 ∷ []) ∷ ran (Faulted fault.Load 1) none (0 ∷ 1 ∷ []) [] ∷ []
unfolding opened
load_255_and_256 = refl

store_255_and_256 : map (λ c. run (set 0 c ∷ store 0 1 ∷ []) (fives 256)) (255 ∷ 256 ∷ [])
    ≡ ran Finished (log [] (255 ∷ []) (0 ∷ [])) (0 ∷ 1 ∷ []) [] ∷ ran (Faulted fault.Store 1) none (0 ∷ 1 ∷ []) [] ∷ []
unfolding opened
store_255_and_256 = refl

-- the largest cell number there is
load_the_last_number : run (set 1 1 ∷ sub 2 0 1 ∷ load 0 2 ∷ []) (fives 1) ≡ ran (Faulted fault.Load 2) none (0 ∷ 1 ∷ 2 ∷ []) []
unfolding opened
load_the_last_number = refl

-- ---- "States: 1 gathered, 2 rejected, 3 faulted. Detail: the reject code; 256 × kind + instruction number; .. else 0."

-- for both kinds, at the first and at the last instruction
states : map state_of_run (Finished ∷ Rejected 7 ∷ Faulted fault.Load 0 ∷ Faulted fault.Store 31 ∷ []) ≡ 1 ∷ 2 ∷ 3 ∷ 3 ∷ []
states = refl

details : map detail_of_run
    (Finished ∷ Rejected 0 ∷ Rejected 255 ∷ Faulted fault.Load 0 ∷ Faulted fault.Load 31 ∷ Faulted fault.Store 0 ∷ Faulted fault.Store 31 ∷ [])
    ≡ 0 ∷ 0 ∷ 255 ∷ 256 ∷ 287 ∷ 512 ∷ 543 ∷ []
details = refl

-- the whole slot of a run that finished (case 13: "cell 0 = 2, cell 2 = 3, store through both: reads 0, 2; stores 3")
slot_finished : slot (load 1 0 ∷ load 2 1 ∷ store 2 1 ∷ []) (2 ∷ 0 ∷ 3 ∷ 0 ∷ [])
    ≡ 1 ∷ 0 ∷ 2 ∷ 1 ∷ (0 ∷ 2 ∷ replicate 30 0) ++ (3 ∷ replicate 31 0) ++ (2 ∷ replicate 31 0)
unfolding opened
slot_finished = refl

-- ---- "A program that rejects or faults stores nothing"; "A rejected or faulted slot has only state and detail."

-- each loads cell 0 and stores cell 1 first
abbrev first : List Instruction → List Instruction
first rest = load 2 0 ∷ set 1 1 ∷ store 1 2 ∷ rest

slot_rejected : slot (first (reject 7 ∷ [])) (fives 4) ≡ 2 ∷ 7 ∷ replicate 98 0
unfolding opened
slot_rejected = refl

slot_load_fault : slot (first (set 0 4 ∷ load 3 0 ∷ [])) (fives 4) ≡ 3 ∷ 260 ∷ replicate 98 0
unfolding opened
slot_load_fault = refl

slot_store_fault : slot (first (set 0 4 ∷ store 0 1 ∷ [])) (fives 4) ≡ 3 ∷ 516 ∷ replicate 98 0
unfolding opened
slot_store_fault = refl

-- the run itself still says what it had read and stored
run_rejected : run (first (reject 7 ∷ [])) (fives 4) ≡ ran (Rejected 7) (log (0 ∷ []) (1 ∷ []) (5 ∷ [])) (0 ∷ 1 ∷ 2 ∷ 3 ∷ []) (5 ∷ [])
unfolding opened
run_rejected = refl

-- ---- the bench sheet's cases of one program

-- 8: "T=4: set r0 to 4, store there: faulted, detail 513."
case_8 : slot (set 0 4 ∷ store 0 1 ∷ []) (fives 4) ≡ 3 ∷ 513 ∷ replicate 98 0
unfolding opened
case_8 = refl

-- 10: "Program 0 stores x, then rejects with 7; program 1 loads x"
case_10 : slot (set 1 6 ∷ store 0 1 ∷ reject 7 ∷ []) (fives 1) ≡ 2 ∷ 7 ∷ replicate 98 0
unfolding opened
case_10 = refl

case_10_loads : run (load 1 0 ∷ []) (fives 1) ≡ ran Finished (log (0 ∷ []) [] []) (0 ∷ []) (5 ∷ [])
unfolding opened
case_10_loads = refl

-- 11: "One program loads and then stores x"
case_11 : run (load 1 0 ∷ store 0 1 ∷ []) (9 ∷ []) ≡ ran Finished (log (0 ∷ []) (0 ∷ []) (9 ∷ [])) (0 ∷ 1 ∷ []) (9 ∷ [])
unfolding opened
case_11 = refl

-- 12: "0 − 1 gives 4294967295."
case_12 : run (set 1 1 ∷ sub 2 0 1 ∷ store 0 2 ∷ []) (fives 1) ≡ ran Finished (log [] (0 ∷ []) (4294967295 ∷ [])) (0 ∷ 1 ∷ 2 ∷ []) []
unfolding opened
case_12 = refl
