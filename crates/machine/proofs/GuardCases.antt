-- Document 02, ask 5, "Guarded cells", tried by computation on whole runs, sentence by sentence. Assumes nothing.
use Rattle.std.proofs.Common.{◌≡◌, ℕ, ◌-◌, List, [], ◌∷◌, ◌++◌, map, replicate, refl}
use Rattle.image.specs.Assembler.{Instruction, set, load, store, sub, reject, program}
use Rattle.guard.specs.Signed.{lowest, highest}
use Rattle.guard.specs.Guards.{full_for}
use Rattle.machine.specs.declared.FaultKind.TheVariants as fault
use Rattle.machine.specs.declared.Run.{Run}
use Rattle.machine.specs.declared.Run.TheVariants.{Finished, Rejected, Faulted}
use Rattle.machine.specs.declared.Store.{Store}
use Rattle.machine.specs.Runs.{Outcome, guard_fault, run_of, free_run, detail_of_run, slot_of, store_at}
use Rattle.machine.specs.Opened.{opened}

-- ---- how a case is written

-- a negative number as a word
abbrev minus : ℕ → ℕ
minus n = 4294967296 - n

-- three cells: a heater from -20 to 45, one that is closed, and one that takes every number; none of them stands within its guard
abbrev table : List ℕ
table = 99 ∷ 5 ∷ minus 7 ∷ []

abbrev guards : List ℕ
guards = minus 20 ∷ 45 ∷ 1 ∷ 0 ∷ lowest ∷ highest ∷ []

abbrev outcome : List Instruction → Outcome
outcome instructions = run_of (program instructions) table guards

-- how a run ended, and what it had stored until then
data Ended : Type 0 where
  ends : Run → (cells values : List ℕ) → Ended

abbrev run : List Instruction → Ended
run instructions = let o = outcome instructions in ends o.answer o.log.cells o.log.values

-- stores the number above 0 so far below 0 to a cell
abbrev lower : (cell below : ℕ) → List Instruction
lower cell below = set 0 cell ∷ set 1 below ∷ sub 2 3 1 ∷ store 0 2 ∷ []

abbrev put : (cell value : ℕ) → List Instruction
put cell value = set 0 cell ∷ set 1 value ∷ store 0 1 ∷ []

-- ---- "A store whose value, read as a signed 32-bit number, lies below low or above high is now a fault of kind 3 at its place"

-- below 0: the low end, and one below it
to_the_low_end : map (λ n. run (lower 0 n)) (20 ∷ 21 ∷ []) ≡ ends Finished (0 ∷ []) (minus 20 ∷ []) ∷ ends (Faulted fault.Guard 3) [] [] ∷ []
unfolding opened
to_the_low_end = refl

-- above 0: the high end, and one above it
to_the_high_end : map (λ n. run (put 0 n)) (45 ∷ 46 ∷ []) ≡ ends Finished (0 ∷ []) (45 ∷ []) ∷ ends (Faulted fault.Guard 2) [] [] ∷ []
unfolding opened
to_the_high_end = refl

-- "is now a fault of kind 3": its number, and the detail at the first and at the last instruction
kind_3 : guard_fault ∷ map detail_of_run (Faulted fault.Guard 0 ∷ Faulted fault.Guard 31 ∷ []) ≡ 3 ∷ 768 ∷ 799 ∷ []
kind_3 = refl

-- it ends the run: what comes after it is not done; what came before it was, but the slot has only state and detail
ends_the_run : run (put 2 8 ++ put 0 46 ++ (reject 9 ∷ [])) ≡ ends (Faulted fault.Guard 5) (2 ∷ []) (8 ∷ [])
unfolding opened
ends_the_run = refl

only_state_and_detail : slot_of (outcome (put 2 8 ++ put 0 46)) ≡ 3 ∷ 773 ∷ replicate 98 0
unfolding opened
only_state_and_detail = refl

-- every store is judged, also one that a later store of the same program would put right
each_store : run (put 0 46 ++ put 0 45) ∷ run (put 0 45 ++ put 0 46) ∷ []
    ≡ ends (Faulted fault.Guard 2) [] [] ∷ ends (Faulted fault.Guard 5) (0 ∷ []) (45 ∷ []) ∷ []
unfolding opened
each_store = refl

-- ---- "low above high closes the cell"

closed : map (λ n. run (put 1 n)) (0 ∷ 1 ∷ 5 ∷ []) ≡ replicate 3 (ends (Faulted fault.Guard 2) [] [])
unfolding opened
closed = refl

-- ---- only stores are judged

-- not what stands there at the opening: a load gives it, and it may be stored where there is no guard
loads_are_not_judged : run (load 4 5 ∷ set 0 2 ∷ store 0 4 ∷ []) ≡ ends Finished (2 ∷ []) (99 ∷ [])
unfolding opened
loads_are_not_judged = refl

-- but it may not be stored back
stored_back : run (load 4 5 ∷ store 5 4 ∷ []) ≡ ends (Faulted fault.Guard 1) [] []
unfolding opened
stored_back = refl

-- ---- "Kind 2 comes before kind 3."

-- cells 2 and 3 of three: the first takes the value, the other is not there, and the run asks no guard
kind_2_first : map (λ c. run (put c 46)) (2 ∷ 3 ∷ []) ≡ ends Finished (2 ∷ []) (46 ∷ []) ∷ ends (Faulted fault.Store 2) [] [] ∷ []
unfolding opened
kind_2_first = refl

-- also where a list has a pair for that cell, which closes it
kind_2_beyond : (run_of (program (put 3 46)) table (guards ++ (1 ∷ 0 ∷ []))).answer ≡ Faulted fault.Store 2
unfolding opened
kind_2_beyond = refl

-- ---- "the full range": the run of before

-- with every cell open, the programs above end as they did before there were guards
abbrev programs : List (List ℕ)
programs = map program (lower 0 21 ∷ put 0 46 ∷ put 1 0 ∷ (load 4 5 ∷ store 5 4 ∷ []) ∷ put 3 46 ∷ (reject 9 ∷ []) ∷ [])

of_before : map (λ p. run_of p table (full_for table)) programs ≡ map (λ p. free_run p table) programs
unfolding opened
of_before = refl

before : map (λ p. (free_run p table).answer) programs ≡ Finished ∷ Finished ∷ Finished ∷ Finished ∷ Faulted fault.Store 2 ∷ Rejected 9 ∷ []
unfolding opened
before = refl

-- ---- which value met which ends

-- the store at which a run stopped, of a fault of kind 3 and of one of kind 2; of a run that finished, past its last instruction, nothing that means
-- anything
abbrev stopped_at : List Instruction → Store
stopped_at instructions = store_at (program instructions) (outcome instructions).last

at_the_store : map stopped_at (lower 0 25 ∷ (put 2 8 ++ put 0 46) ∷ put 3 46 ∷ [])
    ≡ record { cell = 0; value = minus 25 } ∷ record { cell = 0; value = 46 } ∷ record { cell = 3; value = 46 } ∷ []
unfolding opened
at_the_store = refl
