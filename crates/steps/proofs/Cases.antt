-- Document 01, "The steps", tried by computation, sentence by sentence: opening and gathering. A case compares the whole area, word by word.
-- Assumes nothing.
use Prim.Native.Nat.{ℕ}
use mathlib.Core.Path.{◌≡◌, refl}
use mathlib.Core.List.{List, [], ◌∷◌, map}
use lib.ListN.{replicate}
use Rattle.std.specs.Prelude.{Ok}
use Rattle.image.specs.Refusals.{refusing, passed}
use Rattle.image.specs.Assembler.{Instruction, set, load, store, reject, program, image}
use Rattle.image.specs.Bench.{x, y, copy, example_1, example_2}
use Rattle.guard.specs.Guards.{full_range, full_for}
use Rattle.machine.specs.declared.FaultKind.TheVariants as fault
use Rattle.machine.specs.declared.Run.TheVariants.{Finished, Rejected, Faulted}
use Rattle.area.specs.Sketch.{slot, area}
use Rattle.steps.specs.Answers.{done_with, numbers_of_gathered}
use Rattle.steps.specs.Opening.{open_area, OpenSays}
use Rattle.steps.specs.Gathering.{gather_answer, gather_area, GatherSays}
use Rattle.steps.specs.Opened.{opened}

abbrev zeros : ℕ → List ℕ
zeros n = replicate n 0

-- what the calls leave where no guard is in the way
abbrev open_in : List ℕ → List ℕ → List ℕ → List ℕ
open_in i t a = open_area i t (full_for t) a

abbrev gather : List ℕ → List ℕ → List ℕ → ℕ → List ℕ
gather i t a k = gather_area i t (full_for t) a k

-- the area after these programs are gathered, one after another
abbrev gather_each : List ℕ → List ℕ → List ℕ → List ℕ → List ℕ
gather_each i t a [] = a
gather_each i t a (k ∷ ks) = gather_each i t (gather i t a k) ks

-- ---- "Opening sets the whole area to 0."

-- for one cell and no program, and for three cells and three programs, whatever stood there
whole_area : open_in (image 0 []) (5 ∷ []) (7 ∷ 7 ∷ []) ∷ open_in (example_2 1) (1 ∷ 2 ∷ 3 ∷ []) (replicate 306 7) ∷ [] ≡ zeros 2 ∷ zeros 306 ∷ []
unfolding opened
whole_area = refl

-- what the call's contract says of it
opening_says : OpenSays (example_2 1) (1 ∷ 2 ∷ 3 ∷ []) (full_range 6) (replicate 306 7) passed (zeros 306)
unfolding opened
opening_says = record { answer = refl; area = refl }

-- ---- "Gathering runs one waiting program on the table lent to it (its opening table)"

-- y = x on x = 1, and on x = 7
on_the_table_lent : map (λ v. gather (image 1 (copy x y ∷ [])) (v ∷ 5 ∷ []) (zeros 104) 0) (1 ∷ 7 ∷ [])
    ≡ area (0 ∷ 1 ∷ []) (1 ∷ 0 ∷ []) (slot 1 0 (0 ∷ []) (1 ∷ []) (1 ∷ []) ∷ [])
    ∷ area (0 ∷ 1 ∷ []) (1 ∷ 0 ∷ []) (slot 1 0 (0 ∷ []) (1 ∷ []) (7 ∷ []) ∷ [])
    ∷ []
unfolding opened
on_the_table_lent = refl

-- and not on what an earlier program has stored: program 1 of Example 2, z = y, gets 2 and not 1
abbrev example_2_gathered : List ℕ
example_2_gathered =
    area (0 ∷ 1 ∷ 2 ∷ []) (1 ∷ 2 ∷ 3 ∷ [])
    (slot 1 0 (0 ∷ []) (1 ∷ []) (1 ∷ []) ∷ slot 1 0 (1 ∷ []) (2 ∷ []) (2 ∷ []) ∷ slot 1 0 (1 ∷ 2 ∷ []) [] [] ∷ [])

no_earlier_store : gather_each (example_2 1) (1 ∷ 2 ∷ 3 ∷ []) (zeros 306) (0 ∷ 1 ∷ 2 ∷ []) ≡ example_2_gathered
unfolding opened
no_earlier_store = refl

-- ---- "rewrites that whole slot"

-- program 1 of three, whatever stood in its slot, while the slots beside it stay
whole_slot :
    let beside : List ℕ = slot 5 3 (0 ∷ []) (0 ∷ []) (9 ∷ []) in
    let before : List ℕ = slot 0 77 (replicate 32 1) (replicate 32 1) (replicate 32 88) in
    gather (image 1 (replicate 3 (copy x y))) (5 ∷ 6 ∷ []) (area (0 ∷ 0 ∷ []) (0 ∷ 0 ∷ []) (beside ∷ before ∷ beside ∷ [])) 1
    ≡ area (0 ∷ 2 ∷ []) (2 ∷ 0 ∷ []) (beside ∷ slot 1 0 (0 ∷ []) (1 ∷ []) (5 ∷ []) ∷ beside ∷ [])
unfolding opened
whole_slot = refl

-- ---- "and makes all its reservations: a mark that is 0 or larger becomes this program's"

-- Example 1's three programs read and store the same two cells: in every order the marks name the smallest
abbrev example_1_gathered : List ℕ
example_1_gathered =
    area (1 ∷ 2 ∷ []) (1 ∷ 2 ∷ []) (
    slot 1 0 (0 ∷ []) (0 ∷ []) (10 ∷ [])
    ∷ slot 1 0 (0 ∷ 1 ∷ []) (1 ∷ []) (5 ∷ [])
    ∷ slot 1 0 (0 ∷ 1 ∷ []) (0 ∷ []) (13 ∷ [])
    ∷ []
    )

in_every_order : map (gather_each (example_1 2) (9 ∷ 4 ∷ []) (zeros 304))
    ((0 ∷ 1 ∷ 2 ∷ []) ∷ (0 ∷ 2 ∷ 1 ∷ []) ∷ (1 ∷ 0 ∷ 2 ∷ []) ∷ (1 ∷ 2 ∷ 0 ∷ []) ∷ (2 ∷ 0 ∷ 1 ∷ []) ∷ (2 ∷ 1 ∷ 0 ∷ []) ∷ [])
    ≡ replicate 6 example_1_gathered
unfolding opened
in_every_order = refl

-- it does not stop at the first one lost (case 9): stores x; stores x and y; stores y
case_9 : gather_each
    (image 1 (program (store 0 0 ∷ []) ∷ program (store 0 0 ∷ set 1 1 ∷ store 1 1 ∷ []) ∷ program (set 1 1 ∷ store 1 1 ∷ []) ∷ []))
    (8 ∷ 9 ∷ []) (zeros 304) (0 ∷ 1 ∷ 2 ∷ [])
    ≡ area (1 ∷ 2 ∷ []) (0 ∷ 0 ∷ [])
    (slot 1 0 [] (0 ∷ []) (0 ∷ []) ∷ slot 1 0 [] (0 ∷ 1 ∷ []) (0 ∷ 1 ∷ []) ∷ slot 1 0 [] (1 ∷ []) (1 ∷ []) ∷ [])
unfolding opened
case_9 = refl

-- ---- "A program that rejects or faults stores nothing, reserves nothing"; "A rejected or faulted slot has only state and detail."

-- three that load x, store y and then reject, fault at a store, fault at a load; then y = x
abbrev then_fails : List Instruction → List ℕ
then_fails rest = program (load 2 0 ∷ set 1 1 ∷ store 1 2 ∷ set 0 2 ∷ program rest ∷ [])

abbrev failing : List ℕ
failing = image 2 (then_fails (reject 7 ∷ []) ∷ then_fails (store 0 1 ∷ []) ∷ then_fails (load 1 0 ∷ []) ∷ copy x y ∷ [])

-- the marks are program 3's, also where it is gathered first
only_state_and_detail : map (gather_each failing (5 ∷ 6 ∷ []) (zeros 404)) ((0 ∷ 1 ∷ 2 ∷ 3 ∷ []) ∷ (3 ∷ 2 ∷ 1 ∷ 0 ∷ []) ∷ [])
    ≡ replicate 2 (area (0 ∷ 4 ∷ []) (4 ∷ 0 ∷ [])
    ((2 ∷ 7 ∷ zeros 98) ∷ (3 ∷ 516 ∷ zeros 98) ∷ (3 ∷ 260 ∷ zeros 98) ∷ slot 1 0 (0 ∷ []) (1 ∷ []) (5 ∷ []) ∷ []))
unfolding opened
only_state_and_detail = refl

-- ---- "When done, gathering and settling return the slot's state and detail"

answers : map (gather_answer failing (5 ∷ 6 ∷ []) (full_range 4) (zeros 404)) (0 ∷ 1 ∷ 2 ∷ 3 ∷ []) ≡ Ok (Rejected 7) ∷ Ok (Faulted fault.Store 4) ∷ Ok (Faulted fault.Load 4) ∷ Ok Finished ∷ []
unfolding opened
answers = refl

numbers : map numbers_of_gathered (Ok (Rejected 7) ∷ Ok (Faulted fault.Store 4) ∷ Ok (Faulted fault.Load 4) ∷ Ok Finished ∷ [])
    ≡ done_with 2 7 ∷ done_with 3 516 ∷ done_with 3 260 ∷ done_with 1 0 ∷ []
numbers = refl

done_is_0 : done_with 3 516 ≡ record { refusal = refusing 0; state = 3; detail = 516 }
done_is_0 = refl

-- what the call's contract says of all this
gathering_says : GatherSays (image 1 (copy x y ∷ [])) (7 ∷ 5 ∷ []) (full_range 4) (zeros 104) 0 (Ok Finished)
    (area (0 ∷ 1 ∷ []) (1 ∷ 0 ∷ []) (slot 1 0 (0 ∷ []) (1 ∷ []) (7 ∷ []) ∷ []))
unfolding opened
gathering_says = record { answer = refl; area = refl }
