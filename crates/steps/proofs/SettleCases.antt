-- Document 01, "The steps", tried by computation, sentence by sentence: settling. A case compares the answer, or the whole table and the whole area.
-- Assumes nothing.
use Prim.Native.Nat.{ℕ}
use mathlib.Core.Path.{◌≡◌, refl}
use mathlib.Core.List.{List, [], ◌∷◌, map}
use lib.ListN.{replicate}
use Rattle.std.specs.Prelude.{Result, Ok}
use Rattle.image.specs.declared.refusals.Refusal.{Refusal}
use Rattle.image.specs.Assembler.{image}
use Rattle.image.specs.Bench.{example_1}
use Rattle.area.specs.Sketch.{slot, area}
use Rattle.steps.specs.declared.Reason.TheVariants.{Waw, Raw, RawWithWar}
use Rattle.steps.specs.declared.Settled.{Settled}
use Rattle.steps.specs.declared.Settled.TheVariants.{Committed, Carried}
use Rattle.steps.specs.Answers.{done_with, numbers_of_settled}
use Rattle.steps.specs.Settling.{settle_answer, settle_table, settle_area, SettleSays}
use Rattle.steps.specs.Opened.{opened}

-- ---- how a case is written

-- Guards that close every cell. Only a run's stores are judged, at its gathering (document 02, ask 5), so no case here notices them.
abbrev closed : List ℕ → List ℕ
closed [] = []
closed (x ∷ t) = 1 ∷ 0 ∷ closed t

-- what settling answers, and the table and the area that it leaves
abbrev answer : (i t a : List ℕ) → ℕ → Result Settled Refusal
answer i t a k = settle_answer i t (closed t) a k

abbrev table : (i t a : List ℕ) → ℕ → List ℕ
table i t a k = settle_table i t (closed t) a k

abbrev area_of : (i t a : List ℕ) → ℕ → List ℕ
area_of i t a k = settle_area i t (closed t) a k

-- two programs, under a rule byte; their instructions do not matter any more
abbrev two : ℕ → List ℕ
two rule = image rule ([] ∷ [] ∷ [])

-- Program 1 reads cell 0 and stores 60 to cell 1. Its state and detail are these, and so are the marks; program 0 is gathered.
abbrev standing : ℕ → ℕ → List ℕ → List ℕ → List ℕ
standing state detail writes reads = area writes reads (slot 1 0 [] [] [] ∷ slot state detail (0 ∷ []) (1 ∷ []) (60 ∷ []) ∷ [])

-- before it is settled, its detail being a made-up one
abbrev marked : List ℕ → List ℕ → List ℕ
marked = standing 1 99

-- under a rule byte, with none of the three; WAW; RAW; WAR; WAW and RAW; WAW and WAR; RAW and WAR; all
abbrev each : {A : Type 0} → ((i t a : List ℕ) → (k : ℕ) → A) → ℕ → List A
each f rule =
    map (λ a. f (two rule) (8 ∷ 9 ∷ []) a 1) (
    marked (0 ∷ 0 ∷ []) (0 ∷ 0 ∷ [])
    ∷ marked (0 ∷ 1 ∷ []) (0 ∷ 0 ∷ [])
    ∷ marked (1 ∷ 0 ∷ []) (0 ∷ 0 ∷ [])
    ∷ marked (0 ∷ 0 ∷ []) (0 ∷ 1 ∷ [])
    ∷ marked (1 ∷ 1 ∷ []) (0 ∷ 0 ∷ [])
    ∷ marked (0 ∷ 1 ∷ []) (0 ∷ 1 ∷ [])
    ∷ marked (1 ∷ 0 ∷ []) (0 ∷ 1 ∷ [])
    ∷ marked (1 ∷ 1 ∷ []) (0 ∷ 1 ∷ [])
    ∷ []
    )

-- ---- "Rule 1 commits without WAW and without RAW. Rule 2 commits without WAW and not with both RAW and WAR."

-- "An outcome is committed, or carried for one reason out of three: 1 WAW, looked at first; 2 RAW (Rule 1); 3 RAW with WAR (Rule 2)."
-- Byte 0 "means Rule 1".
rule_1 : map (each answer) (0 ∷ 1 ∷ [])
    ≡ replicate 2
    (map Ok (Committed ∷ Carried Waw ∷ Carried Raw ∷ Committed ∷ Carried Waw ∷ Carried Waw ∷ Carried Raw ∷ Carried Waw ∷ []))
unfolding opened
rule_1 = refl

rule_2 : each answer 2
    ≡ map Ok (Committed ∷ Carried Waw ∷ Committed ∷ Committed ∷ Carried Waw ∷ Carried Waw ∷ Carried RawWithWar ∷ Carried Waw ∷ [])
unfolding opened
rule_2 = refl

-- "When done, gathering and settling return the slot's state and detail"
numbers : map numbers_of_settled (map Ok (Committed ∷ Carried Waw ∷ Carried Raw ∷ Carried RawWithWar ∷ []))
    ≡ done_with 4 0 ∷ done_with 5 1 ∷ done_with 5 2 ∷ done_with 5 3 ∷ []
numbers = refl

-- program k of three that read and store the one cell, whose marks are this, under rule bytes 0, 1, 2
abbrev own : ℕ → ℕ → List (Result Settled Refusal)
own mark k =
    map (λ rule. answer (image rule ([] ∷ [] ∷ [] ∷ [])) (8 ∷ [])
    (area (mark ∷ []) (mark ∷ []) (replicate 3 (slot 1 0 (0 ∷ []) (0 ∷ []) (60 ∷ [])))) k) (0 ∷ 1 ∷ 2 ∷ [])

-- neither its own marks nor a later program's are against program 1: its own read is no WAR
own_and_later : own 2 1 ∷ own 3 1 ∷ own 1 1 ∷ [] ≡ replicate 3 (Ok Committed) ∷ replicate 3 (Ok Committed) ∷ replicate 3 (Ok (Carried Waw)) ∷ []
unfolding opened
own_and_later = refl

-- "Number 0 is never carried."
number_0 : map (λ mark. own mark 0) (0 ∷ 1 ∷ 2 ∷ 3 ∷ []) ≡ replicate 4 (replicate 3 (Ok Committed))
unfolding opened
number_0 = refl

-- ---- "Settling .. changes only its state and detail and, on a commit, the table."

-- a commit and each reason; the marks stay, and so do the lists
area_after : area_of (two 1) (8 ∷ 9 ∷ []) (marked (0 ∷ 2 ∷ []) (1 ∷ 1 ∷ [])) 1
    ∷ area_of (two 1) (8 ∷ 9 ∷ []) (marked (0 ∷ 1 ∷ []) (2 ∷ 0 ∷ [])) 1
    ∷ area_of (two 1) (8 ∷ 9 ∷ []) (marked (1 ∷ 2 ∷ []) (2 ∷ 0 ∷ [])) 1
    ∷ area_of (two 2) (8 ∷ 9 ∷ []) (marked (1 ∷ 2 ∷ []) (2 ∷ 1 ∷ [])) 1
    ∷ []
    ≡ standing 4 0 (0 ∷ 2 ∷ []) (1 ∷ 1 ∷ [])
    ∷ standing 5 1 (0 ∷ 1 ∷ []) (2 ∷ 0 ∷ [])
    ∷ standing 5 2 (1 ∷ 2 ∷ []) (2 ∷ 0 ∷ [])
    ∷ standing 5 3 (1 ∷ 2 ∷ []) (2 ∷ 1 ∷ [])
    ∷ []
unfolding opened
area_after = refl

-- the table takes the 60 where the program is committed, and else stays
table_after_lem : each table 1 ∷ each table 2 ∷ []
    ≡ map (map (λ v. 8 ∷ v ∷ [])) ((60 ∷ 9 ∷ 9 ∷ 60 ∷ 9 ∷ 9 ∷ 9 ∷ 9 ∷ []) ∷ (60 ∷ 9 ∷ 60 ∷ 60 ∷ 9 ∷ 9 ∷ 9 ∷ 9 ∷ []) ∷ [])
unfolding opened
table_after_lem = refl

-- "A committed program's stores go into the table at its settling, in the slot's order.": a made-up slot with a cell twice
in_slot_order : table (image 1 ([] ∷ [])) (7 ∷ 8 ∷ 9 ∷ []) (area (replicate 3 0) (replicate 3 0) (slot 1 0 [] (1 ∷ 0 ∷ 1 ∷ []) (4 ∷ 5 ∷ 6 ∷ []) ∷ [])) 0
    ≡ 5 ∷ 6 ∷ 9 ∷ []
unfolding opened
in_slot_order = refl

-- "Settling decides one gathered program": Example 1 under Rule 2, whose programs 0 and 1 commit and whose program 2 is carried for 1. Each is settled
-- first of all: the others stay gathered, and the table takes this one's stores alone.
abbrev example_1_in : ℕ → ℕ → ℕ → ℕ → List ℕ
example_1_in state_0 state_1 state_2 detail_2 =
    area (1 ∷ 2 ∷ []) (1 ∷ 2 ∷ []) (
    slot state_0 0 (0 ∷ []) (0 ∷ []) (10 ∷ [])
    ∷ slot state_1 0 (0 ∷ 1 ∷ []) (1 ∷ []) (5 ∷ [])
    ∷ slot state_2 detail_2 (0 ∷ 1 ∷ []) (0 ∷ []) (13 ∷ [])
    ∷ []
    )

one_program : (map (area_of (example_1 2) (9 ∷ 4 ∷ []) (example_1_in 1 1 1 0)) (0 ∷ 1 ∷ 2 ∷ []) ≡ example_1_in 4 1 1 0 ∷ example_1_in 1 4 1 0 ∷ example_1_in 1 1 5 1 ∷ [])
    × (map (table (example_1 2) (9 ∷ 4 ∷ []) (example_1_in 1 1 1 0)) (0 ∷ 1 ∷ 2 ∷ []) ≡ (10 ∷ 4 ∷ []) ∷ (9 ∷ 5 ∷ []) ∷ (9 ∷ 4 ∷ []) ∷ [])
unfolding opened
one_program = (refl, refl)

-- and last of all: the others stay as they were settled
one_program_last : (area_of (example_1 2) (10 ∷ 4 ∷ []) (example_1_in 4 1 5 1) 1 ≡ example_1_in 4 4 5 1)
    × (table (example_1 2) (10 ∷ 4 ∷ []) (example_1_in 4 1 5 1) 1 ≡ 10 ∷ 5 ∷ [])
unfolding opened
one_program_last = (refl, refl)

-- what the call's contract says of all this
settling_says : SettleSays (example_1 2) (9 ∷ 4 ∷ []) (closed (9 ∷ 4 ∷ [])) (example_1_in 1 1 1 0) 1 (Ok Committed) (9 ∷ 5 ∷ []) (example_1_in 1 4 1 0)
unfolding opened
settling_says = record { answer = refl; table = refl; area = refl }
