-- Document 01, "What each refusal says", tried by computation on opening, gathering and settling: the row order with check 8 and 9, and "A refusal
-- returns its number, 0 for every other result, and changes no lent memory." Assumes nothing.
use Prim.Native.Nat.{ℕ}
use mathlib.Core.Path.{◌≡◌, refl}
use mathlib.Core.List.{List, [], ◌∷◌, ◌++◌, map}
use lib.ListN.{take, replicate}
use Rattle.std.specs.Prelude.{Err}
use Rattle.image.specs.declared.refusals.Fault.TheVariants.{Operation}
use Rattle.image.specs.declared.refusals.ImageRefusal.TheVariants.{Size, Header, Offsets, Instruction}
use Rattle.image.specs.declared.refusals.Refusal.{Refusal}
use Rattle.image.specs.declared.refusals.Refusal.TheVariants.{Image, TableSize, Guards, AreaSize, Area, Number, State}
use Rattle.image.specs.declared.refusals.RefusalNumbers.{RefusalNumbers}
use Rattle.image.specs.Refusals.{refusing_at, refusing, told}
use Rattle.image.specs.Assembler.{instruction, end, program, image}
use Rattle.guard.specs.Guards.{full_for}
use Rattle.area.specs.Checks.{open_refusal}
use Rattle.area.specs.Sketch.{slot, area}
use Rattle.steps.specs.Answers.{Numbers, numbers_of_gathered, numbers_of_settled}
use Rattle.steps.specs.Opening.{open_area, OpenSays}
use Rattle.steps.specs.Gathering.{gather_answer, gather_area, GatherSays}
use Rattle.steps.specs.Settling.{settle_answer, settle_table, settle_area, SettleSays}
use Rattle.steps.specs.Opened.{opened}

-- ---- how a case is written

abbrev two : List ℕ
two = image 0 ([] ∷ [] ∷ [])

-- an area of one cell whose marks are this, and two programs in these states
abbrev states : ℕ → ℕ → ℕ → List ℕ
states mark first second = area (mark ∷ []) (mark ∷ []) (slot first 0 [] [] [] ∷ slot second 0 [] [] [] ∷ [])

-- The three numbers of an answer.
abbrev three : ℕ → ℕ → ℕ → Numbers
three refusal state detail = record { refusal = refusing refusal; state = state; detail = detail }

abbrev gathers : List ℕ → List ℕ → List ℕ → ℕ → Numbers
gathers i t a k = numbers_of_gathered (gather_answer i t (full_for t) a k)

abbrev settles : List ℕ → List ℕ → List ℕ → ℕ → Numbers
settles i t a k = numbers_of_settled (settle_answer i t (full_for t) a k)

-- ---- the row order

-- Inputs that break two neighbours each. 1, 2: rule 3 in 5 bytes. 2, 3: rule 3 and a byte too many. 3, 41: a byte too many after operation 9.
-- 41, 5: operation 9 and no cells. 5, 14: no cells and a guard. 14, 6: an end without the other and a word too many. 6, 7: a word too many and marks over n.
-- 7, 8: marks over n and number n. 8, 9: number n where some state is 0. 9: state 1 beside state 0.
abbrev broken : {A : Type 0} → ((i t g a : List ℕ) → (k : ℕ) → A) → List A
broken f =
    let bad : List ℕ = image 0 ([] ∷ program (end ∷ end ∷ instruction 9 0 0 0 ∷ []) ∷ []) in
    let five : List ℕ = 5 ∷ [] in
    let pair : List ℕ = 1 ∷ 0 ∷ [] in
    f (take 5 (image 3 [])) five pair (7 ∷ 7 ∷ []) 0
    ∷ f (image 3 [] ++ (0 ∷ [])) five pair (7 ∷ 7 ∷ []) 0
    ∷ f (bad ++ (0 ∷ [])) five pair (7 ∷ 7 ∷ []) 0
    ∷ f bad [] [] (replicate 100 7) 0
    ∷ f two [] pair (replicate 201 7) 0
    ∷ f two five five (replicate 203 7) 0
    ∷ f two five pair (replicate 203 7) 0
    ∷ f two five pair (states 3 0 0) 2
    ∷ f two five pair (states 1 0 0) 2
    ∷ f two five pair (states 2 1 0) 0
    ∷ []

-- 1 to 3, then 41 with its place, instruction 2 of program 1, then these
abbrev refusals : List ℕ → List RefusalNumbers
refusals rest = map refusing (1 ∷ 2 ∷ 3 ∷ []) ++ (refusing_at 41 1 2 ∷ map refusing rest)

-- the same by name, of the calls that look at all of them
abbrev named : List Refusal
named =
    map Image (Size ∷ Header ∷ Offsets ∷ Instruction (record { fault = Operation; program = 1; instruction = 2 }) ∷ [])
    ++ (TableSize ∷ Guards ∷ AreaSize ∷ Area ∷ Number ∷ State ∷ [])

-- the last three are nothing to opening, which knows neither marks, nor numbers, nor states
opening : broken (λ i t g a k. told (open_refusal i t g a)) ≡ refusals (5 ∷ 14 ∷ 6 ∷ 0 ∷ 0 ∷ 0 ∷ [])
unfolding opened
opening = refl

gathering_answers : broken gather_answer ≡ map Err named
unfolding opened
gathering_answers = refl

settling_answers : broken settle_answer ≡ map Err named
unfolding opened
settling_answers = refl

-- ---- "A refusal returns its number, 0 for every other result, and changes no lent memory."

abbrev refused_by : RefusalNumbers → Numbers
refused_by r = record { refusal = r; state = 0; detail = 0 }

numbers_of_refusals : (broken (λ i t g a k. numbers_of_gathered (gather_answer i t g a k)) ≡ map refused_by (refusals (5 ∷ 14 ∷ 6 ∷ 7 ∷ 8 ∷ 9 ∷ [])))
    × (broken (λ i t g a k. numbers_of_settled (settle_answer i t g a k)) ≡ map refused_by (refusals (5 ∷ 14 ∷ 6 ∷ 7 ∷ 8 ∷ 9 ∷ [])))
unfolding opened
numbers_of_refusals = (refl, refl)

nothing_changed : (take 7 (broken (λ i t g a k. open_area i t g a)) ≡ take 7 (broken (λ i t g a k. a)))
    × (broken gather_area ≡ broken (λ i t g a k. a))
    × (broken settle_table ≡ broken (λ i t g a k. t))
    × (broken settle_area ≡ broken (λ i t g a k. a))
unfolding opened
nothing_changed = (refl, refl, refl, refl)

-- what the calls' contracts say of a refusal
refused_says : OpenSays two [] [] (7 ∷ 7 ∷ []) (Err TableSize) (7 ∷ 7 ∷ [])
    × GatherSays two (5 ∷ []) [] (7 ∷ 7 ∷ []) 0 (Err Guards) (7 ∷ 7 ∷ [])
    × SettleSays two (5 ∷ []) (0 ∷ 0 ∷ []) (7 ∷ 7 ∷ []) 0 (Err AreaSize) (5 ∷ []) (7 ∷ 7 ∷ [])
unfolding opened
refused_says = (record { answer = refl; area = refl }, record { answer = refl; area = refl }, record { answer = refl; table = refl; area = refl })

-- ---- 8, "program number n or more"

number_n : (map (gathers two (5 ∷ []) (states 0 0 0)) (0 ∷ 1 ∷ 2 ∷ 3 ∷ 4294967296 ∷ []) ≡ three 0 1 0 ∷ three 0 1 0 ∷ replicate 3 (three 8 0 0))
    × (map (settles two (5 ∷ []) (states 0 1 1)) (0 ∷ 1 ∷ 2 ∷ 3 ∷ 4294967296 ∷ []) ≡ three 0 4 0 ∷ three 0 4 0 ∷ replicate 3 (three 8 0 0))
unfolding opened
number_n = (refl, refl)

-- ---- 9, "gathering: state not 0. Settling: some state 0, or this one's not 1."

-- gathering program 1 in each state; and with program 0 in each state, which does not matter
gathering_states : (map (λ s. gathers two (5 ∷ []) (states 0 0 s) 1) (0 ∷ 1 ∷ 2 ∷ 3 ∷ 4 ∷ 5 ∷ []) ≡ three 0 1 0 ∷ replicate 5 (three 9 0 0))
    × (map (λ s. gathers two (5 ∷ []) (states 0 s 0) 1) (0 ∷ 1 ∷ 2 ∷ 3 ∷ 4 ∷ 5 ∷ []) ≡ replicate 6 (three 0 1 0))
unfolding opened
gathering_states = (refl, refl)

-- settling program 1 likewise, the other one being gathered, or in each state
settling_states : (map (λ s. settles two (5 ∷ []) (states 0 1 s) 1) (0 ∷ 1 ∷ 2 ∷ 3 ∷ 4 ∷ 5 ∷ []) ≡ three 9 0 0 ∷ three 0 4 0 ∷ replicate 4 (three 9 0 0))
    × (map (λ s. settles two (5 ∷ []) (states 0 s 1) 1) (0 ∷ 1 ∷ 2 ∷ 3 ∷ 4 ∷ 5 ∷ []) ≡ three 9 0 0 ∷ replicate 5 (three 0 4 0))
unfolding opened
settling_states = (refl, refl)
