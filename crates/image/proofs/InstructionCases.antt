-- Document 01, "Instructions", tried by computation on the image's definitions, sentence by sentence: which instruction is good. Assumes nothing.
use Prim.Native.Nat.{ℕ, ◌-◌}
use mathlib.Core.Path.{◌≡◌, refl}
use mathlib.Core.List.{List, [], ◌∷◌, ◌++◌, map}
use lib.ListN.{replicate}
use Rattle.image.specs.Instruction.{byte_of, instructions_of}
use Rattle.image.specs.Opened.{opened}
use Rattle.image.specs.Assembler.{Instruction, instruction, end, set, load, store, add, sub, skipless, skipequal, reject, program, image}
use Rattle.image.proofs.Cases.{refusals}

-- each instruction in a program of its own, alone in its image
abbrev alone : List Instruction → List (List ℕ)
alone = map (λ i. image 0 (program (i ∷ []) ∷ []))

-- the same refusal for each of a list
abbrev each : {A : Type 0} → ℕ → List A → List ℕ
each refusal = map (λ i. refusal)

-- "Four bytes: operation, a, b, c."
four_bytes : (map (λ j. byte_of (1 ∷ 2 ∷ 3 ∷ 4 ∷ 5 ∷ 6 ∷ 7 ∷ 8 ∷ []) 1 j) (0 ∷ 1 ∷ 2 ∷ 3 ∷ []) ≡ 5 ∷ 6 ∷ 7 ∷ 8 ∷ [])
    × (instructions_of (1 ∷ 2 ∷ 3 ∷ 4 ∷ 5 ∷ 6 ∷ 7 ∷ 8 ∷ []) ≡ 2)
four_bytes = (refl, refl)

-- the column "op"
operations : end ∷ set 1 513 ∷ load 1 2 ∷ store 1 2 ∷ add 1 2 3 ∷ sub 1 2 3 ∷ skipless 1 2 3 ∷ skipequal 1 2 3 ∷ reject 1 ∷ []
    ≡ (0 ∷ 0 ∷ 0 ∷ 0 ∷ [])
    ∷ (1 ∷ 1 ∷ 2 ∷ 1 ∷ [])
    ∷ (2 ∷ 1 ∷ 2 ∷ 0 ∷ [])
    ∷ (3 ∷ 1 ∷ 2 ∷ 0 ∷ [])
    ∷ (4 ∷ 1 ∷ 2 ∷ 3 ∷ [])
    ∷ (5 ∷ 1 ∷ 2 ∷ 3 ∷ [])
    ∷ (6 ∷ 1 ∷ 2 ∷ 3 ∷ [])
    ∷ (7 ∷ 1 ∷ 2 ∷ 3 ∷ [])
    ∷ (8 ∷ 1 ∷ 0 ∷ 0 ∷ [])
    ∷ []
operations = refl

-- every operation with the largest bytes that are good
abbrev largest : List Instruction
largest = end ∷ set 7 65535 ∷ load 7 7 ∷ store 7 7 ∷ add 7 7 7 ∷ sub 7 7 7 ∷ skipless 7 7 0 ∷ skipequal 7 7 0 ∷ reject 255 ∷ []

largest_good : refusals (alone largest) ≡ each 0 largest
unfolding opened
largest_good = refl

-- 43, "an unused byte not 0": "end: a, b, c are 0", "load: c is 0", "store: c is 0", "reject: b and c are 0"
abbrev not_zero : List Instruction
not_zero =
    instruction 0 1 0 0
    ∷ instruction 0 0 1 0
    ∷ instruction 0 0 0 1
    ∷ instruction 2 0 0 1
    ∷ instruction 3 0 0 1
    ∷ instruction 8 0 1 0
    ∷ instruction 8 0 0 1
    ∷ []

not_zero_bad : refusals (alone not_zero) ≡ each 43 not_zero
unfolding opened
not_zero_bad = refl

-- "Operations 9 to 255 are bad": 41, "unknown operation"
from_9 : refusals (alone (instruction 9 0 0 0 ∷ instruction 10 0 0 0 ∷ instruction 128 0 0 0 ∷ instruction 255 0 0 0 ∷ [])) ≡ 41 ∷ 41 ∷ 41 ∷ 41 ∷ []
unfolding opened
from_9 = refl

-- "Every byte that names a register is 0 to 7": 42, "register over 7"
abbrev register_8 : List Instruction
register_8 =
    (set 8 0 ∷ load 8 0 ∷ load 0 8 ∷ store 8 0 ∷ store 0 8 ∷ [])
    ++ (add 8 0 0 ∷ add 0 8 0 ∷ add 0 0 8 ∷ sub 8 0 0 ∷ sub 0 8 0 ∷ sub 0 0 8 ∷ [])
    ++ (skipless 8 0 0 ∷ skipless 0 8 0 ∷ skipequal 8 0 0 ∷ skipequal 0 8 0 ∷ [])

register_8_bad : refusals (alone register_8) ≡ each 42 register_8
unfolding opened
register_8_bad = refl

-- "A skip at instruction i of m needs i+1+c ≤ m, taken or not": 44, "skip past the end", and "case 14 now gives 44". Both skips by c at instruction i of m: the first is not taken there, the second is.
abbrev skips : ℕ → ℕ → ℕ → List (List ℕ)
skips i m c = map (λ s. image 0 (program (replicate i end ++ (s ∷ replicate (m - i - 1) end)) ∷ [])) (skipless 0 0 c ∷ skipequal 0 0 c ∷ [])

skip_0_of_1 : refusals (skips 0 1 0 ++ skips 0 1 1 ++ skips 0 1 255) ≡ 0 ∷ 0 ∷ 44 ∷ 44 ∷ 44 ∷ 44 ∷ []
unfolding opened
skip_0_of_1 = refl

skip_0_of_32 : refusals (skips 0 32 31 ++ skips 0 32 32) ≡ 0 ∷ 0 ∷ 44 ∷ 44 ∷ []
unfolding opened
skip_0_of_32 = refl

skip_2_of_5 : refusals (skips 2 5 0 ++ skips 2 5 2 ++ skips 2 5 3) ≡ 0 ∷ 0 ∷ 0 ∷ 0 ∷ 44 ∷ 44 ∷ []
unfolding opened
skip_2_of_5 = refl

-- every instruction of every program is looked at, also where no run arrives
never_reached : refusals (
    image 0 (program (end ∷ instruction 9 0 0 0 ∷ []) ∷ program (end ∷ []) ∷ [])
    ∷ image 0 (program (end ∷ []) ∷ program (end ∷ instruction 9 0 0 0 ∷ []) ∷ [])
    ∷ []) ≡ 41 ∷ 41 ∷ []
unfolding opened
never_reached = refl
