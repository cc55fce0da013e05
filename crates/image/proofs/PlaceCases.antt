-- Document 02, ask 2, "Which instruction is bad?", tried by computation on the image's definitions, sentence by sentence. Assumes nothing.
use Prim.Native.Nat.{ℕ}
use mathlib.Core.Bool.{true, false}
use mathlib.Core.Path.{◌≡◌, refl}
use mathlib.Core.List.{List, [], ◌∷◌, ◌++◌, map}
use lib.ListN.{replicate}
use Rattle.image.specs.Refusals.{refusing_at, refusing, told, told_of_image, says_where}
use Rattle.image.specs.Instruction.{wrong_byte}
use Rattle.image.specs.Image.{refusal_of, fresh_refusal_of, program_refusal_of}
use Rattle.image.specs.Opened.{opened}
use Rattle.image.specs.Assembler.{Instruction, instruction, end, set, load, skipless, program, image}

-- an instruction that is bad in each of the four ways
abbrev unknown : Instruction
unknown = instruction 9 0 0 0

abbrev register_8 : Instruction
register_8 = load 8 0

abbrev not_zero : Instruction
not_zero = instruction 2 0 0 1

abbrev too_far : Instruction
too_far = skipless 0 0 200

abbrev ways : List Instruction
ways = unknown ∷ register_8 ∷ not_zero ∷ too_far ∷ []

-- "return program and instruction too": in three programs of three instructions, instruction i of program p is this one
abbrev three : Instruction → Instruction → Instruction → List ℕ
three x y z = program (x ∷ y ∷ z ∷ [])

abbrev good : List ℕ
good = three end (set 7 65535) end

abbrev middle : List ℕ → List ℕ
middle p = image 1 (good ∷ p ∷ good ∷ [])

-- each way, at the first, the middle and the last instruction of the first, a middle and the last program
firsts : map (λ x. told_of_image (refusal_of (image 1 (three x end end ∷ good ∷ good ∷ [])))) ways ≡ refusing_at 41 0 0 ∷ refusing_at 42 0 0 ∷ refusing_at 43 0 0 ∷ refusing_at 44 0 0 ∷ []
unfolding opened
firsts = refl

middles : map (λ x. told_of_image (refusal_of (middle (three end x end)))) ways ≡ refusing_at 41 1 1 ∷ refusing_at 42 1 1 ∷ refusing_at 43 1 1 ∷ refusing_at 44 1 1 ∷ []
unfolding opened
middles = refl

lasts : map (λ x. told_of_image (refusal_of (image 1 (good ∷ good ∷ three end end x ∷ [])))) ways ≡ refusing_at 41 2 2 ∷ refusing_at 42 2 2 ∷ refusing_at 43 2 2 ∷ refusing_at 44 2 2 ∷ []
unfolding opened
lasts = refl

-- the very last place that there is
last_place : told_of_image (refusal_of (image 2 (replicate 63 (program (replicate 32 end)) ++ (program (replicate 31 end ++ (unknown ∷ [])) ∷ [])))) ≡ refusing_at 41 63 31
unfolding opened
last_place = refl

-- "the first in image order": of two bad instructions the one of the earlier program, and in a program the earlier one, whichever their faults are
first_in_order : map (λ i. told_of_image (refusal_of i)) (
    image 1 (good ∷ three end too_far unknown ∷ three unknown end end ∷ [])
    ∷ image 1 (good ∷ three end unknown too_far ∷ good ∷ [])
    ∷ image 1 (three end end not_zero ∷ three register_8 end end ∷ good ∷ [])
    ∷ []) ≡ refusing_at 44 1 1 ∷ refusing_at 41 1 1 ∷ refusing_at 43 0 2 ∷ []
unfolding opened
first_in_order = refl

-- "then in the list below": bad in two and in three ways. An unknown operation has no register, no unused byte and no skip.
bad_in_several_ways : map (λ x. told_of_image (refusal_of (middle (three x end end)))) (
    instruction 9 8 8 255
    ∷ instruction 255 255 255 255
    ∷ instruction 2 8 0 1
    ∷ instruction 3 0 9 1
    ∷ instruction 6 8 0 200
    ∷ instruction 7 0 255 3
    ∷ instruction 4 0 0 8
    ∷ instruction 0 0 9 9
    ∷ instruction 8 255 0 1
    ∷ []) ≡ refusing_at 41 1 0 ∷ refusing_at 41 1 0 ∷ refusing_at 42 1 0 ∷ refusing_at 42 1 0 ∷ refusing_at 42 1 0 ∷ refusing_at 42 1 0 ∷ refusing_at 42 1 0 ∷ refusing_at 43 1 0 ∷ refusing_at 43 1 0 ∷ []
unfolding opened
bad_in_several_ways = refl

-- every other refusal has no place, and none has none
no_place : map (λ i. told_of_image (refusal_of i)) ([] ∷ image 3 (good ∷ []) ∷ (image 1 (good ∷ []) ++ (0 ∷ [])) ∷ image 1 (good ∷ []) ∷ [])
    ≡ refusing 1 ∷ refusing 2 ∷ refusing 3 ∷ refusing 0 ∷ []
unfolding opened
no_place = refl

says_where_lem : map says_where (0 ∷ 4 ∷ 40 ∷ 41 ∷ 44 ∷ 45 ∷ 51 ∷ 60 ∷ 61 ∷ 64 ∷ 65 ∷ [])
    ≡ false ∷ false ∷ false ∷ true ∷ true ∷ false ∷ false ∷ false ∷ true ∷ true ∷ false ∷ []
unfolding opened
says_where_lem = refl

-- "for the fresh image 24 by 61 to 64", with the place in the fresh image
fresh : map (λ x. told (fresh_refusal_of (middle (three end end x)))) ways ≡ refusing_at 61 1 2 ∷ refusing_at 62 1 2 ∷ refusing_at 63 1 2 ∷ refusing_at 64 1 2 ∷ []
unfolding opened
fresh = refl

-- a program that is asked for: the image's refusal with its place, whichever program it is
asked : map (λ p. told (program_refusal_of (middle (three end register_8 end)) p)) (0 ∷ 1 ∷ 7 ∷ []) ≡ refusing_at 42 1 1 ∷ refusing_at 42 1 1 ∷ refusing_at 42 1 1 ∷ []
unfolding opened
asked = refl

-- which byte is wrong, for those who are to mend it: the operation, or the first of the three that fails
wrong_bytes : map (λ x. wrong_byte (three end x end) 1) (
    instruction 17 8 8 8
    ∷ instruction 2 9 8 1
    ∷ instruction 4 0 7 250
    ∷ instruction 0 0 6 5
    ∷ instruction 3 1 1 4
    ∷ instruction 7 7 7 3
    ∷ []) ≡ 17 ∷ 9 ∷ 250 ∷ 6 ∷ 4 ∷ 3 ∷ []
unfolding opened
wrong_bytes = refl
