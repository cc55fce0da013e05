-- Document 01 tried by computation on the image's definitions, sentence by sentence: "Sizes", "The image: counts and offsets", handing back, and the
-- refusals' numbers. The numbers are literals, and each comparison has a case on both its sides. Assumes nothing.
use Prim.Native.Nat.{ℕ, ◌+◌, ◌-◌}
use mathlib.Core.Bool.{true, false}
use mathlib.Core.Path.{◌≡◌, refl, ap, ◌∙◌}
use mathlib.Core.List.{List, [], ◌∷◌, ◌++◌, map}
use lib.ListN.{length, take, replicate}
use denote.Ref.{Bor}
use Rattle.image.specs.Limits.{max_programs, max_instructions, registers, min_cells, max_cells, instruction_bytes, max_program_bytes, head_bytes, min_bytes, max_bytes}
use Rattle.std.specs.Prelude.{Err}
use Rattle.image.specs.declared.refusals.Fault.{Fault}
use Rattle.image.specs.declared.refusals.Fault.TheVariants as fault
use Rattle.image.specs.declared.refusals.ImageRefusal.TheVariants.{Size, Header, Offsets, Instruction}
use Rattle.image.specs.declared.refusals.Refusal.{Refusal}
use Rattle.image.specs.declared.refusals.Refusal.TheVariants as lent
use Rattle.image.specs.Refusals.{none, refusing_at, fault_number, numbers_of, line, passed, told, told_of_image}
use Rattle.image.specs.Image.{number_at, header_of, second_rule, offset_of, part_of, refusal_of, program_refusal_of, program_of, start_of, ProgramSays, ProgramRefusalSays}
use Rattle.image.specs.Opened.{opened}
use Rattle.image.specs.Assembler.{instruction, end, set, reject, program, fields, image}
use Rattle.image.specs.Bench.{example_1, example_2, example_3, empty}

-- the refusal's number of each of these images, 0 for none
abbrev pub refusals : List (List ℕ) → List ℕ
refusals = map (λ i. (told_of_image (refusal_of i)).number)

-- the refusal's number where a program is asked for
abbrev program_refusal : List ℕ → ℕ → ℕ
program_refusal i p = (told (program_refusal_of i p)).number

-- ---- "Sizes"

-- "The limits belong to the image and are named in one place: 0 to 64 programs, 0 to 32 instructions each, 8 registers, 1 to 256 cells"
limits : max_programs ∷ max_instructions ∷ registers ∷ min_cells ∷ max_cells ∷ [] ≡ 64 ∷ 32 ∷ 8 ∷ 1 ∷ 256 ∷ []
limits = refl

-- as many programs, of no instructions
abbrev programs : ℕ → List ℕ
programs n = image 0 (replicate n [])

programs_0_64_65 : refusals (programs 0 ∷ programs 64 ∷ programs 65 ∷ []) ≡ 0 ∷ 0 ∷ 2 ∷ []
unfolding opened
programs_0_64_65 = refl

-- a program of as many instructions
abbrev instructions : ℕ → List ℕ
instructions m = image 0 (program (replicate m end) ∷ [])

instructions_0_32_33 : refusals (instructions 0 ∷ instructions 32 ∷ instructions 33 ∷ []) ≡ 0 ∷ 0 ∷ 3 ∷ []
unfolding opened
instructions_0_32_33 = refl

-- "An image has 6 to 8326 bytes."
bytes_6_8326 : min_bytes ∷ max_bytes ∷ [] ≡ 6 ∷ 8326 ∷ []
bytes_6_8326 = refl

-- the largest image, and sizes around both ends
abbrev full : List ℕ
full = image 2 (replicate 64 (program (replicate 32 (set 7 65535))))

abbrev sizes : List (List ℕ)
sizes = take 5 empty ∷ empty ∷ full ∷ (full ++ (0 ∷ [])) ∷ []

bytes_5_6_8326_8327 : (map length sizes ≡ 5 ∷ 6 ∷ 8326 ∷ 8327 ∷ []) × (refusals sizes ≡ 1 ∷ 0 ∷ 0 ∷ 1 ∷ [])
unfolding opened
bytes_5_6_8326_8327 = (refl, refl)

-- ---- "The image: counts and offsets"

-- "All numbers are 16 bits, low byte first."
low_byte_first : map (number_at (1 ∷ 2 ∷ 255 ∷ 255 ∷ [])) (0 ∷ 1 ∷ 2 ∷ []) ≡ 513 ∷ 65282 ∷ 65535 ∷ []
unfolding opened
low_byte_first = refl

-- "Bytes 0–1: program count n. Byte 2: rule, .. Byte 3: 0."
header : header_of (3 ∷ 1 ∷ 2 ∷ 7 ∷ []) ≡ record { count = 259; rule = 2; zero = 7 }
unfolding opened
header = refl

-- "rule, 0 (default, means Rule 1), 1 or 2"
second_rule_lem : map (λ i. second_rule i) (image 0 [] ∷ image 1 [] ∷ image 2 [] ∷ []) ≡ false ∷ false ∷ true ∷ []
second_rule_lem = refl

-- 2, "count over 64, rule over 2, or byte 3 not 0"; 256 programs are said in the high byte alone
rule_0_1_2_3 : refusals (image 0 [] ∷ image 1 [] ∷ image 2 [] ∷ image 3 [] ∷ []) ≡ 0 ∷ 0 ∷ 0 ∷ 2 ∷ []
unfolding opened
rule_0_1_2_3 = refl

byte_3_0_1 : refusals (fields 0 0 0 (6 ∷ []) [] ∷ fields 0 0 1 (6 ∷ []) [] ∷ fields 256 0 0 (6 ∷ []) [] ∷ []) ≡ 0 ∷ 2 ∷ 2 ∷ []
unfolding opened
byte_3_0_1 = refl

-- "Then n+1 offsets. Program i is the bytes from offset i up to, not including, offset i+1."
abbrev two : List ℕ
two = image 2 (program (reject 7 ∷ []) ∷ program (set 1 513 ∷ end ∷ []) ∷ [])

two_bytes : two ≡ (2 ∷ 0 ∷ 2 ∷ 0 ∷ []) ++ (10 ∷ 0 ∷ 14 ∷ 0 ∷ 22 ∷ 0 ∷ []) ++ (8 ∷ 7 ∷ 0 ∷ 0 ∷ []) ++ (1 ∷ 1 ∷ 2 ∷ 1 ∷ 0 ∷ 0 ∷ 0 ∷ 0 ∷ [])
two_bytes = refl

two_offsets : map (λ p. offset_of two p) (0 ∷ 1 ∷ 2 ∷ []) ≡ 10 ∷ 14 ∷ 22 ∷ []
unfolding opened
two_offsets = refl

two_parts : map (part_of two) (0 ∷ 1 ∷ []) ≡ (8 ∷ 7 ∷ 0 ∷ 0 ∷ []) ∷ (1 ∷ 1 ∷ 2 ∷ 1 ∷ 0 ∷ 0 ∷ 0 ∷ 0 ∷ []) ∷ []
unfolding opened
two_parts = refl

-- an image with these offsets and then as many bytes, all 0
abbrev laid : List ℕ → ℕ → List ℕ
laid offsets k = fields (length offsets - 1) 0 0 offsets (replicate k 0)

-- 3, "image under 2n+6 bytes": of two that have one program, 8 and 7 bytes
head_2n+6 : map head_bytes (0 ∷ 1 ∷ 64 ∷ []) ≡ 6 ∷ 8 ∷ 134 ∷ []
head_2n+6 = refl

holds_its_offsets : refusals (laid (8 ∷ 8 ∷ []) 0 ∷ take 7 (laid (8 ∷ 8 ∷ []) 0) ∷ []) ≡ 0 ∷ 3 ∷ []
unfolding opened
holds_its_offsets = refl

-- "The first offset is 2n+6": one less, right, one more, each with all else right
first_offset : refusals (laid (7 ∷ 11 ∷ []) 3 ∷ laid (8 ∷ 12 ∷ []) 4 ∷ laid (9 ∷ 13 ∷ []) 5 ∷ []) ≡ 3 ∷ 0 ∷ 3 ∷ []
unfolding opened
first_offset = refl

-- "offsets never fall": they rise, stay, fall, each with all else right
never_fall : refusals (laid (10 ∷ 14 ∷ 18 ∷ []) 8 ∷ laid (10 ∷ 14 ∷ 14 ∷ []) 4 ∷ laid (10 ∷ 18 ∷ 14 ∷ []) 4 ∷ []) ≡ 0 ∷ 0 ∷ 3 ∷ []
unfolding opened
never_fall = refl

-- "each length is a multiple of 4 and at most 128", that of the second program too
length_4_128 : instruction_bytes ∷ max_program_bytes ∷ [] ≡ 4 ∷ 128 ∷ []
length_4_128 = refl

abbrev lengths : List ℕ → List (List ℕ)
lengths = map (λ k. laid (8 ∷ (8 + k) ∷ []) k)

multiple_of_4 : refusals (lengths (0 ∷ 1 ∷ 2 ∷ 3 ∷ 4 ∷ 6 ∷ 8 ∷ [])) ≡ 0 ∷ 3 ∷ 3 ∷ 3 ∷ 0 ∷ 3 ∷ 0 ∷ []
unfolding opened
multiple_of_4 = refl

at_most_128 : refusals (lengths (124 ∷ 128 ∷ 132 ∷ [])) ≡ 0 ∷ 0 ∷ 3 ∷ []
unfolding opened
at_most_128 = refl

second_length : refusals (laid (10 ∷ 14 ∷ 16 ∷ []) 6 ∷ laid (10 ∷ 14 ∷ 146 ∷ []) 136 ∷ []) ≡ 3 ∷ 3 ∷ []
unfolding opened
second_length = refl

-- and that of the first of two, each with all else right: 2 bytes, 132 bytes, and an offset that falls
first_length : refusals (laid (10 ∷ 12 ∷ 16 ∷ []) 6 ∷ laid (10 ∷ 142 ∷ 146 ∷ []) 136 ∷ laid (10 ∷ 6 ∷ 14 ∷ []) 4 ∷ []) ≡ 3 ∷ 3 ∷ 3 ∷ []
unfolding opened
first_length = refl

-- "the last offset is the image's length": one more than it, right, one less
last_offset : refusals (laid (8 ∷ 12 ∷ []) 3 ∷ laid (8 ∷ 12 ∷ []) 4 ∷ laid (8 ∷ 12 ∷ []) 5 ∷ []) ≡ 3 ∷ 0 ∷ 3 ∷ []
unfolding opened
last_offset = refl

-- the bench sheet's images are good
bench_sheet : refusals (example_1 1 ∷ example_1 2 ∷ example_2 1 ∷ example_2 2 ∷ example_3 2 ∷ example_3 1 ∷ empty ∷ [])
    ≡ 0 ∷ 0 ∷ 0 ∷ 0 ∷ 0 ∷ 0 ∷ 0 ∷ []
unfolding opened
bench_sheet = refl

-- ---- "What each refusal says"

-- the column "no.": "0 done" of what has passed, and a number for each refusal
done : told passed ≡ none
done = refl

abbrev named : List Refusal
named =
    lent.Image Size ∷ lent.Image Header ∷ lent.Image Offsets ∷ lent.TableSize ∷ lent.AreaSize ∷ lent.Area ∷ lent.Number
    ∷ lent.State ∷ lent.TooShort ∷ lent.TooMany ∷ lent.NoOrder ∷ []

numbers : none.number ∷ map (λ r. (numbers_of r).number) named ≡ 0 ∷ 1 ∷ 2 ∷ 3 ∷ 5 ∷ 6 ∷ 7 ∷ 8 ∷ 9 ∷ 10 ∷ 11 ∷ 12 ∷ []
numbers = refl

-- document 02, ask 2: "41 unknown operation, 42 register over 7, 43 an unused byte not 0, 44 skip past the end"
abbrev faults : List Fault
faults = fault.Operation ∷ fault.Register ∷ fault.Unused ∷ fault.Skip ∷ []

numbers_of_faults : map fault_number faults ≡ 41 ∷ 42 ∷ 43 ∷ 44 ∷ []
numbers_of_faults = refl

-- "return program and instruction too": of instruction 3 of program 2, in the image that a call is lent and in the fresh one
numbers_of_places : map (λ f. numbers_of (lent.Image (Instruction (record { fault = f; program = 2; instruction = 3 })))) faults
    ≡ refusing_at 41 2 3 ∷ refusing_at 42 2 3 ∷ refusing_at 43 2 3 ∷ refusing_at 44 2 3 ∷ []
numbers_of_places = refl

-- document 02, ask 3: "13 this program is not carried; 15 its detail is not the reason .."; its ask 5: 14, and ask 1: 51
numbers_of_why_lem : map (λ r. (numbers_of r).number) (lent.NotCarried ∷ lent.Guards ∷ lent.Reason ∷ []) ++ (line.number ∷ []) ≡ 13 ∷ 14 ∷ 15 ∷ 51 ∷ []
numbers_of_why_lem = refl

-- "21–24: as 1–4, for the fresh image", "24 by 61 to 64"
numbers_of_fresh : (map (λ r. (numbers_of (lent.Fresh r)).number) (Size ∷ Header ∷ Offsets ∷ []) ≡ 21 ∷ 22 ∷ 23 ∷ [])
    × (map (λ f. numbers_of (lent.Fresh (Instruction (record { fault = f; program = 2; instruction = 3 })))) faults
    ≡ refusing_at 61 2 3 ∷ refusing_at 62 2 3 ∷ refusing_at 63 2 3 ∷ refusing_at 64 2 3 ∷ [])
numbers_of_fresh = (refl, refl)

-- "Checks go in the row order": 1 before 2 (rule 3 in 5 bytes), 2 before 3 (65 programs in 6 bytes), 3 before 41 (a byte too many after operation 9)
abbrev bad : List ℕ
bad = image 0 (program (instruction 9 0 0 0 ∷ []) ∷ [])

row_order : refusals (take 5 (image 3 []) ∷ fields 65 0 0 (6 ∷ []) [] ∷ (bad ++ (0 ∷ [])) ∷ []) ≡ 1 ∷ 2 ∷ 3 ∷ []
unfolding opened
row_order = refl

-- ---- handing back a program

-- "A program asked for by number is handed back as that very part of the image"
handed_back : (map (program_of two) (0 ∷ 1 ∷ []) ≡ (8 ∷ 7 ∷ 0 ∷ 0 ∷ []) ∷ (1 ∷ 1 ∷ 2 ∷ 1 ∷ 0 ∷ 0 ∷ 0 ∷ 0 ∷ []) ∷ [])
    × (map (start_of two) (0 ∷ 1 ∷ []) ≡ 10 ∷ 14 ∷ [])
unfolding opened
handed_back = (refl, refl)

-- "checks 1 to 4 and 8": program 2 of images that are refused for 1, 2, 3, 41 and have no program 2 either; then programs 1, 2, 3 of the two.
-- "8: program number n or more"
abbrev asked : {A : Type 0} → (List ℕ → ℕ → A) → List A
asked f = map (λ i. f i 2) (take 5 empty ∷ image 3 [] ∷ (two ++ (0 ∷ [])) ∷ bad ∷ []) ++ map (f two) (1 ∷ 2 ∷ 3 ∷ [])

program_refusals : asked program_refusal ≡ 1 ∷ 2 ∷ 3 ∷ 41 ∷ 0 ∷ 8 ∷ 8 ∷ []
unfolding opened
program_refusals = refl

no_program_0 : program_refusal empty 0 ≡ 8
unfolding opened
no_program_0 = refl

-- "returns the part alone, empty on a refusal"
empty_on_a_refusal : (asked program_of ≡ [] ∷ [] ∷ [] ∷ [] ∷ (1 ∷ 1 ∷ 2 ∷ 1 ∷ 0 ∷ 0 ∷ 0 ∷ 0 ∷ []) ∷ [] ∷ [] ∷ [])
    × (asked start_of ≡ 0 ∷ 0 ∷ 0 ∷ 0 ∷ 14 ∷ 0 ∷ 0 ∷ [])
unfolding opened
empty_on_a_refusal = (refl, refl)

-- what the calls' contracts say of all this: of an image that holds the two, program 1 is handed back as its 8 bytes, from byte 14 on
program_says : (i r : Bor (List ℕ)) → i.now ≡ two → ProgramSays i 1 r → (r.now ≡ 1 ∷ 1 ∷ 2 ∷ 1 ∷ 0 ∷ 0 ∷ 0 ∷ 0 ∷ []) × (r.ref_ptr ≡ (i.ref_ptr.0, 14 + i.ref_ptr.1))
unfolding opened
program_says i r e s =
    (s.part.bytes_are ∙ ap (λ (x : List ℕ). program_of x 1) e, s.part.lies_at ∙ ap (λ (x : List ℕ). (i.ref_ptr.0, start_of x 1 + i.ref_ptr.1)) e)

program_refusal_says : ProgramRefusalSays two 1 passed × ProgramRefusalSays two 2 (Err lent.Number)
    × ProgramRefusalSays bad 0 (Err (lent.Image (Instruction (record { fault = fault.Operation; program = 0; instruction = 0 }))))
unfolding opened
program_refusal_says = (record { answer = refl }, record { answer = refl }, record { answer = refl })
