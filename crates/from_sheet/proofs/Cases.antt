-- Document 02, asks 1 and 2, the image of a sheet, tried by computation on the definitions: what is written, and each refusal on both sides, in their
-- order. The numbers are literals. Assumes nothing.
use Prim.Native.Nat.{ℕ}
use mathlib.Core.Path.{◌≡◌, refl}
use mathlib.Core.List.{List, [], ◌∷◌, ◌++◌, map}
use lib.ListN.{replicate}
use Rattle.text.specs.Ascii.{ascii}
use Rattle.image.specs.Refusals.{refusing, refusing_at}
use Rattle.image.specs.Assembler.{joined}
use Rattle.sheet.specs.Answers.{TextNumbers, numbers_of_written}
use Rattle.from_sheet.specs.FromSheet.{image_of_answer, image_of_output}
use Rattle.from_sheet.specs.Opened.{opened}

-- an output of so many bytes, each 9
abbrev room : ℕ → List ℕ
room n = replicate n 9

-- what is answered, in numbers: a length, a refusal that has no place, and a bad line
abbrev answer : (sheet out : List ℕ) → TextNumbers
answer sheet out = numbers_of_written (image_of_answer sheet out)

abbrev done : ℕ → TextNumbers
done n = record { refusal = refusing 0; length = n; line = 0 }

abbrev refused : ℕ → TextNumbers
refused n = record { refusal = refusing n; length = 0; line = 0 }

abbrev bad : ℕ → TextNumbers
bad k = record { refusal = refusing 51; length = 0; line = k }

-- no program; one that is empty; two, with the rule byte as it is typed. "beyond the length nothing is touched"
written : image_of_output (ascii "rule 0\n") (room 7)
    ∷ image_of_output (ascii "rule 1\nprogram\n") (room 9)
    ∷ image_of_output (ascii "rule 2\nprogram\nset 0 1 7\nprogram\nreject 5 0 0\nend 0 0 0\n") (room 23)
    ∷ []
    ≡ (0 ∷ 0 ∷ 0 ∷ 0 ∷ 6 ∷ 0 ∷ 9 ∷ [])
    ∷ (1 ∷ 0 ∷ 1 ∷ 0 ∷ 8 ∷ 0 ∷ 8 ∷ 0 ∷ 9 ∷ [])
    ∷ (2 ∷ 0 ∷ 2 ∷ 0 ∷ 10 ∷ 0 ∷ 14 ∷ 0 ∷ 22 ∷ 0 ∷ 1 ∷ 0 ∷ 1 ∷ 7 ∷ 8 ∷ 5 ∷ 0 ∷ 0 ∷ 0 ∷ 0 ∷ 0 ∷ 0 ∷ 9 ∷ [])
    ∷ []
unfolding opened
written = refl

answered : answer (ascii "rule 0\n") (room 7) ∷ answer (ascii "rule 2\nprogram\nend 0 0 0\n") (room 12) ∷ [] ≡ done 6 ∷ done 12 ∷ []
unfolding opened
answered = refl

-- ---- each refusal, and that it touches nothing

-- a sheet of so many programs, each of so many instructions
abbrev sheet_with : (programs instructions : ℕ) → List ℕ
sheet_with n m = ascii "rule 1\n" ++ joined (replicate n (ascii "program\n" ++ joined (replicate m (ascii "end 0 0 0\n"))))

-- 51: with its line
line_51 : map (λ text. answer text (room 100)) ([] ∷ ascii "rule 3\n" ∷ ascii "rule 1\nprogram\nend 0 0 00\n" ∷ ascii "rule 1\nprogram" ∷ [])
    ≡ bad 1 ∷ bad 1 ∷ bad 3 ∷ bad 2 ∷ []
unfolding opened
line_51 = refl

-- 2: 64 programs, and 65
programs_2 : (answer (sheet_with 64 0) (room 134) ≡ done 134) × (answer (sheet_with 65 0) (room 200) ≡ refused 2)
unfolding opened
programs_2 = (refl, refl)

-- 3: 32 instructions, and 33
instructions_3 : (answer (sheet_with 1 32) (room 136) ≡ done 136) × (answer (sheet_with 2 33) (room 300) ≡ refused 3)
unfolding opened
instructions_3 = (refl, refl)

-- ---- document 02, ask 2: which instruction is bad

abbrev at : (number program instruction : ℕ) → TextNumbers
at number p i = record { refusal = refusing_at number p i; length = 0; line = 0 }

-- a register over 7, an unused byte not 0, a skip past the end, and the last good ones
instructions_4 : map (λ text. answer (ascii "rule 1\nprogram\nprogram\n" ++ text) (room 100))
    (ascii "set 7 0 0\n" ∷ ascii "set 8 0 0\n" ∷ ascii "load 0 0 1\n" ∷ ascii "skipless 0 0 0\n" ∷ ascii "skipless 0 0 1\n"
    ∷ ascii "skipless 0 0 1\nend 0 0 0\n" ∷ [])
    ≡ done 14 ∷ at 42 1 0 ∷ at 43 1 0 ∷ done 14 ∷ at 44 1 0 ∷ done 18 ∷ []
unfolding opened
instructions_4 = refl

-- each way, at the first, the middle and the last instruction of the first, a middle and the last program
abbrev ways : List (List ℕ)
ways = ascii "load 8 0 0\n" ∷ ascii "load 0 0 1\n" ∷ ascii "skipless 0 0 200\n" ∷ []

abbrev one : List ℕ
one = ascii "end 0 0 0\n"

abbrev empty : List ℕ
empty = ascii "program\n"

abbrev three : (x y z : List ℕ) → List ℕ
three x y z = empty ++ x ++ y ++ z

abbrev refused_as : List ℕ → TextNumbers
refused_as programs = answer (ascii "rule 1\n" ++ programs) []

firsts : map (λ x. refused_as (three x one one ++ empty ++ empty)) ways ≡ at 42 0 0 ∷ at 43 0 0 ∷ at 44 0 0 ∷ []
unfolding opened
firsts = refl

middles : map (λ x. refused_as (empty ++ three one x one ++ empty)) ways ≡ at 42 1 1 ∷ at 43 1 1 ∷ at 44 1 1 ∷ []
unfolding opened
middles = refl

lasts : map (λ x. refused_as (empty ++ empty ++ three one one x)) ways ≡ at 42 2 2 ∷ at 43 2 2 ∷ at 44 2 2 ∷ []
unfolding opened
lasts = refl

-- the very last place that there is
last_place : answer (sheet_with 63 0 ++ empty ++ joined (replicate 31 one) ++ ascii "set 8 0 0\n") [] ≡ at 42 63 31
unfolding opened
last_place = refl

-- "the first in image order": of two bad instructions the one of the earlier program, and in a program the earlier one, whichever their faults are; "then
-- in the list": bad in two ways
first_in_order : map refused_as
    ((empty ++ three one (ascii "skipless 0 0 200\n") (ascii "set 8 0 0\n") ++ three (ascii "set 8 0 0\n") one one)
    ∷ (three one one (ascii "end 0 0 1\n") ++ three (ascii "set 8 0 0\n") one one)
    ∷ (empty ++ empty ++ three (ascii "load 0 8 1\n") (ascii "end 0 0 1\n") one)
    ∷ three one (ascii "skipequal 8 0 200\n") one
    ∷ [])
    ≡ at 44 1 1 ∷ at 43 0 2 ∷ at 42 2 0 ∷ at 42 0 1 ∷ []
unfolding opened
first_in_order = refl

-- an unknown name is 51, wherever it stands, and no operation at all can be typed by its number
unknown_names : map refused_as
    (three one (ascii "jump 0 0 0\n") one
    ∷ three one (ascii "9 0 0 0\n") one
    ∷ three (ascii "set 8 0 0\n") one (ascii "jump 0 0 0\n")
    ∷ [])
    ≡ bad 4 ∷ bad 4 ∷ bad 5 ∷ []
unfolding opened
unknown_names = refl

-- ---- the output, and the order of the checks

-- 10: one byte short
output_10 : answer (ascii "rule 0\n") (room 5) ∷ answer (ascii "rule 0\n") (room 6) ∷ [] ≡ refused 10 ∷ done 6 ∷ []
unfolding opened
output_10 = refl

-- each is looked for over the whole sheet before the next: a bad last line behind 65 programs, one of them too long and one with a bad instruction; then
-- without that line, with one program fewer, without the long one, and with a good instruction
abbrev long : List ℕ
long = ascii "program\n" ++ joined (replicate 33 (ascii "end 0 0 0\n"))

in_turn : map (λ text. answer text [])
    ((sheet_with 63 0 ++ long ++ ascii "program\nset 8 0 0\nx\n") ∷ (sheet_with 63 0 ++ long ++ ascii "program\nset 8 0 0\n")
    ∷ (sheet_with 62 0 ++ long ++ ascii "program\nset 8 0 0\n") ∷ (sheet_with 63 0 ++ ascii "program\nset 8 0 0\n")
    ∷ (sheet_with 63 0 ++ ascii "program\nset 7 0 0\n") ∷ [])
    ≡ bad 101 ∷ refused 2 ∷ refused 3 ∷ at 42 63 0 ∷ refused 10 ∷ []
unfolding opened
in_turn = refl

-- a refusal touches nothing
untouched : image_of_output [] (room 3) ∷ image_of_output (ascii "rule 1\nprogram\nset 8 0 0\n") (room 14) ∷ image_of_output (ascii "rule 1\n") (room 5) ∷ []
    ≡ room 3 ∷ room 14 ∷ room 5 ∷ []
unfolding opened
untouched = refl
