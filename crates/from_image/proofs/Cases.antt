-- Document 02, ask 1, the sheet of an image, tried by computation on the definitions: what is written, and each refusal. The numbers are literals.
-- Assumes nothing.
use Prim.Native.Nat.{ℕ}
use mathlib.Core.Path.{◌≡◌, refl}
use mathlib.Core.List.{List, [], ◌∷◌, ◌++◌, map}
use lib.ListN.{length, replicate}
use Rattle.text.specs.Ascii.{ascii}
use Rattle.image.specs.Refusals.{Counted, refusing_at, refusing, numbers_of_count, told_of_image}
use Rattle.image.specs.Image.{refusal_of}
use Rattle.image.specs.Assembler.{image, program, fields, end, set, load, store, add, sub, skipless, skipequal, reject}
use Rattle.from_image.specs.FromImage.{sheet_of_image, sheet_of_answer, sheet_of_output}
use Rattle.from_image.specs.Longest.{longest_sheet}
use Rattle.from_image.specs.Opened.{opened}

-- "rule R" with the raw byte; a program without instructions; one of each instruction
none : map (λ rule. sheet_of_image (image rule [])) (0 ∷ 1 ∷ 2 ∷ []) ≡ ascii "rule 0\n" ∷ ascii "rule 1\n" ∷ ascii "rule 2\n" ∷ []
unfolding opened
none = refl

each : sheet_of_image
    (image 2 ([] ∷ program (set 0 513 ∷ load 1 2 ∷ store 3 4 ∷ add 5 6 7 ∷ sub 7 6 5 ∷ skipless 1 2 2 ∷ skipequal 3 4 1 ∷ reject 255 ∷ end ∷ []) ∷ program (end ∷ []) ∷ []))
    ≡ ascii "rule 2\nprogram\nprogram\nset 0 2 1\nload 1 2 0\nstore 3 4 0\nadd 5 6 7\nsub 7 6 5\nskipless 1 2 2\nskipequal 3 4 1\nreject 255 0 0\nend 0 0 0\nprogram\nend 0 0 0\n"
unfolding opened
each = refl

-- an output of so many bytes, each 9
abbrev room : ℕ → List ℕ
room n = replicate n 9

-- what is answered, in numbers
abbrev answer : (image out : List ℕ) → Counted
answer image out = numbers_of_count (sheet_of_answer image out)

abbrev done : ℕ → Counted
done n = record { refusal = refusing 0; count = n }

-- "beyond the length nothing is touched"
answered : (answer (image 1 ([] ∷ [])) (room 16) ≡ done 15) × (sheet_of_output (image 1 ([] ∷ [])) (room 16) ≡ ascii "rule 1\nprogram\n" ++ (9 ∷ []))
unfolding opened
answered = (refl, refl)

-- an output of exactly the sheet's length is enough
exact : (answer (image 1 []) (room 7) ≡ done 7) × (sheet_of_output (image 1 []) (room 7) ≡ ascii "rule 1\n")
unfolding opened
exact = (refl, refl)

-- "From an image: 1 to 4, then 10": five bytes; a count of 65; a first offset that is not 8; a register over 7; and one byte short
refused : map (λ bytes. answer bytes (room 6))
    (room 5 ∷ fields 65 1 0 (0 ∷ []) [] ∷ fields 1 1 0 (9 ∷ 9 ∷ []) [] ∷ image 1 (program (set 0 0 ∷ set 8 0 ∷ []) ∷ []) ∷ image 1 [] ∷ [])
    ≡ map (λ r. record { refusal = r; count = 0 }) (refusing 1 ∷ refusing 2 ∷ refusing 3 ∷ refusing_at 42 0 1 ∷ refusing 10 ∷ [])
unfolding opened
refused = refl

-- a refusal touches nothing
untouched : sheet_of_output (image 1 []) (room 6) ∷ sheet_of_output [] (room 2) ∷ [] ≡ room 6 ∷ room 2 ∷ []
unfolding opened
untouched = refl

-- the longest sheet: 64 programs, each with 22 skips of 10 and then 10 skips of one digit
abbrev longest : List ℕ
longest = image 2 (replicate 64 (program (replicate 22 (skipequal 7 7 10) ++ replicate 10 (skipequal 7 7 0))))

longest_sheet_lem : ((told_of_image (refusal_of longest)).number ≡ 0) × (length (sheet_of_image longest) ≡ longest_sheet) × (longest_sheet ≡ 34695)
unfolding opened longest_sheet
longest_sheet_lem = (refl, refl, refl)
