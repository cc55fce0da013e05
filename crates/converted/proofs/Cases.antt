-- What the two programs print and say, tried by computation on the definitions: an image, a sheet, each refusal and its place. The numbers are literals.
-- Assumes nothing.
use Prim.Native.Nat.{ℕ}
use mathlib.Core.Path.{◌≡◌, refl}
use mathlib.Core.List.{List, [], ◌∷◌, ◌++◌, map}
use lib.ListN.{replicate}
use Rattle.text.specs.Ascii.{ascii}
use Rattle.image.specs.Assembler.{image, program, fields, joined, set, reject, end}
use Rattle.converted.specs.Converted.{image_page, sheet_said, sheet_page}
use Rattle.converted.specs.Opened.{opened}

-- two programs, there and back
abbrev two : List ℕ
two = image 2 (program (set 0 263 ∷ []) ∷ program (reject 5 ∷ end ∷ []) ∷ [])

abbrev typed : List ℕ
typed = ascii "rule 2\nprogram\nset 0 1 7\nprogram\nreject 5 0 0\nend 0 0 0\n"

there_and_back : (image_page typed ≡ two) × (sheet_page two ≡ typed)
unfolding opened
there_and_back = (refl, refl)

-- from a sheet: 51 with the line's number, none but that of the first bad one; of the others the number alone
abbrev sheet_with : (programs instructions : ℕ) → List ℕ
sheet_with n m = ascii "rule 1\n" ++ joined (replicate n (ascii "program\n" ++ joined (replicate m (ascii "end 0 0 0\n"))))

from_a_sheet : map image_page
    ([] ∷ ascii "rule 1\nprogram" ∷ ascii "rule 1\nprogram\nset 0 0 00\nset 0 0 00\n" ∷ sheet_with 65 0 ∷ sheet_with 1 33 ∷ ascii "rule 1\nprogram\nset 8 0 0\n" ∷ [])
    ≡ ascii "refused 51 line 1\n" ∷ ascii "refused 51 line 2\n" ∷ ascii "refused 51 line 3\n" ∷ ascii "refused 2\n" ∷ ascii "refused 3\n"
    ∷ ascii "refused 42\n" ∷ []
unfolding opened
from_a_sheet = refl

-- what is said beside it: the line of the first bad instruction and its place, here behind an empty program; a sheet has no unknown operation
abbrev mended : List ℕ → List ℕ
mended bad = ascii "rule 1\nprogram\nset 0 0 1\nprogram\nprogram\n" ++ joined (replicate 5 (ascii "set 0 0 7\n")) ++ bad ++ ascii "end 0 0 0\nend 0 0 0\n"

bad_lines : map (λ bad. sheet_said (mended bad)) (ascii "set 9 0 0\n" ∷ ascii "store 7 7 4\n" ∷ ascii "skipless 0 0 3\n" ∷ [])
    ≡ ascii "line 11, program 2, instruction 5: register 9 is over 7\n"
    ∷ ascii "line 11, program 2, instruction 5: an unused byte is 4, not 0\n"
    ∷ ascii "line 11, program 2, instruction 5: a skip by 3 lands past the end\n"
    ∷ []
unfolding opened
bad_lines = refl

-- the very first instruction, and the very last that there can be
first_and_last : map sheet_said
    (ascii "rule 1\nprogram\nload 0 8 1\n"
    ∷ (sheet_with 63 32 ++ ascii "program\n" ++ joined (replicate 31 (ascii "end 0 0 0\n")) ++ ascii "end 0 0 6\n")
    ∷ [])
    ≡ ascii "line 3, program 0, instruction 0: register 8 is over 7\n" ∷ ascii "line 2113, program 63, instruction 31: an unused byte is 6, not 0\n" ∷ []
unfolding opened
first_and_last = refl

-- nothing where all is well, of a line that its place does not allow, of too many programs and of one that is too long
nothing_is_said : map sheet_said (typed ∷ [] ∷ ascii "rule 1\nprogram\nset 8 0 0\nx\n" ∷ sheet_with 65 0 ∷ sheet_with 1 33 ∷ []) ≡ replicate 5 []
unfolding opened
nothing_is_said = refl

-- from an image: 1 to 3, and one of 41 to 44
from_an_image : map sheet_page
    ([] ∷ fields 65 1 0 (0 ∷ []) [] ∷ fields 1 1 0 (9 ∷ 9 ∷ []) [] ∷ image 1 (program (set 8 0 ∷ []) ∷ []) ∷ [])
    ≡ ascii "refused 1\n" ∷ ascii "refused 2\n" ∷ ascii "refused 3\n" ∷ ascii "refused 42\n" ∷ []
unfolding opened
from_an_image = refl
