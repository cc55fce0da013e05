-- The place of a bad instruction in words, tried by computation on the definitions: each of the four sentences, and no word of any other image. The numbers
-- are literals. Assumes nothing.
use Prim.Native.Nat.{ℕ}
use mathlib.Core.Path.{◌≡◌, refl}
use mathlib.Core.List.{List, [], ◌∷◌, ◌++◌, map}
use lib.ListN.{replicate}
use Rattle.text.specs.Ascii.{ascii}
use Rattle.image.specs.declared.refusals.Fault.TheVariants.{Register}
use Rattle.image.specs.Assembler.{Instruction, instruction, end, set, load, skipequal, reject, program, fields, image}
use Rattle.refused.specs.Where.{where_at_line, image_where}
use Rattle.refused.specs.Opened.{opened}

-- the third of three programs has this one behind five good ones, and three more behind it
abbrev with : Instruction → List ℕ
with i = image 1 ([] ∷ program (end ∷ []) ∷ program (replicate 5 (set 0 7) ++ (i ∷ replicate 3 end)) ∷ [])

-- 41, 42, 43 and 44; the byte is the first that is wrong
four_sentences : map (λ i. image_where (with i)) (instruction 17 9 9 9 ∷ load 7 9 ∷ instruction 8 200 4 5 ∷ skipequal 0 1 4 ∷ [])
    ≡ ascii "program 2, instruction 5: unknown operation 17\n"
    ∷ ascii "program 2, instruction 5: register 9 is over 7\n"
    ∷ ascii "program 2, instruction 5: an unused byte is 4, not 0\n"
    ∷ ascii "program 2, instruction 5: a skip by 4 lands past the end\n"
    ∷ []
unfolding opened
four_sentences = refl

-- with its line in a sheet
with_a_line : where_at_line (record { fault = Register; program = 2; instruction = 5 }) 14 9 ≡ ascii "line 14, program 2, instruction 5: register 9 is over 7\n"
unfolding opened
with_a_line = refl

-- the first in image order, though what is wrong with a later one comes first in the list
first_in_image_order : image_where (image 1 (program (end ∷ end ∷ load 0 0 ∷ instruction 0 1 0 0 ∷ []) ∷ program (instruction 9 0 0 0 ∷ []) ∷ []))
    ≡ ascii "program 0, instruction 3: an unused byte is 1, not 0\n"
unfolding opened
first_in_image_order = refl

-- all is well; 1, 2 and 3
no_place : map image_where (with (reject 5) ∷ with (skipequal 0 1 3) ∷ [] ∷ fields 65 1 0 (0 ∷ []) [] ∷ fields 1 1 0 (9 ∷ 9 ∷ []) [] ∷ []) ≡ replicate 5 []
unfolding opened
no_place = refl
