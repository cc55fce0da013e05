-- "Each way undoes the other", tried by computation on the definitions. The numbers are literals. Assumes nothing.
use Prim.Native.Nat.{ℕ}
use mathlib.Core.Path.{◌≡◌, refl}
use mathlib.Core.Bool.{true}
use mathlib.Core.List.{List, [], ◌∷◌, map}
use lib.Dec.{ltb}
use lib.ListN.{length, get_or}
use borrow.Author.Tests.{ltb-true}
use Rattle.base.specs.Words.{every}
use Rattle.base.proofs.Numbers.{every_at}
use Rattle.text.specs.Ascii.{ascii}
use Rattle.image.specs.Refusals.{told_of_image}
use Rattle.image.specs.Image.{refusal_of}
use Rattle.image.specs.Assembler.{image, program, end, set, load, store, add, sub, skipless, skipequal, reject}
use Rattle.sheet.specs.Answers.{told_of_sheet}
use Rattle.from_sheet.specs.FromSheet.{image_of_sheet, sheet_refusal}
use Rattle.from_sheet.specs.Opened as from_sheet
use Rattle.from_image.specs.FromImage.{sheet_of_image}
use Rattle.from_image.specs.Opened as from_image
use Rattle.round_trip.specs.Bytes.{Bytes}

-- an image of three programs, in which every operation stands: there and back
abbrev bytes : List ℕ
bytes =
    image 2
    (program (set 0 513 ∷ load 1 2 ∷ store 3 4 ∷ add 5 6 7 ∷ sub 7 6 5 ∷ skipless 1 2 2 ∷ skipequal 3 4 1 ∷ reject 255 ∷ end ∷ []) ∷ [] ∷ program (end ∷ []) ∷ [])

image_there_and_back : ((told_of_image (refusal_of bytes)).number ≡ 0) × ((told_of_sheet (sheet_refusal (sheet_of_image bytes))).number ≡ 0) × (image_of_sheet (sheet_of_image bytes) ≡ bytes)
unfolding from_sheet.opened from_image.opened
image_there_and_back = (refl, refl, refl)

-- it is bytes, as the theorem asks
is_bytes : (xs : List ℕ) → every (length xs) (λ i. ltb (get_or xs i 0) 256) ≡ true → Bytes xs
is_bytes xs h = record { each = λ i l. ltb-true _ _ (every_at (length xs) (λ i. ltb (get_or xs i 0) 256) h i l) }

image_bytes : Bytes bytes
unfolding every
image_bytes = is_bytes bytes refl

-- a sheet, there and back
abbrev text : List ℕ
text = ascii "rule 1\nprogram\nset 0 0 7\nset 1 0 10\nstore 0 1 0\nprogram\nprogram\nskipless 0 1 1\nreject 100 0 0\nend 0 0 0\n"

sheet_there_and_back : ((told_of_sheet (sheet_refusal text)).number ≡ 0) × ((told_of_image (refusal_of (image_of_sheet text))).number ≡ 0) × (sheet_of_image (image_of_sheet text) ≡ text)
unfolding from_sheet.opened from_image.opened
sheet_there_and_back = (refl, refl, refl)

-- no program at all, under each rule
none_there_and_back : (map (λ rule. image_of_sheet (sheet_of_image (image rule []))) (0 ∷ 1 ∷ 2 ∷ []) ≡ image 0 [] ∷ image 1 [] ∷ image 2 [] ∷ [])
    × (map (λ sheet. sheet_of_image (image_of_sheet sheet)) (ascii "rule 0\n" ∷ ascii "rule 1\n" ∷ ascii "rule 2\n" ∷ [])
    ≡ ascii "rule 0\n" ∷ ascii "rule 1\n" ∷ ascii "rule 2\n" ∷ [])
unfolding from_sheet.opened from_image.opened
none_there_and_back = (refl, refl)

-- why an image has to be bytes: a code of 256 passes the image's checks, and its sheet is refused
no_byte : ((told_of_image (refusal_of (image 1 (program (reject 256 ∷ []) ∷ [])))).number ≡ 0)
    × ((told_of_sheet (sheet_refusal (sheet_of_image (image 1 (program (reject 256 ∷ []) ∷ []))))).number ≡ 51)
unfolding from_sheet.opened from_image.opened
no_byte = (refl, refl)
