-- "Each way undoes the other." Assumes nothing.
use mathlib.Core.Path.{◌≡◌, sym, ap, ◌∙◌}
use mathlib.Core.List.{List, ◌++◌}
use Prim.Native.Nat.{ℕ, ◌≤◌}
use lib.ListN.{length, take, drop}
use Rattle.std.specs.Prelude.{Result, Ok}
use Rattle.image.specs.declared.refusals.Refusal.{Refusal}
use Rattle.image.specs.Refusals.{passed}
use Rattle.image.specs.Image.{refusal_of}
use Rattle.sheet.specs.declared.Unwritten.{Unwritten}
use Rattle.from_sheet.specs.FromSheet.{image_of_sheet, sheet_refusal, ImageOfSays}
use Rattle.from_image.specs.FromImage.{sheet_of_image, SheetOfSays}
use Rattle.round_trip.specs.Bytes.{Bytes}
use Rattle.round_trip.proofs.Calls.{holds_first, image_written, image_answered, sheet_written, sheet_answered}
use Rattle.round_trip.proofs.Undoing.{its_sheet_passes, its_sheet_gives_it, its_image_passes, its_image_gives_it}

-- "Each way undoes the other": the sheet of an accepted image is accepted, and gives that very image.
pub from_image_and_back : (image : List ℕ) → Bytes image → refusal_of image ≡ passed
    → (sheet_refusal (sheet_of_image image) ≡ passed) × (image_of_sheet (sheet_of_image image) ≡ image)
from_image_and_back image bytes e = (its_sheet_passes image bytes e, its_sheet_gives_it image bytes e)

-- "Each way undoes the other": the image of an accepted sheet is accepted, and gives that very sheet, byte by byte.
pub from_sheet_and_back : (sheet : List ℕ) → sheet_refusal sheet ≡ passed
    → (refusal_of (image_of_sheet sheet) ≡ passed) × (sheet_of_image (image_of_sheet sheet) ≡ sheet)
from_sheet_and_back sheet e = (its_image_passes sheet e, its_image_gives_it sheet e)

-- So no two accepted images have one sheet,
pub one_image : (a b : List ℕ) → Bytes a → Bytes b → refusal_of a ≡ passed → refusal_of b ≡ passed → sheet_of_image a ≡ sheet_of_image b → a ≡ b
one_image a b f g p q e = sym (its_sheet_gives_it a f p) ∙ ap image_of_sheet e ∙ its_sheet_gives_it b g q

-- and no two accepted sheets have one image.
pub one_sheet : (a b : List ℕ) → sheet_refusal a ≡ passed → sheet_refusal b ≡ passed → image_of_sheet a ≡ image_of_sheet b → a ≡ b
one_sheet a b p q e = sym (its_image_gives_it a p) ∙ ap sheet_of_image e ∙ its_image_gives_it b q

-- "Each way undoes the other", of the calls: where one has written so many bytes and the other is lent these, it writes back what the first was lent, if
-- that fits, and answers its length.
pub image_comes_back : (image text text' out out' : List ℕ) (n : ℕ) (r : Result ℕ Unwritten) → Bytes image → SheetOfSays image text (Ok n) text'
    → ImageOfSays (take n text') out r out' → length image ≤ length out → (r ≡ Ok (length image)) × (out' ≡ image ++ drop (length image) out)
image_comes_back image text text' out out' n r bytes first second fits =
    let a = sheet_answered image text n text' first in
    let second : ImageOfSays (sheet_of_image image) out r out' = rw (holds_first (sheet_of_image image) text text' n a.1) at second in
    let w = image_written (sheet_of_image image) out image (its_sheet_gives_it image bytes a.0) (its_sheet_passes image bytes a.0) fits in
    (second.answer ∙ w.0, second.output ∙ w.1)

pub sheet_comes_back : (sheet image image' out out' : List ℕ) (n : ℕ) (r : Result ℕ Refusal) → ImageOfSays sheet image (Ok n) image'
    → SheetOfSays (take n image') out r out' → length sheet ≤ length out → (r ≡ Ok (length sheet)) × (out' ≡ sheet ++ drop (length sheet) out)
sheet_comes_back sheet image image' out out' n r first second fits =
    let a = image_answered sheet image n image' first in
    let second : SheetOfSays (image_of_sheet sheet) out r out' = rw (holds_first (image_of_sheet sheet) image image' n a.1) at second in
    let w = sheet_written (image_of_sheet sheet) out sheet (its_image_gives_it sheet a.0) (its_image_passes sheet a.0) fits in
    (second.answer ∙ w.0, second.output ∙ w.1)
