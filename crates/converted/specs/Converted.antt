-- What the programs `to_image` and `to_sheet` print, for every input: document 02, ask 1; and what they say on standard error: ask 2. Refusal 10 is none of
-- theirs: their room is never too short. Assumes nothing.
use Rattle.std.specs.Prelude.{ℕ, Bool, List, [], length, nat_lt, Result, Err}
use Rattle.image.specs.declared.refusals.BadInstruction.{BadInstruction}
use Rattle.image.specs.declared.refusals.ImageRefusal.TheVariants as refusal
use Rattle.image.specs.declared.refusals.Refusal.TheVariants.{Image}
use Rattle.image.specs.Refusals.{line, unless}
use Rattle.image.specs.Image.{refusal_of}
use Rattle.sheet.specs.declared.Unwritten.{Unwritten}
use Rattle.sheet.specs.declared.Unwritten.TheVariants.{Refused, BadLine}
use Rattle.sheet.specs.Answers.{as_image}
use Rattle.from_sheet.specs.FromSheet.{image_of_sheet, sheet_refusal}
use Rattle.from_sheet.specs.WrongLines.{wrong_line}
use Rattle.from_image.specs.FromImage.{sheet_of_image}
use Rattle.refused.specs.Refused.{refused_line, refused_at_line}
use Rattle.refused.specs.Where.{where_at_line}

-- the longest input that the two programs take: 1 MiB
abbrev pub longest_input : ℕ
longest_input = 1048576

abbrev pub too_long : (input : List ℕ) → Bool
too_long input = nat_lt longest_input (length input)

-- "from a sheet: 51 the first line that its place does not allow .. with its number from 1; 2 ..; 3 ..; 4", which is 41 to 44: the line of a sheet's refusal
unfoldable pub unwritten_line : Unwritten → List ℕ
unwritten_line (Refused r) = refused_line r
unwritten_line (BadLine k) = refused_at_line line k

-- what `to_image` prints of a sheet: its image, or the refusal's line as the whole output
unfoldable pub image_page : (sheet : List ℕ) → List ℕ
image_page sheet = unless (sheet_refusal sheet) unwritten_line (image_of_sheet sheet)

-- "return program and instruction too": what it says of a sheet on standard error, nothing where the refusal has no place. The line is for those who are to
-- mend it.
abbrev pub fault_said : (sheet : List ℕ) → BadInstruction → List ℕ
fault_said sheet bad =
    let wrong = wrong_line sheet bad.program bad.instruction in
    where_at_line bad wrong.line wrong.byte

unfoldable pub said_of : Result (Unit {0}) Unwritten → (sheet : List ℕ) → List ℕ
said_of (Err (Refused (Image (refusal.Instruction bad)))) sheet = fault_said sheet bad
said_of other sheet = []

unfoldable pub sheet_said : (sheet : List ℕ) → List ℕ
sheet_said sheet = said_of (sheet_refusal sheet) sheet

-- "From an image: 1 to 4": what `to_sheet` prints of an image; what it says on standard error is `image_where`, that of every image
unfoldable pub sheet_page : (image : List ℕ) → List ℕ
sheet_page image = unless (refusal_of image) (λ r. unwritten_line (as_image r)) (sheet_of_image image)
