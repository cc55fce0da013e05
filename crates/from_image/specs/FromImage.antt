-- Document 02, ask 1: the sheet of an image, and what the call answers and leaves. "From an image: 1 to 4, then 10." Assumes nothing.
use Rattle.std.specs.Prelude.{ℕ, zero, suc, ◌≡◌, List, [], ◌∷◌, ◌++◌, leb, length, drop, Result, Ok, Err}
use Rattle.image.specs.declared.refusals.Refusal.{Refusal}
use Rattle.image.specs.declared.refusals.Refusal.TheVariants.{TooShort}
use Rattle.image.specs.Refusals.{passed, check, after, unless}
use Rattle.image.specs.Instruction.{byte_of, instructions_of}
use Rattle.image.specs.Image.{rule_byte, image_checks}
use Rattle.writer.specs.Picked.{all_of}
use Rattle.sheet.specs.declared.Instruction.{Instruction}
use Rattle.sheet.specs.declared.Line.{Line}
use Rattle.sheet.specs.declared.Line.TheVariants as line
use Rattle.sheet.specs.Sheet.{sheet_text}

-- ""rule R", then for each program a line "program", then a line per instruction": instruction i of a program, the first of them, all of them
abbrev pub instruction_at : (program : List ℕ) (i : ℕ) → Instruction
instruction_at program i = record { op = byte_of program i 0; a = byte_of program i 1; b = byte_of program i 2; c = byte_of program i 3 }

unfoldable pub first_lines : (program : List ℕ) (count : ℕ) → List Line
first_lines program zero = []
first_lines program (suc i) = first_lines program i ++ (line.Instruction (instruction_at program i) ∷ [])

unfoldable pub program_lines : (program : List ℕ) → List Line
program_lines program = line.Program ∷ first_lines program (instructions_of program)

unfoldable pub programs_lines : List (List ℕ) → List Line
programs_lines [] = []
programs_lines (p ∷ ps) = program_lines p ++ programs_lines ps

-- the lines of an image, and its sheet
unfoldable pub lines_for : (rule : ℕ) → List (List ℕ) → List Line
lines_for rule ps = line.Rule rule ∷ programs_lines ps

unfoldable pub sheet_of_image : List ℕ → List ℕ
sheet_of_image image = sheet_text (lines_for (rule_byte image) (all_of image))

-- 1 to 4, then 10
unfoldable pub sheet_of_refusal : (image out : List ℕ) → Result (Unit {0}) Refusal
sheet_of_refusal image out = after (image_checks image) (check (leb (length (sheet_of_image image)) (length out)) TooShort passed)

-- what the call answers, and what the output then holds: "beyond the length nothing is touched"
unfoldable pub sheet_of_answer : (image out : List ℕ) → Result ℕ Refusal
sheet_of_answer image out = unless (sheet_of_refusal image out) Err (Ok (length (sheet_of_image image)))

unfoldable pub sheet_of_output : (image out : List ℕ) → List ℕ
sheet_of_output image out = unless (sheet_of_refusal image out) (λ r. out) (sheet_of_image image ++ drop (length (sheet_of_image image)) out)

-- The contract of the call.
pub record SheetOfSays (image out : List ℕ) (r : Result ℕ Refusal) (out' : List ℕ) : Type 0 where
  pub answer : r ≡ sheet_of_answer image out
  pub output : out' ≡ sheet_of_output image out
