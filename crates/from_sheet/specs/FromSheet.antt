-- Document 02, ask 1: the image of a sheet, and what the call answers and leaves. "Refusals, from a sheet: 51 the first line that its place does not
-- allow .. with its number from 1; 2 over 64 programs; 3 a program over 32 instructions; 4; then 10 for a short output", where ask 2 replaces 4 by 41 to 44,
-- with program and instruction. Each is looked for over the whole sheet before the next. Assumes nothing.
use Rattle.std.specs.Prelude.{ℕ, ◌≡◌, Bool, true, ◌&&◌, List, [], ◌∷◌, ◌++◌, eqb, leb, length, get_or, drop, Result, Ok, Err}
use Rattle.image.specs.Limits.{max_programs, max_program_bytes}
use Rattle.image.specs.declared.refusals.BadInstruction.{BadInstruction}
use Rattle.image.specs.declared.refusals.ImageRefusal.{ImageRefusal}
use Rattle.image.specs.declared.refusals.ImageRefusal.TheVariants.{Header, Offsets, Instruction}
use Rattle.image.specs.declared.refusals.Refusal.TheVariants.{TooShort}
use Rattle.image.specs.Refusals.{passed, check, after, given_as, unless}
use Rattle.image.specs.Instruction.{code_fault}
use Rattle.writer.specs.Joined.{image_of}
use Rattle.sheet.specs.declared.Unwritten.{Unwritten}
use Rattle.sheet.specs.declared.Unwritten.TheVariants.{Refused, BadLine}
use Rattle.sheet.specs.Answers.{as_image}
use Rattle.sheet.specs.Sheet.{lines_of, bad_line, rule_of, programs}

-- the image of a sheet: its rule byte and its programs
abbrev pub programs_of : List ℕ → List (List ℕ)
programs_of sheet = programs (lines_of sheet)

unfoldable pub image_of_sheet : List ℕ → List ℕ
image_of_sheet sheet = image_of (rule_of (lines_of sheet)) (programs_of sheet)

-- each program passes a test
unfoldable pub all : (List ℕ → Bool) → List (List ℕ) → Bool
all test [] = true
all test (p ∷ ps) = test p && all test ps

-- "2 over 64 programs; 3 a program over 32 instructions"
unfoldable pub few_programs : List (List ℕ) → Bool
few_programs ps = leb (length ps) max_programs

unfoldable pub short_programs : List (List ℕ) → Bool
short_programs ps = all (λ p. leb (length p) max_program_bytes) ps

-- "4 is replaced by 41 unknown operation, 42 register over 7, 43 an unused byte not 0, 44 skip past the end": the first bad instruction, with its place. The
-- programs are numbered as they stand in the sheet, and so in its image. A sheet has no unknown operation, since an unknown name is 51.
unfoldable pub programs_fault : List (List ℕ) → Result (Unit {0}) BadInstruction
programs_fault ps = code_fault (length ps) (λ p. get_or ps p [])

unfoldable pub programs_refusal : List (List ℕ) → Result (Unit {0}) ImageRefusal
programs_refusal ps = check (few_programs ps) Header (check (short_programs ps) Offsets (given_as Instruction (programs_fault ps)))

-- 51 with the line, 2, 3, 41 to 44
unfoldable pub sheet_refusal : List ℕ → Result (Unit {0}) Unwritten
sheet_refusal sheet = check (eqb (bad_line sheet) 0) (BadLine (bad_line sheet)) (given_as as_image (programs_refusal (programs_of sheet)))

-- and 10
unfoldable pub image_of_refusal : (sheet out : List ℕ) → Result (Unit {0}) Unwritten
image_of_refusal sheet out = after (sheet_refusal sheet) (check (leb (length (image_of_sheet sheet)) (length out)) (Refused TooShort) passed)

-- what the call answers, and what the output then holds: "beyond the length nothing is touched"
unfoldable pub image_of_answer : (sheet out : List ℕ) → Result ℕ Unwritten
image_of_answer sheet out = unless (image_of_refusal sheet out) Err (Ok (length (image_of_sheet sheet)))

unfoldable pub image_of_output : (sheet out : List ℕ) → List ℕ
image_of_output sheet out = unless (image_of_refusal sheet out) (λ r. out) (image_of_sheet sheet ++ drop (length (image_of_sheet sheet)) out)

-- The contract of the call.
pub record ImageOfSays (sheet out : List ℕ) (r : Result ℕ Unwritten) (out' : List ℕ) : Type 0 where
  pub answer : r ≡ image_of_answer sheet out
  pub output : out' ≡ image_of_output sheet out
