-- The place of a bad instruction in words, as a program says it on standard error: document 02, ask 2, "Which instruction is bad?". Each # is the next of the
-- numbers behind the text. Assumes nothing.
use Rattle.std.specs.Prelude.{ℕ, ◌+◌, ◌*◌, List, [], ◌∷◌, ◌++◌, length, Result, Ok, Err}
use Rattle.text.specs.Ascii.{ascii}
use Rattle.text.specs.Decimal.{decimal}
use Rattle.text.specs.Filled.{filled}
use Rattle.image.specs.declared.refusals.Fault.{Fault}
use Rattle.image.specs.declared.refusals.Fault.TheVariants as fault
use Rattle.image.specs.declared.refusals.BadInstruction.{BadInstruction}
use Rattle.image.specs.declared.refusals.ImageRefusal.{ImageRefusal}
use Rattle.image.specs.declared.refusals.ImageRefusal.TheVariants as refusal
use Rattle.image.specs.Instruction.{wrong_byte}
use Rattle.image.specs.Image.{part_of, refusal_of}

-- "41 unknown operation, 42 register over 7, 43 an unused byte not 0, 44 skip past the end": what is wrong with a byte, by its fault
unfoldable pub wrong_text : Fault → List ℕ
wrong_text fault.Operation = ascii "unknown operation #\n"
wrong_text fault.Register = ascii "register # is over 7\n"
wrong_text fault.Unused = ascii "an unused byte is #, not 0\n"
wrong_text fault.Skip = ascii "a skip by # lands past the end\n"

-- the place of an instruction, and what is wrong with this byte of it
abbrev pub place_text : List ℕ
place_text = ascii "program #, instruction #: "

unfoldable pub where_text : BadInstruction → (byte : ℕ) → List ℕ
where_text bad byte = filled place_text (bad.program ∷ bad.instruction ∷ []) ++ filled (wrong_text bad.fault) (byte ∷ [])

-- with the number of its line in a sheet, which is as wide as a sheet may be long
unfoldable pub where_at_line : BadInstruction → (line byte : ℕ) → List ℕ
where_at_line bad line byte = ascii "line " ++ (decimal line ++ (ascii ", " ++ where_text bad byte))

-- "return program and instruction too": what is said of an image, nothing where its refusal has no place
unfoldable pub said_of : Result (Unit {0}) ImageRefusal → (image : List ℕ) → List ℕ
said_of (Ok done) image = []
said_of (Err refusal.Size) image = []
said_of (Err refusal.Header) image = []
said_of (Err refusal.Offsets) image = []
said_of (Err (refusal.Instruction bad)) image = where_text bad (wrong_byte (part_of image bad.program) bad.instruction)

unfoldable pub image_where : (image : List ℕ) → List ℕ
image_where image = said_of (refusal_of image) image

-- no such text has more bytes: the longest of the four, and the digits of three numbers of 32 bits
abbrev pub most_where : ℕ
most_where = length place_text + length (ascii "a skip by # lands past the end\n") + 3 * 10

-- and with a line's number, of 64 bits
abbrev pub most_where_at_line : ℕ
most_where_at_line = length (ascii "line , ") + 20 + most_where
