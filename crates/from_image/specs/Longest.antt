-- How many bytes the sheet of an image can have at most, from the limits of document 01, "Sizes", and its table of instructions. Assumes nothing.
use Rattle.std.specs.Prelude.{ℕ, ◌+◌, ◌-◌, ◌*◌, length}
use Rattle.image.specs.Limits.{max_programs, max_instructions}
use Rattle.text.specs.Ascii.{ascii}

-- The longest line of a good instruction is that of a skip with the longest name, which lands inside the program: a skip of 10 is one digit longer than one
-- of 9, and only so many instructions stand far enough from the longest program's end for it.
abbrev pub far_line : ℕ
far_line = length (ascii "skipequal 7 7 10\n")

abbrev pub near_line : ℕ
near_line = length (ascii "skipequal 7 7 9\n")

abbrev pub far_lines : ℕ
far_lines = max_instructions - 10

abbrev pub longest_program : ℕ
longest_program = length (ascii "program\n") + far_lines * far_line + (max_instructions - far_lines) * near_line

unfoldable pub longest_sheet : ℕ
longest_sheet = length (ascii "rule 2\n") + max_programs * longest_program
