-- What the functions that write a sheet need of what they write: what checks 1 to 4 have shown. Assumes nothing.
use Rattle.std.specs.Prelude.{ℕ, ◌+◌, ◌*◌, ◌≤◌, ◌<◌, ◌≡◌, true, List, length}
use Rattle.image.specs.Limits.{max_programs, max_instructions, max_program_bytes}
use Rattle.image.specs.Instruction.{program_good}
use Rattle.image.specs.Image.{Lies, part_of}

-- a program: it is short, and its instructions are good, so that each has a name
pub record Good (program : List ℕ) : Type 0 where
  pub short : length program ≤ max_program_bytes
  pub code : program_good program ≡ true

-- the first n programs of an image: each lies in it and is good
pub record Programs (image : List ℕ) (n : ℕ) : Type 0 where
  pub few : n ≤ max_programs
  pub lies : (k : ℕ) → k < n → Lies image k
  pub good : (k : ℕ) → k < n → Good (part_of image k)

-- What keeps sums small: at most so many bytes in a name, in a line with any three bytes behind it, and in a program's lines. The longest sheet is less.
abbrev pub most_name : ℕ
most_name = 9

abbrev pub most_line : ℕ
most_line = most_name + 3 * 3 + 4

abbrev pub most_lines : ℕ
most_lines = 8 + most_line * max_instructions
