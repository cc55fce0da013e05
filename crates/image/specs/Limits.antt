-- Document 01, "Sizes": the limits belong to the image and are named in one place. `Image` in src/ has the same numbers; every proof that meets
-- one of them there compares the two. Assumes nothing.
use Rattle.std.specs.Prelude.{ℕ, ◌+◌, ◌*◌}

-- 0 to 64 programs, 0 to 32 instructions each, 8 registers, 1 to 256 cells
abbrev pub max_programs : ℕ
max_programs = 64

abbrev pub max_instructions : ℕ
max_instructions = 32

abbrev pub registers : ℕ
registers = 8

abbrev pub min_cells : ℕ
min_cells = 1

abbrev pub max_cells : ℕ
max_cells = 256

-- an instruction has four bytes, so a program has at most 128
abbrev pub instruction_bytes : ℕ
instruction_bytes = 4

abbrev pub max_program_bytes : ℕ
max_program_bytes = max_instructions * instruction_bytes

-- the first offset is 2n+6: that many bytes stand before the programs of an image that has n
abbrev pub head_bytes : ℕ → ℕ
head_bytes n = 2 * n + 6

-- an image has 6 to 8326 bytes
abbrev pub min_bytes : ℕ
min_bytes = head_bytes 0

abbrev pub max_bytes : ℕ
max_bytes = head_bytes max_programs + max_programs * max_program_bytes
