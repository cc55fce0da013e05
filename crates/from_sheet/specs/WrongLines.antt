-- Which line of a sheet an instruction is, and which byte of it is wrong, for those who are to mend it: document 02, asks 1 and 2. Assumes nothing.
use Rattle.std.specs.Prelude.{ℕ, zero, suc, ◌+◌, ◌-◌, ◌≤◌, ◌<◌, ◌≡◌, Bool, true, false, cond, List, [], ◌∷◌, length, get_or}
use Rattle.image.specs.Limits.{max_programs, max_program_bytes}
use Rattle.image.specs.Instruction.{instructions_of, wrong_byte}
use Rattle.sheet.specs.declared.Line.{Line}
use Rattle.sheet.specs.declared.Line.TheVariants as line
use Rattle.sheet.specs.Sheet.{lines_of, leading, programs}
use Rattle.from_sheet.specs.declared.finding.WrongLine.{WrongLine}
use Rattle.from_sheet.specs.FromSheet.{programs_of}

-- "for each program a line "program"": a line begins a program
unfoldable pub begins : Line → Bool
begins (line.Rule r) = false
begins line.Program = true
begins (line.Instruction i) = false
begins line.Other = false

-- of so many lines that begin a program, how many are still to come behind a line
unfoldable pub left_behind : ℕ → Line → ℕ
left_behind n l = cond (begins l) (n - 1) n

-- how many lines there are up to the nth that begins a program, with that one
unfoldable pub lines_to : List Line → (n : ℕ) → ℕ
lines_to [] n = 0
lines_to (l ∷ ls) zero = 0
lines_to (l ∷ ls) (suc n) = suc (lines_to ls (left_behind (suc n) l))

-- the number of the line that begins program p, from 1; programs are numbered from 0
abbrev pub begins_at : (p : ℕ) → List Line → ℕ
begins_at p ls = lines_to ls (p + 1)

-- "then a line per instruction": the number of the line of instruction i of program p, and the byte that is wrong with it
abbrev pub program_at : (sheet : List ℕ) → (p : ℕ) → List ℕ
program_at sheet p = get_or (programs_of sheet) p []

unfoldable pub wrong_line : (sheet : List ℕ) → (p i : ℕ) → WrongLine
wrong_line sheet p i = record { line = begins_at p (lines_of sheet) + 1 + i; byte = wrong_byte (program_at sheet p) i }

-- The instruction is there, and its program is not too long.
pub record Stands (sheet : List ℕ) (p i : ℕ) : Type 0 where
  pub few : p < max_programs
  pub program_there : p < length (programs_of sheet)
  pub program_short : length (program_at sheet p) ≤ max_program_bytes
  pub instruction_there : i < instructions_of (program_at sheet p)

-- What is found of program p among lines: the number of the line that begins it, and the lines behind that one, which are its instructions at first.
pub record Begins (ls : List Line) (p line : ℕ) (rest : List Line) : Type 0 where
  pub line_is : line ≡ begins_at p ls
  pub line_few : line ≤ length ls
  pub program_is : leading rest ≡ get_or (programs ls) p []
