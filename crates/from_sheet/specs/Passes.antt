-- How a sheet is gone through, line by line: what each pass has still to do. Assumes nothing.
use Rattle.std.specs.Prelude.{ℕ, zero, suc, ◌+◌, ◌-◌, ◌≤◌, ◌<◌, max, ◌≡◌, Bool, true, cond, ◌&&◌, List, [], ◌∷◌, ◌++◌}
use Rattle.std.specs.Prelude.{map, eqb, leb, length, take, drop, Result, Ok, Err}
use Rattle.text.specs.Writing.{Room}
use Rattle.image.specs.Limits.{max_programs, max_program_bytes, max_bytes}
use Rattle.image.specs.declared.refusals.BadInstruction.{BadInstruction}
use Rattle.image.specs.Refusals.{passed, after}
use Rattle.image.specs.Instruction.{program_fault}
use Rattle.writer.specs.Joined.{number}
use Rattle.sheet.specs.declared.Unwritten.{Unwritten}
use Rattle.sheet.specs.declared.Line.{Line}
use Rattle.sheet.specs.declared.Line.TheVariants as line
use Rattle.sheet.specs.Split.{split}
use Rattle.sheet.specs.Sheet.{newline, line_of, bad_line, bytes_of, leading, programs}
use Rattle.from_sheet.specs.declared.counting.Sizes.{Sizes}
use Rattle.from_sheet.specs.declared.checking.Reading.{Reading}
use Rattle.from_sheet.specs.FromSheet.{image_of_sheet, short_programs, sheet_refusal}

-- the lines from a place on, which is one part's beginning, and none behind the last
unfoldable pub lines_from : (at : ℕ) → List ℕ → List Line
lines_from at sheet = cond (leb at (length sheet)) (map line_of (split newline (drop at sheet))) []

-- ---- counting: how many programs, how many instructions, how many in this program, and how many in the longest

unfoldable pub counted : Sizes → Line → Sizes
counted s (line.Rule r) = s
counted s line.Program = record { programs = s.programs + 1; instructions = s.instructions; current = 0; longest = s.longest }
counted s (line.Instruction i) =
    record { programs = s.programs; instructions = s.instructions + 1; current = s.current + 1; longest = max s.longest (s.current + 1) }
counted s line.Other = s

unfoldable pub tally : Sizes → List Line → Sizes
tally s [] = s
tally s (l ∷ ls) = tally (counted s l) ls

abbrev pub nothing : Sizes
nothing = record { programs = 0; instructions = 0; current = 0; longest = 0 }

-- none of them is more than so many
pub record Small (s : Sizes) (most : ℕ) : Type 0 where
  pub programs_few : s.programs ≤ most
  pub instructions_few : s.instructions ≤ most
  pub current_few : s.current ≤ most

-- the last line's number where something stands behind the last newline, and that of a first line that is missing; otherwise 0
unfoldable pub last_bad : (place rest : ℕ) → ℕ
last_bad place rest = cond (eqb place 0) 1 (cond (eqb rest 0) 0 (place + 1))

-- a line by its number, from 1, that is not allowed; 0 is none
unfoldable pub checked_line : ℕ → Result (Unit {0}) ℕ
checked_line zero = passed
checked_line (suc k) = Err (suc k)

-- what the first pass finds: the sizes, or the first line that is not allowed
abbrev pub Surveys : List ℕ → Result Sizes ℕ → Type 0
Surveys sheet (Ok sizes) = (bad_line sheet ≡ 0) × (sizes ≡ tally nothing (lines_from 0 sheet))
Surveys sheet (Err line) = (line ≡ bad_line sheet) × (0 < line)

-- these are a sheet's, in which every line is allowed: nothing stands before its first program
pub record Sized (sheet : List ℕ) (s : Sizes) : Type 0 where
  pub sizes_are : s ≡ tally nothing (lines_from 0 sheet)
  pub nothing_leads : leading (lines_from 0 sheet) ≡ []

-- what checks 51 to 44 answer: the sizes of a sheet that is not refused, or its refusal
abbrev pub Checks : List ℕ → Result Sizes Unwritten → Type 0
Checks sheet (Ok sizes) = Sized sheet sizes × (sheet_refusal sheet ≡ passed)
Checks sheet (Err r) = sheet_refusal sheet ≡ Err r

-- ---- what a line brings

-- the bytes of its instruction
unfoldable pub body_of : Line → List ℕ
body_of (line.Rule r) = []
body_of line.Program = []
body_of (line.Instruction i) = bytes_of i
body_of line.Other = []

unfoldable pub bodies : List Line → List ℕ
bodies [] = []
bodies (l ∷ ls) = body_of l ++ bodies ls

-- an offset, where it begins a program: that is where the one before it ends
unfoldable pub offset_at : (end : ℕ) → Line → List ℕ
offset_at end (line.Rule r) = []
offset_at end line.Program = number end
offset_at end (line.Instruction i) = []
offset_at end line.Other = []

-- the offsets that are still to come; the last one is where the last program ends
unfoldable pub offsets_from : (end : ℕ) → List Line → List ℕ
offsets_from end [] = number end
offsets_from end (l ∷ ls) = offset_at end l ++ offsets_from (end + length (body_of l)) ls

-- ---- reading a program, of which there are some bytes already

-- with a line more: a new one begins, or its instruction goes behind them
unfoldable pub read_after : (bytes : List ℕ) → Line → List ℕ
read_after bytes (line.Rule r) = bytes
read_after bytes line.Program = []
read_after bytes (line.Instruction i) = bytes ++ bytes_of i
read_after bytes line.Other = bytes

-- how many have begun; the one that is being read is the last of them
unfoldable pub begun_after : (begun : ℕ) → Line → ℕ
begun_after begun (line.Rule r) = begun
begun_after begun line.Program = begun + 1
begun_after begun (line.Instruction i) = begun
begun_after begun line.Other = begun

-- where a new one begins, this one is looked at: before the first "program" there is none, and no byte to look at
unfoldable pub found_at : (begun : ℕ) (bytes : List ℕ) → Line → Result (Unit {0}) BadInstruction
found_at begun bytes (line.Rule r) = passed
found_at begun bytes line.Program = program_fault (begun - 1) bytes
found_at begun bytes (line.Instruction i) = passed
found_at begun bytes line.Other = passed

-- one name that opens what a line does
unfoldable pub line_opened : Unit {0}
unfolding body_of read_after begun_after found_at
line_opened = tt

-- What that needs: the room is one for the longest program, its bytes stand there, and no more have begun than there may be.
pub record InRoom (room : List ℕ) (s : Reading) : Type 0 where
  pub long : length room ≡ max_program_bytes
  pub used_few : s.used ≤ length room
  pub begun_few : s.begun ≤ max_programs

-- What it leaves, and where one is bad what it finds.
pub record Read (before : List ℕ) (s : Reading) (l : Line) (after : List ℕ) (r : Reading) : Type 0 where
  pub none_bad : found_at s.begun (take s.used before) l ≡ passed
  pub read : take r.used after ≡ read_after (take s.used before) l
  pub begun_is : r.begun ≡ begun_after s.begun l
  pub used_few : r.used ≤ length after
  pub same_room : length after ≡ length before

abbrev pub Reads : (before : List ℕ) (s : Reading) (l : Line) (after : List ℕ) → Result Reading BadInstruction → Type 0
Reads before s l after (Ok r) = Read before s l after r
Reads before s l after (Err bad) = found_at s.begun (take s.used before) l ≡ Err bad

-- the programs that are still to come, and the one that is being read: none is too long
unfoldable pub still_short : (bytes : List ℕ) → List Line → Bool
still_short bytes ls = leb (length (bytes ++ leading ls)) max_program_bytes && short_programs (programs ls)

-- and with those that have begun they are not too many
pub record Readable (begun : ℕ) (bytes : List ℕ) (ls : List Line) : Type 0 where
  pub short : still_short bytes ls ≡ true
  pub few : begun + length (programs ls) ≤ max_programs

-- the first bad instruction that is still to be found: of this one, and then of programs that are numbered from k on
unfoldable pub faults_from : (k : ℕ) → List (List ℕ) → Result (Unit {0}) BadInstruction
faults_from k [] = passed
faults_from k (p ∷ ps) = after (program_fault k p) (faults_from (k + 1) ps)

unfoldable pub still_fault : (begun : ℕ) (bytes : List ℕ) → List Line → Result (Unit {0}) BadInstruction
still_fault begun bytes ls = after (program_fault (begun - 1) (bytes ++ leading ls)) (faults_from begun (programs ls))

-- ---- what the checks have shown of a sheet: it has so many programs, nothing stands before the first, and its image is not too long and has room
pub record Writable (sheet out : List ℕ) (n : ℕ) : Type 0 where
  pub count : n ≡ length (programs (lines_from 0 sheet))
  pub few : n ≤ max_programs
  pub nothing_leads : leading (lines_from 0 sheet) ≡ []
  pub short : length (image_of_sheet sheet) ≤ max_bytes
  pub room : Room out 0 (image_of_sheet sheet)
