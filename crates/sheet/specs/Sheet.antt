-- Document 02, ask 1, "A sheet we can type": ""rule R", then for each program a line "program", then a line per instruction with its name and its three
-- bytes in decimal, single spaces, no leading zeros, a newline after every line." Assumes nothing.
use Rattle.std.specs.Prelude.{ℕ, zero, suc, Bool, true, false, cond, ◌&&◌, List, [], ◌∷◌, ◌++◌, map, eqb, ltb, leb, get_or}
use Rattle.base.specs.Words.{least}
use Rattle.text.specs.Ascii.{ascii}
use Rattle.text.specs.Decimal.{is_number, value}
use Rattle.text.specs.Filled.{filled}
use Rattle.sheet.specs.declared.Instruction.{Instruction}
use Rattle.sheet.specs.declared.Line.{Line}
use Rattle.sheet.specs.declared.Line.TheVariants as line
use Rattle.sheet.specs.Split.{split, same}

abbrev pub newline : ℕ
newline = 10

abbrev pub space : ℕ
space = 32

-- ---- a line

-- "its name", by its operation: document 01's table
unfoldable pub names : List (List ℕ)
names =
    ascii "end" ∷ ascii "set" ∷ ascii "load" ∷ ascii "store" ∷ ascii "add" ∷ ascii "sub" ∷ ascii "skipless" ∷ ascii "skipequal" ∷ ascii "reject"
    ∷ []

abbrev pub operations : ℕ
operations = 9

unfoldable pub name_of : ℕ → List ℕ
name_of op = get_or names op []

-- what each line says, without its newline
unfoldable pub line_text : Line → List ℕ
line_text (line.Rule r) = filled (ascii "rule #") (r ∷ [])
line_text line.Program = ascii "program"
line_text (line.Instruction i) = name_of i.op ++ filled (ascii " # # #") (i.a ∷ i.b ∷ i.c ∷ [])
line_text line.Other = []

-- "R is 0, 1 or 2."
abbrev pub largest_rule : ℕ
largest_rule = 2

abbrev pub largest_byte : ℕ
largest_byte = 255

-- a line as it is read, by its words, which single spaces part: a word that is a name, and words that are numbers up to a largest one
unfoldable pub operation_of : List ℕ → ℕ
operation_of word = least (λ op. same word (name_of op)) operations

unfoldable pub is_up_to : (largest : ℕ) → List ℕ → Bool
is_up_to largest word = is_number word && leb (value word) largest

unfoldable pub program_line : List ℕ → Line
program_line word = cond (same word (ascii "program")) line.Program line.Other

unfoldable pub rule_line : (word r : List ℕ) → Line
rule_line word r = cond (same word (ascii "rule") && is_up_to largest_rule r) (line.Rule (value r)) line.Other

unfoldable pub instruction_line : (word a b c : List ℕ) → Line
instruction_line word a b c =
    cond (ltb (operation_of word) operations && is_up_to largest_byte a && is_up_to largest_byte b && is_up_to largest_byte c)
    (line.Instruction (record { op = operation_of word; a = value a; b = value b; c = value c }))
    line.Other

unfoldable pub by_words : List (List ℕ) → Line
by_words [] = line.Other
by_words (word ∷ []) = program_line word
by_words (word ∷ r ∷ []) = rule_line word r
by_words (word ∷ a ∷ b ∷ []) = line.Other
by_words (word ∷ a ∷ b ∷ c ∷ []) = instruction_line word a b c
by_words (word ∷ a ∷ b ∷ c ∷ d ∷ more) = line.Other

unfoldable pub line_of : List ℕ → Line
line_of text = by_words (split space text)

-- ---- a sheet

-- "a newline after every line"
unfoldable pub sheet_text : List Line → List ℕ
sheet_text [] = []
sheet_text (l ∷ ls) = line_text l ++ (newline ∷ sheet_text ls)

-- the lines of a sheet as they are read, and behind them what stands after the last newline
abbrev pub lines_of : List ℕ → List Line
lines_of sheet = map line_of (split newline sheet)

-- "51 the first line that its place does not allow": the rule stands first, "program" from the second line on, an instruction from the third
unfoldable pub allowed : (place : ℕ) → Line → Bool
allowed place (line.Rule r) = eqb place 0
allowed place line.Program = ltb 0 place
allowed place (line.Instruction i) = ltb 1 place
allowed place line.Other = false

-- "(a missing first line, an unended last one), with its number from 1": of the parts from a place on, where behind the last newline nothing may stand,
-- and where no line at all is a first line that is missing; 0 where every line is allowed
unfoldable pub ended : (place : ℕ) → List ℕ → Bool
ended zero rest = false
ended (suc place) [] = true
ended (suc place) (x ∷ rest) = false

unfoldable pub bad_from : (place : ℕ) → List (List ℕ) → ℕ
bad_from place [] = 0
bad_from place (rest ∷ []) = cond (ended place rest) 0 (suc place)
bad_from place (text ∷ next ∷ parts) = cond (allowed place (line_of text)) (bad_from (suc place) (next ∷ parts)) (suc place)

unfoldable pub bad_line : List ℕ → ℕ
bad_line sheet = bad_from 0 (split newline sheet)

-- ---- what it says

abbrev pub bytes_of : Instruction → List ℕ
bytes_of i = i.op ∷ i.a ∷ i.b ∷ i.c ∷ []

-- the rule byte is the first line's
unfoldable pub rule_in : Line → ℕ
rule_in (line.Rule r) = r
rule_in line.Program = 0
rule_in (line.Instruction i) = 0
rule_in line.Other = 0

unfoldable pub rule_of : List Line → ℕ
rule_of [] = 0
rule_of (l ∷ ls) = rule_in l

-- the bytes of the instructions up to the next "program"
unfoldable pub leading : List Line → List ℕ
leading [] = []
leading (line.Rule r ∷ ls) = leading ls
leading (line.Program ∷ ls) = []
leading (line.Instruction i ∷ ls) = bytes_of i ++ leading ls
leading (line.Other ∷ ls) = leading ls

-- "for each program a line "program", then a line per instruction": the bytes of each program
unfoldable pub programs : List Line → List (List ℕ)
programs [] = []
programs (line.Rule r ∷ ls) = programs ls
programs (line.Program ∷ ls) = leading ls ∷ programs ls
programs (line.Instruction i ∷ ls) = programs ls
programs (line.Other ∷ ls) = programs ls
