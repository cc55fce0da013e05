-- What the functions that read a line's words answer: a name's operation, a number, an instruction, or none. Assumes nothing.
use Rattle.std.specs.Prelude.{ℕ, cond, List, ltb, Option, Some, None}
use Rattle.text.specs.Decimal.{value}
use Rattle.sheet.specs.declared.Instruction.{Instruction}
use Rattle.sheet.specs.declared.Line.{Line}
use Rattle.sheet.specs.declared.Line.TheVariants as line
use Rattle.sheet.specs.Sheet.{operations, operation_of, is_up_to}

-- the operation that a word is the name of
unfoldable pub named : (word : List ℕ) → Option ℕ
named word = cond (ltb (operation_of word) operations) (Some (operation_of word)) None

-- the number that a word is, up to a largest one
unfoldable pub numbered : (largest : ℕ) (word : List ℕ) → Option ℕ
numbered largest word = cond (is_up_to largest word) (Some (value word)) None

-- the line that says an instruction, and one that says none
abbrev pub line_for : Option Instruction → Line
line_for (Some i) = line.Instruction i
line_for None = line.Other
