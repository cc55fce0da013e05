-- Which line of a sheet an instruction is, and which byte of it is wrong, tried by computation on the definitions. The numbers are literals. Assumes nothing.
use Prim.Native.Nat.{ℕ}
use mathlib.Core.Path.{◌≡◌, refl}
use mathlib.Core.List.{List, [], ◌∷◌, ◌++◌, map}
use lib.ListN.{replicate}
use Rattle.text.specs.Ascii.{ascii}
use Rattle.image.specs.Assembler.{joined}
use Rattle.sheet.specs.Sheet.{lines_of}
use Rattle.from_sheet.specs.declared.finding.WrongLine.{WrongLine}
use Rattle.from_sheet.specs.WrongLines.{begins_at, wrong_line}
use Rattle.from_sheet.specs.Opened.{opened}

-- three programs, of which the second is empty
abbrev three : List ℕ
three = ascii "rule 1\nprogram\nset 0 0 1\nset 9 0 2\nend 0 0 0\nprogram\nprogram\nset 0 0 0\nload 1 0 4\nskipless 0 0 3\nend 0 0 0\n"

-- the first program, the second, and the third behind an empty one
beginnings : map (λ p. begins_at p (lines_of three)) (0 ∷ 1 ∷ 2 ∷ []) ≡ 2 ∷ 6 ∷ 7 ∷ []
unfolding opened
beginnings = refl

-- behind 63 programs of 32 instructions
far_down : begins_at 63 (lines_of (ascii "rule 1\n" ++ joined (replicate 64 (ascii "program\n" ++ joined (replicate 32 (ascii "end 0 0 0\n")))))) ≡ 2081
unfolding opened
far_down = refl

abbrev at : ℕ → ℕ → WrongLine
at line byte = record { line = line; byte = byte }

-- a register over 7, an unused byte that is not 0, and a skip past the end: the line as an editor counts it
wrong_lines : wrong_line three 0 1 ∷ wrong_line three 2 1 ∷ wrong_line three 2 2 ∷ [] ≡ at 4 9 ∷ at 9 4 ∷ at 10 3 ∷ []
unfolding opened
wrong_lines = refl
