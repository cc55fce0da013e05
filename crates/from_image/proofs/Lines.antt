-- Laws of a sheet's lines: one after another, and each as the code writes it, with its newline. Assumes nothing.
use mathlib.Core.Path.{◌≡◌, refl}
use mathlib.Core.List.{List, [], ◌∷◌, ◌++◌, append_assoc, append-nil}
use Prim.Native.Nat.{ℕ, zero, suc, ◌+◌, ◌≤◌}
use native.Mathlib.Omega.{arith}
use lib.ListN.{length, length-append}
use Rattle.text.specs.Ascii.{ascii}
use Rattle.text.specs.Decimal.{decimal}
use Rattle.text.specs.Filled.{shown, left, filled}
use Rattle.sheet.specs.declared.Instruction.{Instruction}
use Rattle.sheet.specs.declared.Line.{Line}
use Rattle.sheet.specs.declared.Line.TheVariants as line
use Rattle.sheet.specs.Sheet.{newline, names, name_of, line_text, sheet_text}
use Rattle.from_image.specs.Typing.{most_name}

-- ---- one after another

pub sheet_none : sheet_text [] ≡ []
unfolding sheet_text
sheet_none = refl

pub sheet_append : (ls ms : List Line) → sheet_text (ls ++ ms) ≡ sheet_text ls ++ sheet_text ms
unfolding sheet_text
sheet_append [] ms = refl
sheet_append (l ∷ ls) ms = rw (sheet_append ls ms, append_assoc)

-- ---- a line

pub rule_line_lem : (r : ℕ) → sheet_text (line.Rule r ∷ []) ≡ filled (ascii "rule #\n") (r ∷ [])
unfolding sheet_text line_text filled shown left
rule_line_lem r = simp append-nil

pub program_line_lem : sheet_text (line.Program ∷ []) ≡ ascii "program\n"
unfolding sheet_text line_text
program_line_lem = refl

pub instruction_line_lem : (i : Instruction) → sheet_text (line.Instruction i ∷ []) ≡ name_of i.op ++ filled (ascii " # # #\n") (i.a ∷ i.b ∷ i.c ∷ [])
unfolding sheet_text line_text filled shown left
instruction_line_lem i = simp (append_assoc, append-nil)

-- ---- how long it is

pub name_short : (op : ℕ) → length (name_of op) ≤ most_name
unfolding name_of names
name_short zero = omega arith
name_short (suc zero) = omega arith
name_short (suc (suc zero)) = omega arith
name_short (suc (suc (suc zero))) = omega arith
name_short (suc (suc (suc (suc zero)))) = omega arith
name_short (suc (suc (suc (suc (suc zero))))) = omega arith
name_short (suc (suc (suc (suc (suc (suc zero)))))) = omega arith
name_short (suc (suc (suc (suc (suc (suc (suc zero))))))) = omega arith
name_short (suc (suc (suc (suc (suc (suc (suc (suc zero)))))))) = omega arith
name_short (suc (suc (suc (suc (suc (suc (suc (suc (suc op))))))))) = omega arith

rule_text : (r : ℕ) → sheet_text (line.Rule r ∷ []) ≡ ascii "rule " ++ (decimal r ++ (newline ∷ []))
unfolding sheet_text line_text filled shown left
rule_text r = simp append-nil

pub rule_length : (r : ℕ) → length (sheet_text (line.Rule r ∷ [])) ≡ length (decimal r) + 6
rule_length r = rw (rule_text r) (simp length-append (omega arith))

pub program_length : length (sheet_text (line.Program ∷ [])) ≡ 8
unfolding sheet_text line_text
program_length = refl

pub instruction_length : (i : Instruction) → length (sheet_text (line.Instruction i ∷ []))
    ≡ length (name_of i.op) + length (decimal i.a) + length (decimal i.b) + length (decimal i.c) + 4
unfolding sheet_text line_text filled shown left
instruction_length i = simp (length-append, append-nil) (omega arith)
