-- Laws of the search for a program's line and its instructions. Assumes nothing.
use mathlib.Core.Path.{◌≡◌, refl}
use mathlib.Core.Bool.{true, false}
use mathlib.Core.List.{List, [], ◌∷◌, ◌++◌}
use Prim.Native.Nat.{ℕ, zero, suc, ◌+◌, ◌-◌, ◌≤◌, ◌<◌}
use native.Mathlib.Omega.{arith}
use lib.ListN.{length, get_or}
use Rattle.base.proofs.Bools.{clash}
use Rattle.image.specs.Instruction.{wrong_byte}
use Rattle.sheet.specs.declared.Line.{Line}
use Rattle.sheet.specs.declared.Line.TheVariants as line
use Rattle.sheet.specs.Sheet.{leading, programs}
use Rattle.from_sheet.specs.Passes.{lines_from, body_of}
use Rattle.from_sheet.specs.WrongLines.{begins, left_behind, lines_to, begins_at, program_at, wrong_line, Begins}
use Rattle.from_sheet.proofs.Passing.{lines_all}

-- ---- the instructions of a program: they end where the next begins

pub leading_none : leading [] ≡ []
unfolding leading
leading_none = refl

pub leading_end : (l : Line) (ls : List Line) → begins l ≡ true → leading (l ∷ ls) ≡ []
unfolding begins leading
leading_end (line.Rule r) ls e = clash e refl
leading_end line.Program ls e = refl
leading_end (line.Instruction i) ls e = clash e refl
leading_end line.Other ls e = clash e refl

pub leading_next : (l : Line) (ls : List Line) → begins l ≡ false → leading (l ∷ ls) ≡ body_of l ++ leading ls
unfolding begins leading body_of
leading_next (line.Rule r) ls e = refl
leading_next line.Program ls e = clash refl e
leading_next (line.Instruction i) ls e = refl
leading_next line.Other ls e = refl

-- ---- the search: so many lines are behind, and so many that begin a program are still to come

pub record Search (all : List Line) (p : ℕ) (ls : List Line) (behind left : ℕ) : Type 0 where
  pub line_is : behind + lines_to ls left ≡ begins_at p all
  pub program_is : get_or (leading ls ∷ programs ls) left [] ≡ get_or (programs all) p []
  pub some : left ≤ length (programs ls)

-- a line more
search_next : {all : List Line} {p : ℕ} (l : Line) (ls : List Line) {behind : ℕ} (left : ℕ) → 0 < left → Search all p (l ∷ ls) behind left
    → Search all p ls (behind + 1) (left_behind left l)
unfolding begins left_behind lines_to leading programs
search_next l ls zero some s = absurd (omega arith)
search_next (line.Rule r) ls (suc n) some s = record { line_is = omega (arith, s.line_is); program_is = s.program_is; some = s.some }
search_next line.Program ls (suc n) some s =
    let e : suc n - 1 ≡ n = omega arith in
    record { line_is = omega (arith, s.line_is); program_is = rw e s.program_is; some = omega (arith, s.some) }
search_next (line.Instruction i) ls (suc n) some s = record { line_is = omega (arith, s.line_is); program_is = s.program_is; some = s.some }
search_next line.Other ls (suc n) some s = record { line_is = omega (arith, s.line_is); program_is = s.program_is; some = s.some }

pub search_program : {all : List Line} {p : ℕ} {l : Line} {ls : List Line} {behind : ℕ} (left : ℕ) → begins l ≡ true
    → Search all p (l ∷ ls) behind (left + 1) → Search all p ls (behind + 1) left
unfolding left_behind
search_program {l = l} {ls = ls} left e s =
    let less : left + 1 - 1 ≡ left = omega arith in
    rw (e, less) at (search_next l ls (left + 1) (omega arith) s)

pub search_other : {all : List Line} {p : ℕ} {l : Line} {ls : List Line} {behind : ℕ} (left : ℕ) → begins l ≡ false
    → Search all p (l ∷ ls) behind (left + 1) → Search all p ls (behind + 1) (left + 1)
unfolding left_behind
search_other {l = l} {ls = ls} left e s = rw e at (search_next l ls (left + 1) (omega arith) s)

-- while one is still to come there is a line; when none is, the line is found
pub search_there : {all : List Line} {p behind : ℕ} (left : ℕ) → Search all p [] behind (left + 1) → ⊥
unfolding programs
search_there left s = omega (arith, s.some)

pub search_end : {all : List Line} {p : ℕ} {ls : List Line} {behind : ℕ} → Search all p ls behind 0
    → (behind ≡ begins_at p all) × (leading ls ≡ get_or (programs all) p [])
unfolding lines_to
search_end {ls = ls} s = (omega (arith, s.line_is, none_to ls), s.program_is)
  where
    none_to : (ls : List Line) → lines_to ls 0 ≡ 0
    none_to [] = refl
    none_to (l ∷ ls) = refl

-- ---- the line of an instruction, with what the code has found

pub wrong_line_is : (sheet : List ℕ) (p i : ℕ) {begun : ℕ} {rest : List Line} {program : List ℕ} {byte : ℕ} → Begins (lines_from 0 sheet) p begun rest
    → program ≡ program_at sheet p → byte ≡ wrong_byte program i → record { line = begun + 1 + i; byte = byte } ≡ wrong_line sheet p i
unfolding wrong_line
wrong_line_is sheet p i h e f = rw (f, e, h.line_is, lines_all sheet)
