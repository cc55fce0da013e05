-- The lines of programs say these programs, and lines in their places are the lines of the programs that they say. Assumes nothing.
use mathlib.Core.Path.{◌≡◌, refl, sym, ap, ◌∙◌}
use mathlib.Core.List.{List, [], ◌∷◌, ◌++◌, append_assoc, append-nil}
use Prim.Native.Nat.{ℕ, zero, suc, ◌+◌, ◌*◌, ◌%◌, ◌≤◌, ◌<◌}
use native.Mathlib.Omega.{arith}
use native.Mathlib.Numerals.{add-one, add-two, add-three}
use lib.ListN.{length, get_or, take, drop}
use lib.Seq.{take-add, take_all, drop-cons}
use borrow.Author.Tests.{eqb-true}
use Rattle.base.proofs.Bools.{clash}
use Rattle.image.specs.Limits.{instruction_bytes}
use Rattle.image.specs.Instruction.{byte_of, instructions_of}
use Rattle.sheet.specs.declared.Instruction.{Instruction}
use Rattle.sheet.specs.declared.Line.{Line}
use Rattle.sheet.specs.declared.Line.TheVariants as line
use Rattle.sheet.specs.Sheet.{largest_rule, allowed, bytes_of, rule_in, rule_of, leading, programs}
use Rattle.sheet.proofs.Sheets.{Placed, WellPlaced}
use Rattle.from_image.specs.FromImage.{instruction_at, first_lines, program_lines, programs_lines, lines_for}

-- ---- the lines of a program say its bytes

-- four bytes from a place on
four : (p : List ℕ) (m : ℕ) → m + 4 ≤ length p → take 4 (drop m p) ≡ get_or p (m + 0) 0 ∷ get_or p (m + 1) 0 ∷ get_or p (m + 2) 0 ∷ get_or p (m + 3) 0 ∷ []
four p m h =
    let z : m + 0 ≡ m = omega arith in
    rw (
      z,
      add-one m,
      add-two m,
      add-three m,
      drop-cons p m 0 (omega arith),
      drop-cons p (suc m) 0 (omega arith),
      drop-cons p (suc (suc m)) 0 (omega arith),
      drop-cons p (suc (suc (suc m))) 0 (omega arith),
    )

-- the bytes of its first n instructions, and of the next
next_four : (p : List ℕ) (n : ℕ) → instruction_bytes * suc n ≤ length p
    → take (instruction_bytes * suc n) p ≡ take (instruction_bytes * n) p ++ bytes_of (instruction_at p n)
next_four p n h =
    let m = instruction_bytes * n in
    let e : instruction_bytes * suc n ≡ m + 4 = omega arith in
    ap (λ (k : ℕ). take k p) e ∙ take-add m 4 p ∙ ap (λ (z : List ℕ). take m p ++ z) (four p m (omega arith))

module _ (p : List ℕ) where
  leading_first : (n : ℕ) (ls : List Line) → instruction_bytes * n ≤ length p → leading (first_lines p n ++ ls) ≡ take (instruction_bytes * n) p ++ leading ls
  unfolding leading first_lines
  leading_first zero ls h = refl
  leading_first (suc n) ls h =
      let i = line.Instruction (instruction_at p n) in
      ap leading (append_assoc (first_lines p n) (i ∷ []) ls) ∙ leading_first n (i ∷ ls) (omega arith)
      ∙ sym (append_assoc (take (instruction_bytes * n) p) (bytes_of (instruction_at p n)) (leading ls))
      ∙ ap (λ (z : List ℕ). z ++ leading ls) (sym (next_four p n h))

  programs_first : (n : ℕ) (ls : List Line) → programs (first_lines p n ++ ls) ≡ programs ls
  unfolding programs first_lines
  programs_first zero ls = refl
  programs_first (suc n) ls =
      ap programs (append_assoc (first_lines p n) (line.Instruction (instruction_at p n) ∷ []) ls) ∙ programs_first n (line.Instruction (instruction_at p n) ∷ ls)

-- the programs are of whole instructions
abbrev pub Whole : List (List ℕ) → Type 0
Whole [] = Unit {0}
Whole (p ∷ ps) = (length p % instruction_bytes ≡ 0) × Whole ps

leading_none : (ps : List (List ℕ)) → leading (programs_lines ps) ≡ []
unfolding leading programs_lines program_lines
leading_none [] = refl
leading_none (p ∷ ps) = refl

programs_back : (ps : List (List ℕ)) → Whole ps → programs (programs_lines ps) ≡ ps
unfolding programs programs_lines program_lines
programs_back [] h = refl
programs_back (p ∷ ps) h =
    let n = instructions_of p in
    let all : take (instruction_bytes * n) p ≡ p = take_all (instruction_bytes * n) p (omega (arith, h.0)) in
    let none : take (instruction_bytes * n) p ++ leading (programs_lines ps) ≡ p = rw (leading_none ps, append-nil) all in
    λ i. (leading_first p n (programs_lines ps) (omega arith) ∙ none) i ∷ (programs_first p n (programs_lines ps) ∙ programs_back ps h.1) i

-- ---- what lines say is of whole instructions, and what stands behind the last newline says nothing

leading_whole : (ls : List Line) → length (leading ls) % instruction_bytes ≡ 0
unfolding leading
leading_whole [] = refl
leading_whole (line.Rule r ∷ ls) = leading_whole ls
leading_whole (line.Program ∷ ls) = refl
leading_whole (line.Instruction i ∷ ls) = omega (arith, leading_whole ls)
leading_whole (line.Other ∷ ls) = leading_whole ls

pub programs_whole : (ls : List Line) → Whole (programs ls)
unfolding programs
programs_whole [] = tt
programs_whole (line.Rule r ∷ ls) = programs_whole ls
programs_whole (line.Program ∷ ls) = (leading_whole ls, programs_whole ls)
programs_whole (line.Instruction i ∷ ls) = programs_whole ls
programs_whole (line.Other ∷ ls) = programs_whole ls

leading_behind : (ls : List Line) → leading (ls ++ (line.Other ∷ [])) ≡ leading ls
unfolding leading
leading_behind [] = refl
leading_behind (line.Rule r ∷ ls) = leading_behind ls
leading_behind (line.Program ∷ ls) = refl
leading_behind (line.Instruction i ∷ ls) = ap (λ (z : List ℕ). bytes_of i ++ z) (leading_behind ls)
leading_behind (line.Other ∷ ls) = leading_behind ls

pub programs_behind : (ls : List Line) → programs (ls ++ (line.Other ∷ [])) ≡ programs ls
unfolding programs
programs_behind [] = refl
programs_behind (line.Rule r ∷ ls) = programs_behind ls
programs_behind (line.Program ∷ ls) = λ i. leading_behind ls i ∷ programs_behind ls i
programs_behind (line.Instruction i ∷ ls) = programs_behind ls
programs_behind (line.Other ∷ ls) = programs_behind ls

pub rule_behind : (ls : List Line) → rule_of (ls ++ (line.Other ∷ [])) ≡ rule_of ls
unfolding rule_of rule_in
rule_behind [] = refl
rule_behind (l ∷ ls) = refl

-- ---- the lines of a rule and programs say these

module _ (rule : ℕ) (ps : List (List ℕ)) where
  pub lines_rule : rule_of (lines_for rule ps) ≡ rule
  unfolding rule_of rule_in lines_for
  lines_rule = refl

  pub lines_programs : Whole ps → programs (lines_for rule ps) ≡ ps
  unfolding programs lines_for
  lines_programs h = programs_back ps h

-- ---- lines in their places are the lines of what they say

-- the first instruction in front of the others
byte_next : (i : Instruction) (p : List ℕ) (n j : ℕ) → byte_of (bytes_of i ++ p) (suc n) j ≡ byte_of p n j
byte_next i p n j =
    let e : instruction_bytes * suc n + j ≡ suc (suc (suc (suc (instruction_bytes * n + j)))) = omega arith in
    ap (λ (k : ℕ). get_or (bytes_of i ++ p) k 0) e

lines_next : (i : Instruction) (p : List ℕ) (n : ℕ) → first_lines (bytes_of i ++ p) (suc n) ≡ line.Instruction i ∷ first_lines p n
unfolding first_lines
lines_next i p zero = refl
lines_next i p (suc n) =
    let b = byte_next i p n in
    let same : instruction_at (bytes_of i ++ p) (suc n) ≡ instruction_at p n = λ k. record { op = b 0 k; a = b 1 k; b = b 2 k; c = b 3 k } in
    λ k. lines_next i p n k ++ (line.Instruction (same k) ∷ [])

body : (place : ℕ) (ls : List Line) → Placed (suc place) ls → first_lines (leading ls) (instructions_of (leading ls)) ++ programs_lines (programs ls) ≡ ls
unfolding first_lines leading programs programs_lines program_lines allowed
body place [] h = refl
body place (line.Rule r ∷ ls) h = absurd (omega (arith, eqb-true (suc place) 0 h.1))
body place (line.Program ∷ ls) h = ap (λ (z : List Line). line.Program ∷ z) (body (suc place) ls h.2)
body place (line.Instruction i ∷ ls) h =
    let p = leading ls in
    let e : instructions_of (bytes_of i ++ p) ≡ suc (instructions_of p) = omega arith in
    ap (λ (n : ℕ). first_lines (bytes_of i ++ p) n ++ programs_lines (programs ls)) e
    ∙ ap (λ (z : List Line). z ++ programs_lines (programs ls)) (lines_next i p (instructions_of p))
    ∙ ap (λ (z : List Line). line.Instruction i ∷ z) (body (suc place) ls h.2)
body place (line.Other ∷ ls) h = absurd h.0

from_second : (ls : List Line) → Placed 1 ls → programs_lines (programs ls) ≡ ls
unfolding programs programs_lines program_lines allowed
from_second [] h = refl
from_second (line.Rule r ∷ ls) h = clash h.1 refl
from_second (line.Program ∷ ls) h = ap (λ (z : List Line). line.Program ∷ z) (body 1 ls h.2)
from_second (line.Instruction i ∷ ls) h = clash h.1 refl
from_second (line.Other ∷ ls) h = absurd h.0

-- the first is a rule, and the rest are the lines of programs
pub lines_back : (ls : List Line) → WellPlaced ls → (lines_for (rule_of ls) (programs ls) ≡ ls) × (rule_of ls ≤ largest_rule)
unfolding lines_for rule_of rule_in programs allowed
lines_back ls w = go ls w.first_line_lem w.placed
  where
    go : (ls : List Line) → 0 < length ls → Placed 0 ls → (lines_for (rule_of ls) (programs ls) ≡ ls) × (rule_of ls ≤ largest_rule)
    go [] l h = absurd (omega arith)
    go (line.Rule r ∷ ls) l h = (ap (λ (z : List Line). line.Rule r ∷ z) (from_second ls h.2), h.0)
    go (line.Program ∷ ls) l h = clash h.1 refl
    go (line.Instruction i ∷ ls) l h = clash h.1 refl
    go (line.Other ∷ ls) l h = absurd h.0
