-- What the sizes of a sheet say of its programs. Assumes nothing.
use mathlib.Core.Path.{◌≡◌, refl, ◌∙◌}
use mathlib.Core.Bool.{Bool, true, false, cond, ◌&&◌}
use mathlib.Core.List.{List, [], ◌∷◌, ◌++◌, append_assoc, append-nil, map}
use Prim.Native.Nat.{ℕ, suc, ◌+◌, ◌*◌, ◌≤◌, max}
use native.Mathlib.Omega.{arith}
use lib.Dec.{leb}
use lib.ListN.{length, length-append}
use borrow.Author.Tests.{leb-true, le-leb}
use Rattle.base.proofs.Bools.{clash, and_both, both_and, same_test}
use Rattle.image.specs.Limits.{max_instructions, instruction_bytes, max_program_bytes}
use Rattle.writer.specs.Joined.{joined}
use Rattle.sheet.specs.declared.Instruction.{Instruction}
use Rattle.sheet.specs.declared.Line.{Line}
use Rattle.sheet.specs.declared.Line.TheVariants as line
use Rattle.sheet.specs.Split.{split}
use Rattle.sheet.specs.Sheet.{newline, line_of, lines_of, allowed, ended, bad_from, bad_line, bytes_of, leading, programs}
use Rattle.from_sheet.proofs.Passing.{empty_line}
use Rattle.from_sheet.specs.declared.counting.Sizes.{Sizes}
use Rattle.from_sheet.specs.FromSheet.{all, short_programs}
use Rattle.from_sheet.specs.Passes.{counted, tally, body_of, bodies, still_short}

-- ---- how many programs, how many instructions

pub tally_programs : (s : Sizes) (ls : List Line) → (tally s ls).programs ≡ s.programs + length (programs ls)
unfolding tally counted programs
tally_programs s [] = omega arith
tally_programs s (line.Rule r ∷ ls) = tally_programs s ls
tally_programs s (line.Program ∷ ls) = tally_programs (counted s line.Program) ls ∙ omega arith
tally_programs s (line.Instruction i ∷ ls) = tally_programs (counted s (line.Instruction i)) ls
tally_programs s (line.Other ∷ ls) = tally_programs s ls

pub tally_bytes : (s : Sizes) (ls : List Line) → instruction_bytes * (tally s ls).instructions ≡ instruction_bytes * s.instructions + length (bodies ls)
unfolding tally counted bodies body_of
tally_bytes s [] = omega arith
tally_bytes s (line.Rule r ∷ ls) = tally_bytes s ls
tally_bytes s (line.Program ∷ ls) = tally_bytes (counted s line.Program) ls
tally_bytes s (line.Instruction i ∷ ls) = tally_bytes (counted s (line.Instruction i)) ls ∙ omega arith
tally_bytes s (line.Other ∷ ls) = tally_bytes s ls

-- ---- the longest is no longer than a program may be, exactly if none is

-- the program that is being read has so many bytes
pub record Read (s : Sizes) (bytes : List ℕ) : Type 0 where
  pub long : length bytes ≡ instruction_bytes * s.current
  pub within : s.current ≤ s.longest

-- a part of a program that is not too long is not too long
first_short : (b : List ℕ) (ls : List Line) → still_short b ls ≡ true → length b ≤ max_program_bytes
unfolding still_short
first_short b ls h =
    omega (arith, leb-true (length (b ++ leading ls)) max_program_bytes (and_both (leb (length (b ++ leading ls)) max_program_bytes) (short_programs (programs ls)) h).0, length-append b (leading ls))

longest_fits : (s : Sizes) (b : List ℕ) → Read s b → leb s.longest max_instructions ≡ true → leb (length b) max_program_bytes ≡ true
longest_fits s b r h = le-leb (length b) max_program_bytes (omega (arith, leb-true s.longest max_instructions h, r.long, r.within))

module _ (s : Sizes) (b : List ℕ) (ls : List Line) (r : Read s b) where
  begins : leb s.longest max_instructions && still_short [] ls ≡ leb s.longest max_instructions && still_short b (line.Program ∷ ls)
  unfolding still_short leading programs short_programs all
  begins =
      rw (append-nil b)
      (same_test
      (λ h. let p = and_both (leb s.longest max_instructions) (still_short [] ls) h in both_and p.0 (both_and (longest_fits s b r p.0) p.1))
      (λ h. let p = and_both (leb s.longest max_instructions) _ h in both_and p.0 (and_both (leb (length b) max_program_bytes) (still_short [] ls) p.1).1))

  goes_on_with : (i : Instruction) → leb (max s.longest (s.current + 1)) max_instructions && still_short (b ++ bytes_of i) ls
      ≡ leb s.longest max_instructions && still_short (b ++ bytes_of i) ls
  goes_on_with i =
      same_test
      (λ h.
      let p = and_both (leb (max s.longest (s.current + 1)) max_instructions) (still_short (b ++ bytes_of i) ls) h in
      both_and (le-leb s.longest max_instructions (omega (arith, leb-true (max s.longest (s.current + 1)) max_instructions p.0))) p.1)
      (λ h.
      let p = and_both (leb s.longest max_instructions) (still_short (b ++ bytes_of i) ls) h in
      let q = first_short (b ++ bytes_of i) ls p.1 in
      both_and
      (le-leb (max s.longest (s.current + 1)) max_instructions
      (omega (arith, leb-true s.longest max_instructions p.0, q, length-append b (bytes_of i), r.long)))
      p.1)

  ends_with : leb s.longest max_instructions ≡ leb s.longest max_instructions && still_short b []
  unfolding still_short leading programs short_programs all
  ends_with =
      rw (append-nil b)
      (same_test
      (λ h. both_and h (both_and (longest_fits s b r h) refl))
      (λ h. (and_both (leb s.longest max_instructions) (leb (length b) max_program_bytes && true) h).0))

pub tally_longest : (s : Sizes) (b : List ℕ) (ls : List Line) → Read s b → leb (tally s ls).longest max_instructions ≡ leb s.longest max_instructions && still_short b ls
unfolding tally counted still_short leading programs
tally_longest s b [] r = ends_with s b [] r
tally_longest s b (line.Rule x ∷ ls) r = tally_longest s b ls r
tally_longest s b (line.Program ∷ ls) r = tally_longest (counted s line.Program) [] ls (record { long = omega arith; within = omega arith }) ∙ begins s b ls r
tally_longest s b (line.Instruction i ∷ ls) r =
    tally_longest (counted s (line.Instruction i)) (b ++ bytes_of i) ls (record { long = rw length-append (omega (arith, r.long)); within = omega arith })
    ∙ goes_on_with s b ls r i
    ∙ rw (append_assoc b (bytes_of i) (leading ls))
tally_longest s b (line.Other ∷ ls) r = tally_longest s b ls r

-- ---- where every line is allowed, nothing stands before the first program

rule_first : (l : Line) (ls : List Line) → allowed 0 l ≡ true → leading (l ∷ ls) ≡ leading ls
unfolding allowed leading
rule_first (line.Rule r) ls h = refl
rule_first line.Program ls h = clash h refl
rule_first (line.Instruction i) ls h = clash h refl
rule_first line.Other ls h = refl

program_second : (l : Line) (ls : List Line) → allowed 1 l ≡ true → leading (l ∷ ls) ≡ []
unfolding allowed leading
program_second (line.Rule r) ls h = clash h refl
program_second line.Program ls h = refl
program_second (line.Instruction i) ls h = clash h refl
program_second line.Other ls h = clash h refl

-- a first bad line is not 0
good_first : (place : ℕ) (b : Bool) (rest : ℕ) → cond b rest (suc place) ≡ 0 → (b ≡ true) × (rest ≡ 0)
good_first place true rest h = (refl, h)
good_first place false rest h = absurd (omega arith)

second_leads : (parts : List (List ℕ)) → bad_from 1 parts ≡ 0 → leading (map line_of parts) ≡ []
unfolding bad_from ended leading
second_leads [] h = refl
second_leads ([] ∷ []) h = rw empty_line
second_leads ((x ∷ rest) ∷ []) h = absurd (omega arith)
second_leads (text ∷ next ∷ parts) h = program_second (line_of text) (map line_of (next ∷ parts)) (good_first 1 (allowed 1 (line_of text)) (bad_from 2 (next ∷ parts)) h).0

first_leads : (parts : List (List ℕ)) → bad_from 0 parts ≡ 0 → leading (map line_of parts) ≡ []
unfolding bad_from ended leading
first_leads [] h = refl
first_leads (rest ∷ []) h = absurd (omega arith)
first_leads (text ∷ next ∷ parts) h =
    let g = good_first 0 (allowed 0 (line_of text)) (bad_from 1 (next ∷ parts)) h in
    rule_first (line_of text) (map line_of (next ∷ parts)) g.0 ∙ second_leads (next ∷ parts) g.1

pub nothing_leads : (sheet : List ℕ) → bad_line sheet ≡ 0 → leading (lines_of sheet) ≡ []
unfolding bad_line
nothing_leads sheet h = first_leads (split newline sheet) h

-- ---- programs that are not too long

pub joined_short : (ps : List (List ℕ)) → short_programs ps ≡ true → length (joined ps) ≤ max_program_bytes * length ps
unfolding joined short_programs all
joined_short [] h = omega arith
joined_short (p ∷ ps) h =
    let q = and_both (leb (length p) max_program_bytes) (short_programs ps) h in
    rw length-append (omega (arith, leb-true (length p) max_program_bytes q.0, joined_short ps q.1))
