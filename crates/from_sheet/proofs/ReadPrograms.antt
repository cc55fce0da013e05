-- Laws of reading the programs of a sheet one after another. Assumes nothing.
use mathlib.Core.Path.{◌≡◌, refl, sym, ◌∙◌}
use mathlib.Core.Bool.{true, ◌&&◌}
use mathlib.Core.List.{List, [], ◌∷◌, ◌++◌, append_assoc, append-nil}
use Prim.Native.Nat.{ℕ, ◌+◌, ◌-◌, ◌≤◌}
use native.Mathlib.Omega.{arith}
use lib.Dec.{leb}
use lib.ListN.{length, length-append}
use borrow.Author.Tests.{leb-true}
use Rattle.std.specs.Prelude.{Err}
use Rattle.base.proofs.Bools.{and_both}
use Rattle.image.specs.Limits.{max_programs, max_program_bytes}
use Rattle.image.specs.declared.refusals.BadInstruction.{BadInstruction}
use Rattle.image.specs.Refusals.{passed, after, first_of}
use Rattle.image.specs.Instruction.{program_fault}
use Rattle.sheet.specs.declared.Line.{Line}
use Rattle.sheet.specs.declared.Line.TheVariants as line
use Rattle.sheet.specs.Sheet.{bytes_of, leading, programs}
use Rattle.from_sheet.specs.FromSheet.{all, short_programs, programs_fault}
use Rattle.from_sheet.specs.Passes.{body_of, read_after, begun_after, found_at, still_short, Readable, faults_from, still_fault}
use Rattle.from_sheet.proofs.Faults.{after_none, programs_fault_lem}

-- ---- a line more

fault_next : (begun : ℕ) (bytes : List ℕ) (l : Line) (ls : List Line)
    → still_fault begun bytes (l ∷ ls) ≡ after (found_at begun bytes l) (still_fault (begun_after begun l) (read_after bytes l) ls)
unfolding still_fault faults_from found_at begun_after read_after after leading programs
fault_next begun bytes (line.Rule r) ls = refl
fault_next begun bytes line.Program ls =
    let e : begun + 1 - 1 ≡ begun = omega arith in
    rw (append-nil bytes, e)
fault_next begun bytes (line.Instruction i) ls = rw (append_assoc bytes (bytes_of i) (leading ls))
fault_next begun bytes line.Other ls = refl

-- where it is found in the program before, and where it is still to be found
pub fault_found : (begun : ℕ) (bytes : List ℕ) (l : Line) (ls : List Line) {bad : BadInstruction} → found_at begun bytes l ≡ Err bad
    → Err bad ≡ still_fault begun bytes (l ∷ ls)
unfolding after
fault_found begun bytes l ls e = sym (fault_next begun bytes l ls ∙ rw e)

pub fault_left : (begun : ℕ) (bytes : List ℕ) (l : Line) (ls : List Line) → found_at begun bytes l ≡ passed
    → still_fault (begun_after begun l) (read_after bytes l) ls ≡ still_fault begun bytes (l ∷ ls)
unfolding after
fault_left begun bytes l ls e = sym (fault_next begun bytes l ls ∙ rw e)

-- at the end the last program is looked at
pub fault_end : (begun : ℕ) (bytes : List ℕ) → still_fault begun bytes [] ≡ program_fault (begun - 1) bytes
unfolding still_fault faults_from leading programs
fault_end begun bytes = rw (append-nil bytes) (after_none (program_fault (begun - 1) bytes))

few_next : (begun : ℕ) (l : Line) (ls : List Line) → begun_after begun l + length (programs ls) ≡ begun + length (programs (l ∷ ls))
unfolding begun_after programs
few_next begun (line.Rule r) ls = refl
few_next begun line.Program ls = omega arith
few_next begun (line.Instruction i) ls = refl
few_next begun line.Other ls = refl

short_next : (bytes : List ℕ) (l : Line) (ls : List Line) → still_short bytes (l ∷ ls) ≡ true → still_short (read_after bytes l) ls ≡ true
unfolding still_short read_after leading programs short_programs all
short_next bytes (line.Rule r) ls h = h
short_next bytes line.Program ls h =
    (and_both (leb (length (bytes ++ [])) max_program_bytes) (leb (length (leading ls)) max_program_bytes && short_programs (programs ls)) h).1
short_next bytes (line.Instruction i) ls h = rw (append_assoc bytes (bytes_of i) (leading ls)) h
short_next bytes line.Other ls h = h

-- the room is long enough for the next instruction
short_room : (bytes : List ℕ) (l : Line) (ls : List Line) → still_short bytes (l ∷ ls) ≡ true → length bytes + length (body_of l) ≤ max_program_bytes
unfolding still_short body_of leading programs
short_room bytes l ls h = go l (leb-true _ _ (and_both (leb (length (bytes ++ leading (l ∷ ls))) max_program_bytes) (short_programs (programs (l ∷ ls))) h).0)
  where
    go : (l : Line) → length (bytes ++ leading (l ∷ ls)) ≤ max_program_bytes → length bytes + length (body_of l) ≤ max_program_bytes
    go (line.Rule r) k = omega (arith, rw length-append at k)
    go line.Program k = omega (arith, rw length-append at k)
    go (line.Instruction i) k = omega (arith, rw (length-append, length-append) at k)
    go line.Other k = omega (arith, rw length-append at k)

pub readable_room : (begun : ℕ) (bytes : List ℕ) (l : Line) (ls : List Line) → Readable begun bytes (l ∷ ls)
    → length bytes + length (body_of l) ≤ max_program_bytes
readable_room begun bytes l ls r = short_room bytes l ls r.short

pub readable_next : (begun : ℕ) (bytes : List ℕ) (l : Line) (ls : List Line) → Readable begun bytes (l ∷ ls)
    → Readable (begun_after begun l) (read_after bytes l) ls
readable_next begun bytes l ls r = record { short = short_next bytes l ls r.short; few = omega (arith, few_next begun l ls, r.few) }

-- ---- from the beginning, where nothing leads

module _ (ls : List Line) (nothing : leading ls ≡ []) where
  pub all_faults : still_fault 0 [] ls ≡ programs_fault (programs ls)
  unfolding still_fault program_fault first_of after
  all_faults = rw nothing (programs_fault_lem (programs ls))

  pub all_readable : length (programs ls) ≤ max_programs → short_programs (programs ls) ≡ true → Readable 0 [] ls
  unfolding still_short
  all_readable few short = record { short = rw (nothing, short); few = omega arith }
