-- The sizes decide checks 2 and 3, and then the programs can be read. Assumes nothing.
use mathlib.Core.Path.{◌≡◌, sym, ap, ◌∙◌}
use mathlib.Core.Bool.{true}
use mathlib.Core.List.{List}
use Prim.Native.Nat.{ℕ, ◌≤◌}
use borrow.Author.Tests.{le-leb, lt-leb}
use Rattle.std.proofs.lemmas.Result.{err_from_is_err_and}
use Rattle.image.specs.Limits.{max_programs, max_instructions}
use Rattle.image.specs.Refusals.{given_as}
use Rattle.image.proofs.Refusing.{fails, goes_on, given_refused, given_passed}
use Rattle.image.specs.declared.refusals.ImageRefusal.TheVariants.{Header, Offsets, Instruction}
use Rattle.from_sheet.specs.declared.counting.Sizes.{Sizes}
use Rattle.from_sheet.specs.FromSheet.{programs_of, few_programs, short_programs, programs_refusal}
use Rattle.from_sheet.specs.Passes.{Sized}
use Rattle.from_sheet.proofs.Says.{few_are, short_are, fault_is, readable}
use Rattle.from_sheet.proofs.programs_refusal.Goals as goal
use Rattle.from_sheet.proofs.programs_refusal.Goals.{After-code_fault}

-- a size that is in its bounds, and one that is not
few_good : {sheet : List ℕ} {s : Sizes} → Sized sheet s → s.programs ≤ max_programs → few_programs (programs_of sheet) ≡ true
few_good z h = sym (few_are z) ∙ le-leb _ _ h

short_good : {sheet : List ℕ} {s : Sizes} → Sized sheet s → s.longest ≤ max_instructions → short_programs (programs_of sheet) ≡ true
short_good z h = sym (short_are z) ∙ le-leb _ _ h

pub returns-then-sizes-gt-PROGRAMS : goal.returns-then-sizes-gt-PROGRAMS
unfolding programs_refusal
returns-then-sizes-gt-PROGRAMS c = fails _ (sym (few_are c.requires) ∙ lt-leb _ _ c.if-sizes-gt-PROGRAMS.true)

pub returns-then-sizes-gt-INSTRUCTIONS : goal.returns-then-sizes-gt-INSTRUCTIONS
unfolding programs_refusal
returns-then-sizes-gt-INSTRUCTIONS c =
    goes_on Header (few_good c.requires c.if-sizes-gt-PROGRAMS.false) (fails _ (sym (short_are c.requires) ∙ lt-leb _ _ c.if-sizes-gt-INSTRUCTIONS.true))

pub code_fault-requires : goal.code_fault-requires
code_fault-requires c =
    readable c.requires (few_good c.requires c.if-sizes-gt-PROGRAMS.false) (short_good c.requires c.if-sizes-gt-INSTRUCTIONS.false)

-- behind those two checks the first bad instruction decides
looked_at : (c : After-code_fault) → given_as Instruction c.code_fault.result ≡ programs_refusal (programs_of c.args.sheet.now)
unfolding programs_refusal
looked_at c =
    goes_on Header (few_good c.requires c.if-sizes-gt-PROGRAMS.false)
    (goes_on Offsets (short_good c.requires c.if-sizes-gt-INSTRUCTIONS.false)
    (ap (given_as Instruction) (c.code_fault.ensures ∙ fault_is c.requires)))

pub returns-in_err-code_fault : goal.returns-in_err-code_fault
returns-in_err-code_fault c =
    let p = err_from_is_err_and c.from_residual.result c.from_residual.ensures.1 in
    rw (p.1, p.2, ← looked_at (goal.at.returns-in_err-code_fault c).After-code_fault) (sym (given_refused Instruction c.in_err-code_fault.was))

pub returns : goal.returns
returns c = sym (given_passed Instruction c.in_ok-code_fault.was) ∙ looked_at (goal.at.returns c).After-code_fault
