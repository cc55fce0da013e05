-- The instruction that a sheet's refusal names is there, and its program is not too long: the checks before it have passed. Assumes nothing.
use mathlib.Core.Path.{◌≡◌}
use mathlib.Core.Bool.{Bool, true}
use mathlib.Core.List.{List, [], ◌∷◌}
use Prim.Native.Nat.{ℕ, zero, suc, ◌<◌}
use native.Mathlib.Omega.{arith}
use lib.Dec.{eqb, leb}
use Rattle.std.specs.Prelude.{Err}
use lib.ListN.{length, get_or}
use borrow.Author.Tests.{leb-true}
use Rattle.base.proofs.Bools.{and_both}
use Rattle.image.specs.Limits.{max_programs, max_program_bytes}
use Rattle.image.specs.declared.refusals.BadInstruction.{BadInstruction}
use Rattle.image.specs.declared.refusals.ImageRefusal.TheVariants.{Header, Offsets, Instruction}
use Rattle.image.specs.declared.refusals.Refusal.TheVariants.{Image}
use Rattle.image.proofs.Refusing.{behind, refused_given}
use Rattle.image.proofs.There.{code_there}
use Rattle.sheet.specs.declared.Unwritten.TheVariants.{Refused, BadLine}
use Rattle.sheet.specs.Answers.{as_image}
use Rattle.sheet.specs.Sheet.{bad_line}
use Rattle.from_sheet.specs.FromSheet.{programs_of, all, few_programs, short_programs, programs_fault, programs_refusal, sheet_refusal}
use Rattle.from_sheet.specs.WrongLines.{Stands}

all_at : (test : List ℕ → Bool) (ps : List (List ℕ)) → all test ps ≡ true → (p : ℕ) → p < length ps → test (get_or ps p []) ≡ true
unfolding all
all_at test [] e p l = absurd (omega arith)
all_at test (q ∷ ps) e zero l = (and_both (test q) (all test ps) e).0
all_at test (q ∷ ps) e (suc p) l = all_at test ps (and_both (test q) (all test ps) e).1 p (omega arith)

pub refusal_stands : (sheet : List ℕ) {bad : BadInstruction} → sheet_refusal sheet ≡ Err (Refused (Image (Instruction bad)))
    → Stands sheet bad.program bad.instruction
unfolding sheet_refusal programs_refusal few_programs short_programs programs_fault
refusal_stands sheet {bad} e =
    let ps = programs_of sheet in
    let allowed = behind (eqb (bad_line sheet) 0) (BadLine (bad_line sheet)) _ (λ z. cc) e in
    let refused = refused_given as_image (programs_refusal ps) allowed.1 in
    let is : programs_refusal ps ≡ Err (Instruction bad) = cc in
    let few = behind (few_programs ps) Header _ (λ z. cc) is in
    let short = behind (short_programs ps) Offsets _ (λ z. cc) few.1 in
    let found = refused_given Instruction (programs_fault ps) short.1 in
    let that : programs_fault ps ≡ Err bad = cc in
    let t = code_there (length ps) (λ p. get_or ps p []) bad that in
    record {
      few = omega (arith, t.program_there, leb-true (length ps) max_programs few.0);
      program_there = t.program_there;
      program_short = leb-true _ _ (all_at (λ p. leb (length p) max_program_bytes) ps short.0 _ t.program_there);
      instruction_there = t.instruction_there;
    }
