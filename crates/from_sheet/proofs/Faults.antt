-- Laws of the first bad instruction of several programs: found one program after another, it is the first of all. Assumes nothing.
use mathlib.Core.Path.{◌≡◌, refl, sym, ap, ◌∙◌}
use mathlib.Core.List.{List, [], ◌∷◌}
use Prim.Native.Nat.{ℕ, zero, suc, ◌+◌}
use native.Mathlib.Omega.{arith}
use lib.ListN.{length, get_or}
use Rattle.std.specs.Prelude.{Ok, Err}
use Rattle.image.specs.declared.refusals.BadInstruction.{BadInstruction}
use Rattle.image.specs.Refusals.{passed, passes, after, first_of, WellPlaced}
use Rattle.image.specs.Instruction.{program_fault, code_fault, program_good}
use Rattle.image.proofs.Refusing.{Checks, after_passes}
use Rattle.image.proofs.Places.{plain_well, well}
use Rattle.image.proofs.Faults.{program_passes}
use Rattle.sheet.specs.declared.Unwritten.{Unwritten}
use Rattle.sheet.specs.declared.Unwritten.TheVariants.{Refused, BadLine}
use Rattle.sheet.specs.Answers.{told_of_sheet}
use Rattle.from_sheet.specs.FromSheet.{all, programs_fault, sheet_refusal}
use Rattle.from_sheet.specs.Passes.{faults_from}

-- ---- one refusal after another

module _ {E : Type 0} where
  pub after_again : (a b c : Checks E) → after a (after b c) ≡ after (after a b) c
  unfolding after
  after_again (Ok done) b c = refl
  after_again (Err e) b c = refl

  -- nothing is found behind
  pub after_none : (a : Checks E) → after a passed ≡ a
  unfolding after
  after_none (Ok done) = refl
  after_none (Err e) = refl

  -- the first of several is the first, or the first of those behind it
  first_first : (fault : ℕ → Checks E) (n : ℕ) → first_of (suc n) fault ≡ after (fault 0) (first_of n (λ k. fault (suc k)))
  unfolding first_of after
  first_first fault zero = sym (after_none (fault 0))
  first_first fault (suc n) =
      ap (λ (r : Checks E). after r (fault (suc n))) (first_first fault n)
      ∙ sym (after_again (fault 0) (first_of n (λ k. fault (suc k))) (fault (suc n)))

firsts_same : (n : ℕ) {f g : ℕ → Checks BadInstruction} → ((k : ℕ) → f k ≡ g k) → first_of n f ≡ first_of n g
firsts_same n h = ap (first_of n) (λ i k. h k i)

-- the faults of programs numbered from k on, one after another
faults_are : (k : ℕ) (ps : List (List ℕ)) → faults_from k ps ≡ first_of (length ps) (λ p. program_fault (k + p) (get_or ps p []))
unfolding faults_from first_of
faults_are k [] = refl
faults_are k (p ∷ ps) =
    let e : k + 0 ≡ k = omega arith in
    sym (first_first (λ q. program_fault (k + q) (get_or (p ∷ ps) q [])) (length ps)
    ∙ rw e (ap (after (program_fault k p)) (firsts_same (length ps) (λ q. let f : k + suc q ≡ k + 1 + q = omega arith in rw f) ∙ sym (faults_are (k + 1) ps))))

pub programs_fault_lem : (ps : List (List ℕ)) → faults_from 0 ps ≡ programs_fault ps
unfolding programs_fault code_fault
programs_fault_lem ps = faults_are 0 ps ∙ firsts_same (length ps) (λ p. let e : 0 + p ≡ p = omega arith in rw e)

-- ---- it passes where every program is good

faults_pass : (k : ℕ) (ps : List (List ℕ)) → passes (faults_from k ps) ≡ all program_good ps
unfolding faults_from all
faults_pass k [] = refl
faults_pass k (p ∷ ps) = after_passes (program_fault k p) (faults_from (k + 1) ps) ∙ rw (program_passes k p, faults_pass (k + 1) ps)

pub programs_pass : (ps : List (List ℕ)) → passes (programs_fault ps) ≡ all program_good ps
programs_pass ps = ap (λ (r : Checks BadInstruction). passes r) (sym (programs_fault_lem ps)) ∙ faults_pass 0 ps

-- ---- its place is meant

pub told_sheet_well : (r : Checks Unwritten) → WellPlaced (told_of_sheet r)
told_sheet_well (Ok done) = plain_well 0
told_sheet_well (Err (Refused r)) = well r
told_sheet_well (Err (BadLine k)) = plain_well 51

pub sheet_well : (sheet : List ℕ) → WellPlaced (told_of_sheet (sheet_refusal sheet))
sheet_well sheet = told_sheet_well (sheet_refusal sheet)
