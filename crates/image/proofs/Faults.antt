-- Laws of the first bad instruction: a program is good where none is found, and one that is found is the first. Assumes nothing.
use mathlib.Core.Path.{◌≡◌}
use mathlib.Core.Bool.{true, false}
use mathlib.Core.List.{List}
use Prim.Native.Nat.{ℕ, ◌<◌}
use Rattle.base.specs.Words.{every}
use Rattle.base.proofs.Numbers.{every_at, every_none, every_more}
use Rattle.image.specs.declared.refusals.Fault.{Fault}
use Rattle.image.specs.declared.refusals.Fault.TheVariants as fault
use Rattle.image.specs.declared.refusals.BadInstruction.{BadInstruction}
use Rattle.image.specs.declared.refusals.ImageRefusal.TheVariants as image
use Rattle.image.specs.Refusals.{passed, passes, told_of_image, given_as, WellPlaced, placed}
use Rattle.image.specs.Instruction.{known, kinds_of, register_good, unused_good, skip_good, each, fault_of, byte_of, instructions_of, fault_at, program_fault, code_fault, place_good, program_good}
use Rattle.image.proofs.Refusing.{Checks, none_fails, passed_is, given_passes, firsts_pass, firsts_none, firsts_found, firsts_either}
use Rattle.image.proofs.Places.{bad_told_is, told_image_well}

-- ---- a fault with its place

placed_passes : (p i : ℕ) (r : Checks Fault) → passes (placed p i r) ≡ passes r
unfolding placed
placed_passes p i r = given_passes _ r

-- ---- what a good instruction has passed

pub record GoodBytes (op a b c i m : ℕ) : Type 0 where
  pub operation : known op ≡ true
  pub registers : each register_good (kinds_of op) a b c ≡ true
  pub unused : each unused_good (kinds_of op) a b c ≡ true
  pub skips : each (skip_good i m) (kinds_of op) a b c ≡ true

good : (op a b c i m : ℕ) → passes (fault_of op a b c i m) ≡ true → GoodBytes op a b c i m
unfolding fault_of
good op a b c i m e =
    let k = none_fails (known op) fault.Operation _ (passed_is _ e) in
    let r = none_fails (each register_good (kinds_of op) a b c) fault.Register _ k.1 in
    let u = none_fails (each unused_good (kinds_of op) a b c) fault.Unused _ r.1 in
    let s = none_fails (each (skip_good i m) (kinds_of op) a b c) fault.Skip _ u.1 in
    record { operation = k.0; registers = r.0; unused = u.0; skips = s.0 }

-- each instruction of a good program
pub good_at : (program : List ℕ) → program_good program ≡ true → (i : ℕ) → i < instructions_of program
    → GoodBytes (byte_of program i 0) (byte_of program i 1) (byte_of program i 2) (byte_of program i 3) i (instructions_of program)
unfolding program_good place_good fault_at
good_at program e i l = good _ _ _ _ i _ (every_at (instructions_of program) (λ k. place_good program k) e i l)

-- ---- a program

module _ (p : ℕ) (program : List ℕ) where
  place_is : (i : ℕ) → passes (placed p i (fault_at program i)) ≡ place_good program i
  unfolding place_good
  place_is i = placed_passes p i (fault_at program i)

  pub program_passes : passes (program_fault p program) ≡ program_good program
  unfolding program_fault program_good
  program_passes = firsts_pass _ (place_good program) place_is (instructions_of program)

  pub program_none : (m : ℕ) → m ≡ instructions_of program → every m (λ i. place_good program i) ≡ true → passed ≡ program_fault p program
  unfolding program_fault
  program_none m e h = firsts_none _ (place_good program) place_is (instructions_of program) (rw e at h)

  pub program_found : (i : ℕ) → i < instructions_of program → every i (λ k. place_good program k) ≡ true → place_good program i ≡ false
      → placed p i (fault_at program i) ≡ program_fault p program
  unfolding program_fault
  program_found i l = firsts_found _ (place_good program) place_is (instructions_of program) i l

-- a loop over the instructions of a program
pub ruleset instruction_by_instruction = (every_none, every_more, program_none, program_found)

-- ---- several programs

module _ (part : ℕ → List ℕ) where
  pub code_passes : (n : ℕ) → passes (code_fault n part) ≡ every n (λ p. program_good (part p))
  unfolding code_fault
  code_passes = firsts_pass _ _ (λ p. program_passes p (part p))

  pub code_none : (n : ℕ) → every n (λ p. program_good (part p)) ≡ true → passed ≡ code_fault n part
  unfolding code_fault
  code_none = firsts_none _ (λ p. program_good (part p)) (λ p. program_passes p (part p))

  pub code_found : (n p : ℕ) → p < n → every p (λ q. program_good (part q)) ≡ true → program_good (part p) ≡ false → program_fault p (part p) ≡ code_fault n part
  unfolding code_fault
  code_found = firsts_found _ (λ p. program_good (part p)) (λ p. program_passes p (part p))

  -- a fact of what has passed and of each fault with its place is one of what is found
  pub found_either : (P : Checks BadInstruction → Type 0) → P passed → ((p i : ℕ) → P (placed p i (fault_at (part p) i))) → (n : ℕ) → P (code_fault n part)
  unfolding code_fault program_fault
  found_either P start each = firsts_either P _ start (λ p. firsts_either P _ start (each p) (instructions_of (part p)))

  -- its numbers, as the image's refusal: 41 to 44 or 0, with the place where they say so
  pub code_number : (P : ℕ → Type 0) → P 41 → P 42 → P 43 → P 44 → P 0 → (n : ℕ) → P (told_of_image (given_as image.Instruction (code_fault n part))).number
  code_number P operation register unused skip start n = bad_told_is P operation register unused skip start (code_fault n part)

  pub code_well : (n : ℕ) → WellPlaced (told_of_image (given_as image.Instruction (code_fault n part)))
  code_well n = told_image_well _
