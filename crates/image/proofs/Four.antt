-- The old "4 exactly when" and the new numbers speak of the same images: an instruction has no fault exactly where its row was good. Assumes nothing.
use mathlib.Core.Path.{◌≡◌, refl, sym, ap, ◌∙◌}
use mathlib.Core.Bool.{Bool, true, false, cond, ◌&&◌}
use mathlib.Core.List.{List}
use Prim.Native.Nat.{ℕ, zero, suc, ◌+◌, ◌≤◌, ◌<◌}
use native.Mathlib.Omega.{arith}
use borrow.Author.Tests.{ne_eqb, le-ltb}
use lib.Dec.{eqb, ltb, leb}
use Rattle.base.proofs.Numbers.{every_ext}
use Rattle.std.specs.Prelude.{Ok, Err}
use Rattle.image.specs.declared.refusals.Fault.{Fault}
use Rattle.image.specs.declared.refusals.Fault.TheVariants as fault
use Rattle.image.specs.declared.refusals.BadInstruction.{BadInstruction}
use Rattle.image.specs.declared.refusals.ImageRefusal.{ImageRefusal}
use Rattle.image.specs.declared.refusals.ImageRefusal.TheVariants.{Size, Header, Offsets, Instruction}
use Rattle.image.specs.declared.refusals.Refusal.TheVariants.{Fresh}
use Rattle.image.specs.Limits.{registers}
use Rattle.image.specs.Refusals.{passed, check, passes, given_as, told, told_of_image}
use Rattle.image.specs.Instruction.{rows, known, kinds_of, register_good, unused_good, skip_good, fault_of, fault_at, instructions_of, place_good, program_good}
use Rattle.image.specs.Image.{count_of, header_of, part_of, size_good, header_good, offsets_good, code_good, code_refusal, refusal_of, fresh_refusal_of}
use Rattle.image.specs.Four.{good_before, program_before, code_before, number_before, fresh_before, joined}
use Rattle.image.proofs.Refusing.{Checks}
use Rattle.image.proofs.Places.{fault_is, image_is}
use Rattle.image.proofs.Laws.{code_good_is}

-- ---- an instruction

-- one test, that of one byte of three, and two of them
one_test : (gives : Fault) (holds : Bool) → holds ≡ passes (check holds gives passed)
unfolding check
one_test gives true = refl
one_test gives false = refl

first_test : (gives : Fault) (x : Bool) → x ≡ passes (check (x && true && true) gives passed)
unfolding check
first_test gives true = refl
first_test gives false = refl

two_tests : (gives gives' : Fault) (x y z : Bool) → x && y && z ≡ passes (check (x && y && true) gives (check z gives' passed))
unfolding check
two_tests gives gives' true true true = refl
two_tests gives gives' true true false = refl
two_tests gives gives' true false z = refl
two_tests gives gives' false y z = refl

-- an operation from 9 on has no row
no_row : (op a b c i m : ℕ) → 9 ≤ op → good_before op a b c i m ≡ passes (fault_of op a b c i m)
unfolding good_before fault_of known rows check
no_row op a b c i m l =
    let other : (k : ℕ) → k < 9 → eqb op k ≡ false = λ k below. ne_eqb op k (λ z. omega arith) in
    rw (other 0 (omega arith), other 1 (omega arith), other 2 (omega arith), other 3 (omega arith), other 4 (omega arith), other 5 (omega arith), other 6 (omega arith), other 7 (omega arith), other 8 (omega arith), le-ltb op 9 l)

module _ (a b c i m : ℕ) where
  as_before : (op : ℕ) → good_before op a b c i m ≡ passes (fault_of op a b c i m)
  unfolding good_before fault_of known rows kinds_of register_good unused_good skip_good check
  as_before zero = one_test fault.Unused (eqb a 0 && eqb b 0 && eqb c 0)
  as_before (suc zero) = first_test fault.Register (ltb a registers)
  as_before (suc (suc zero)) = two_tests fault.Register fault.Unused (ltb a registers) (ltb b registers) (eqb c 0)
  as_before (suc (suc (suc zero))) = two_tests fault.Register fault.Unused (ltb a registers) (ltb b registers) (eqb c 0)
  as_before (suc (suc (suc (suc zero)))) = one_test fault.Register (ltb a registers && ltb b registers && ltb c registers)
  as_before (suc (suc (suc (suc (suc zero))))) = one_test fault.Register (ltb a registers && ltb b registers && ltb c registers)
  as_before (suc (suc (suc (suc (suc (suc zero)))))) = two_tests fault.Register fault.Skip (ltb a registers) (ltb b registers) (leb (i + 1 + c) m)
  as_before (suc (suc (suc (suc (suc (suc (suc zero))))))) = two_tests fault.Register fault.Skip (ltb a registers) (ltb b registers) (leb (i + 1 + c) m)
  as_before (suc (suc (suc (suc (suc (suc (suc (suc zero)))))))) = one_test fault.Unused (eqb b 0 && eqb c 0)
  as_before (suc (suc (suc (suc (suc (suc (suc (suc (suc op))))))))) = no_row (suc (suc (suc (suc (suc (suc (suc (suc (suc op))))))))) a b c i m (omega arith)

-- ---- an image

program_as_before : (program : List ℕ) → program_before program ≡ program_good program
unfolding program_before program_good place_good fault_at
program_as_before program = every_ext (instructions_of program) _ _ (λ i l. as_before _ _ _ i (instructions_of program) _)

code_as_before : (image : List ℕ) → code_before image ≡ passes (code_refusal image)
unfolding code_before code_good
code_as_before image = every_ext (count_of image) _ _ (λ p l. program_as_before (part_of image p)) ∙ sym (code_good_is image)

-- 41 to 44 are the old 4, and every other number is as it was
code_told : (r : Checks BadInstruction) → cond (passes r) 0 4 ≡ joined (told_of_image (given_as Instruction r)).number
unfolding joined given_as
code_told (Ok done) = refl
code_told (Err bad) = fault_is (λ n. 4 ≡ joined n) refl refl refl refl bad.fault

pub number_as_before : (image : List ℕ) → number_before image ≡ joined (told_of_image (refusal_of image)).number
unfolding number_before refusal_of check joined
number_as_before image = go (size_good image) (header_good (header_of image)) (offsets_good image)
  where
    go : (a b c : Bool)
        → cond a (cond b (cond c (cond (code_before image) 0 4) 3) 2) 1
        ≡ joined (told_of_image (check a Size (check b Header (check c Offsets (given_as Instruction (code_refusal image)))))).number
    go true true true = ap (λ (good : Bool). cond good 0 4) (code_as_before image) ∙ code_told (code_refusal image)
    go true true false = refl
    go true false c = refl
    go false b c = refl

-- and of the fresh image: 61 to 64 are the old 24
fresh_told : (r : Checks ImageRefusal)
    → cond (eqb (joined (told_of_image r).number) 0) 0 (20 + joined (told_of_image r).number) ≡ joined (told (given_as Fresh r)).number
unfolding joined given_as
fresh_told (Ok done) = refl
fresh_told (Err r) = image_is (λ n. cond (eqb (joined n) 0) 0 (20 + joined n) ≡ joined (20 + n)) refl refl refl refl refl refl refl r

pub fresh_as_before : (image : List ℕ) → fresh_before image ≡ joined (told (fresh_refusal_of image)).number
unfolding fresh_before fresh_refusal_of
fresh_as_before image = ap (λ (n : ℕ). cond (eqb n 0) 0 (20 + n)) (number_as_before image) ∙ fresh_told (refusal_of image)
