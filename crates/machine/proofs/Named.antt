-- A good instruction names registers wherever its operation does. Assumes nothing.
use Rattle.std.proofs.Common.{◌≡◌, ℕ, zero, suc, ◌<◌, ◌≤◌, Bool, true, ◌&&◌, ltb, List, sym, refl, ◌∙◌, arith, ltb-true}
use Rattle.base.proofs.Bools.{and_both}
use Rattle.image.specs.declared.instruction.Instruction.{Instruction}
use Rattle.image.specs.Limits.{registers}
use Rattle.image.specs.Instruction.{rows, kinds_of, register_good, each, byte_of, instructions_of, instruction_of, program_good}
use Rattle.image.proofs.Faults.{good_at}
use Rattle.machine.specs.Runs.{Named}

-- what the test of registers says of an instruction: none, a alone, a and b, or all three name one
module _ (op a b c : ℕ) where
  none_named : (1 ≤ op → op ≤ 7 → ⊥) → Named op a b c
  none_named n =
      record { first = λ h k. absurd (n h k); second = λ h k. absurd (n (omega arith) k); third = λ h k. absurd (n (omega arith) (omega arith)) }

  -- b and c as far as they are named
  named_by : (second third : Bool) → (2 ≤ op → op ≤ 7 → second ≡ ltb b registers) → (4 ≤ op → op ≤ 5 → third ≡ ltb c registers)
      → ltb a registers && second && third ≡ true → Named op a b c
  named_by second third is_b is_c e =
      let x = and_both (ltb a registers && second) third e in
      let y = and_both (ltb a registers) second x.0 in
      record {
        first = λ h k. ltb-true a registers y.0;
        second = λ h k. ltb-true b registers (sym (is_b h k) ∙ y.1);
        third = λ h k. ltb-true c registers (sym (is_c h k) ∙ x.1);
      }

module _ (a b c : ℕ) where
  good_named : (op : ℕ) → each register_good (kinds_of op) a b c ≡ true → Named op a b c
  unfolding kinds_of rows register_good
  good_named zero e = none_named 0 a b c (λ h k. omega arith)
  good_named (suc zero) e = named_by 1 a b c true true (λ h k. absurd (omega arith)) (λ h k. absurd (omega arith)) e
  good_named (suc (suc zero)) e = named_by 2 a b c _ true (λ h k. refl) (λ h k. absurd (omega arith)) e
  good_named (suc (suc (suc zero))) e = named_by 3 a b c _ true (λ h k. refl) (λ h k. absurd (omega arith)) e
  good_named (suc (suc (suc (suc zero)))) e = named_by 4 a b c _ _ (λ h k. refl) (λ h k. refl) e
  good_named (suc (suc (suc (suc (suc zero))))) e = named_by 5 a b c _ _ (λ h k. refl) (λ h k. refl) e
  good_named (suc (suc (suc (suc (suc (suc zero)))))) e = named_by 6 a b c _ true (λ h k. refl) (λ h k. absurd (omega arith)) e
  good_named (suc (suc (suc (suc (suc (suc (suc zero))))))) e = named_by 7 a b c _ true (λ h k. refl) (λ h k. absurd (omega arith)) e
  good_named (suc (suc (suc (suc (suc (suc (suc (suc o)))))))) e = none_named _ a b c (λ h k. omega arith)

pub instruction_named : (p : List ℕ) → program_good p ≡ true → (k : ℕ) → k < instructions_of p → (i : Instruction) → i ≡ instruction_of p k
    → Named i.op i.a i.b i.c
instruction_named p e k l i read = rw read (good_named (byte_of p k 1) (byte_of p k 2) (byte_of p k 3) (byte_of p k 0) (good_at p e k l).registers)
