-- `program_fault` meets its contract. The loop's invariant: each instruction passed is good. Where one is not good, it is the first. Assumes nothing.
use mathlib.Core.Path.{◌≡◌}
use mathlib.Core.Bool.{true}
use Prim.Native.Nat.{◌≤◌}
use Rattle.base.specs.Words.{every}
use Rattle.image.specs.Instruction.{place_good}
use Rattle.image.proofs.program_fault.Given as goal

abbrev pub invariant-loop-i : goal.invariant-loop-i
invariant-loop-i l = (l.i ≤ l.m) × (every l.i (λ k. place_good l.program k) ≡ true)
