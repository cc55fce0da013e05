-- `code_refusal` meets its contract. The invariants: nothing bad was found, every program passed is good, and so is every instruction passed of this
-- one. The measures are how many are left. Leaving by the label, this program is the first that is bad. Assumes nothing.
use mathlib.Core.Bool.{true}
use mathlib.Core.Path.{◌≡◌}
use Prim.Native.Nat.{◌≤◌, ◌-◌}
use Rattle.base.specs.Words.{every}
use Rattle.image.specs.Instruction.{place_good, program_good}
use Rattle.image.specs.Image.{part_of}
use Rattle.image.specs.Refusals.{passed}
use Rattle.image.proofs.code_refusal.Given as goal

abbrev pub invariant-loop-i : goal.invariant-loop-i
invariant-loop-i l = (l.i ≤ l.m) × (l.found ≡ passed) × (every l.i (λ k. place_good l.part k) ≡ true)

abbrev pub invariant-programs : goal.invariant-programs
invariant-programs l = (l.p ≤ l.n) × (l.found ≡ passed) × (every l.p (λ q. program_good (part_of l.bytes q)) ≡ true)

abbrev pub decreases-programs : goal.decreases-programs
decreases-programs l = l.n - l.p
