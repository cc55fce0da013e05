-- The loop's invariant, `Going`: what is left of the run ends as the whole run does. The measure is what is left of the instructions, since every
-- turn goes forward. Assumes nothing.
use Rattle.std.proofs.Common.{◌≡◌, ◌-◌}
use Rattle.image.specs.Instruction.{instructions_of}
use Rattle.guard.specs.Guards.{admits}
use Rattle.machine.proofs.Going.{Going}
use Rattle.machine.proofs.take_turns.Given as goal

abbrev pub invariant-loop-machine : goal.invariant-loop-machine
invariant-loop-machine l = (l.count ≡ instructions_of l.program) × Going (admits l.guards) l.program l.table l.machine l.slot

abbrev pub decreases-loop-machine : goal.decreases-loop-machine
decreases-loop-machine l = l.count - l.machine.place
