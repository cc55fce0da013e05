-- The loop's invariant: `size` is the length of the lines below i, each of which is short. Assumes nothing.
use mathlib.Core.Path.{◌≡◌}
use Prim.Native.Nat.{◌*◌, ◌≤◌}
use lib.ListN.{length}
use Rattle.text.specs.Filled.{texts}
use Rattle.from_image.specs.Typing.{most_line}
use Rattle.from_image.proofs.Sheets.{instruction_text}
use Rattle.from_image.proofs.instructions_length.Given as goal

abbrev pub invariant-loop-i : goal.invariant-loop-i
invariant-loop-i l = (l.size ≡ length (texts (instruction_text l.program) l.i)) × (l.size ≤ most_line * l.i)
