-- The loop's invariant: `size` is the length of the lines of the programs below k, each of which is short. Assumes nothing.
use mathlib.Core.Path.{◌≡◌}
use Prim.Native.Nat.{◌*◌, ◌≤◌}
use lib.ListN.{length}
use Rattle.text.specs.Filled.{texts}
use Rattle.from_image.specs.Typing.{most_lines}
use Rattle.from_image.proofs.Sheets.{program_text}
use Rattle.from_image.proofs.programs_length.Given as goal

abbrev pub invariant-loop-k : goal.invariant-loop-k
invariant-loop-k l = (l.size ≡ length (texts (program_text l.image) l.k)) × (l.size ≤ most_lines * l.k)
