-- The room that an input is read into, as the code has the number: one byte more than the longest input has, by which a longer one is told. Assumes nothing.
use mathlib.Core.Path.{◌≡◌, refl}
use Prim.Native.Nat.{◌+◌}
use Rattle.converted.specs.Converted.{longest_input}
use Rattle.converted.specs.declared.TheConstants.{INPUT}

-- neither fewer bytes nor more
pub input_bytes : INPUT ≡ longest_input + 1
input_bytes = refl
