-- The rooms for the longest prefix and for the most guards, as the code has the numbers: neither fewer bytes nor more than the definitions'. Assumes nothing.
use mathlib.Core.Path.{◌≡◌, refl}
use Rattle.image.specs.Limits.{max_cells}
use Rattle.prefix.specs.Prefix.{prefix_bytes, guard_bytes}
use Rattle.prefix.specs.declared.TheConstants.{MOST, MOST_GUARDS}

-- T and the most cells
pub most_prefix : MOST ≡ prefix_bytes max_cells
most_prefix = refl

-- and the guards of so many
pub most_guards : MOST_GUARDS ≡ guard_bytes max_cells
most_guards = refl
