-- How many operations there are, and how long the longest name is, as the code has the numbers. Assumes nothing.
use mathlib.Core.Path.{◌≡◌, refl}
use mathlib.Core.Bool.{true}
use lib.Dec.{leb}
use lib.ListN.{length}
use Rattle.base.specs.Words.{every}
use Rattle.sheet.specs.Sheet.{operations, names, name_of}
use Rattle.sheet.specs.declared.TheConstants.{OPERATIONS, NAME_BYTES}

-- each has a name
pub operation_count : OPERATIONS ≡ operations
operation_count = refl

-- none of the names is longer, and that of skipequal is as long
pub names_fit : every operations (λ op. leb (length (name_of op)) NAME_BYTES) ≡ true
unfolding every name_of names
names_fit = refl

pub longest_name : NAME_BYTES ≡ length (name_of 7)
unfolding name_of names
longest_name = refl
