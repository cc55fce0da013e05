-- The rooms for the words about a bad instruction, as the code has the numbers: neither fewer bytes nor more than the definitions'. Assumes nothing.
use mathlib.Core.Path.{◌≡◌, refl}
use Rattle.refused.specs.Where.{most_where, most_where_at_line}
use Rattle.refused.specs.declared.TheConstants.{WHERE_BYTES, WHERE_AT_BYTES}

-- its place
pub where_bytes : WHERE_BYTES ≡ most_where
where_bytes = refl

-- and with the line of a sheet
pub where_at_bytes : WHERE_AT_BYTES ≡ most_where_at_line
where_at_bytes = refl
