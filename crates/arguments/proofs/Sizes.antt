-- The room for the longest complaint, as the code has the number: neither fewer bytes nor more than the definition's. Assumes nothing.
use mathlib.Core.Path.{◌≡◌, refl}
use Rattle.arguments.specs.Words.{most_words}
use Rattle.arguments.specs.declared.TheConstants.{MOST}

-- the words about an argument, or about how many there are
pub complaint_bytes : MOST ≡ most_words
complaint_bytes = refl
