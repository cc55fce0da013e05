-- The room for the most guards, as the code has the number: neither fewer words nor more than the definition's. Assumes nothing.
use mathlib.Core.Path.{◌≡◌, refl}
use Rattle.image.specs.Limits.{max_cells}
use Rattle.guard.specs.Guards.{guard_words}
use Rattle.report.specs.declared.TheConstants.{GUARD_WORDS}

-- two for each of the most cells
pub most_guard_words : GUARD_WORDS ≡ guard_words max_cells
most_guard_words = refl
