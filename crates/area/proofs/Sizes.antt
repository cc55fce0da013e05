-- The most words that an area has, as the code has the number: neither fewer nor more than the definition's. Assumes nothing.
use mathlib.Core.Path.{◌≡◌, refl}
use Rattle.image.specs.Limits.{max_programs, max_cells}
use Rattle.area.specs.Layout.{area_words}
use Rattle.area.specs.declared.TheConstants.{AREA_WORDS}

-- document 01, "The work area", for the most cells and the most programs
pub most_area_words : AREA_WORDS ≡ area_words max_cells max_programs
most_area_words = refl
