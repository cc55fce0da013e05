-- The room for the longest page of why, as the code has the number: neither fewer bytes nor more than the definition's. Assumes nothing.
use mathlib.Core.Path.{◌≡◌, refl}
use Rattle.reasons.specs.Reasons.{longest_page}
use Rattle.reasons.specs.declared.TheConstants.{PAGE}

-- the page of `why`
pub page_bytes : PAGE ≡ longest_page
page_bytes = refl
