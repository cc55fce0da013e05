-- The room for the longest listing, as the code has the number: neither fewer bytes nor more than the definition's. Assumes nothing.
use mathlib.Core.Path.{◌≡◌, refl}
use Rattle.results.specs.Listing.{most_listing}
use Rattle.results.specs.declared.TheConstants.{BYTES}

-- the page of `batch`
pub listing_bytes : BYTES ≡ most_listing
listing_bytes = refl
