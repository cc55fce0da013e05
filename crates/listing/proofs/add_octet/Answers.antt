-- The readers that are found are the group's, and their bits make the entries whole up to its end. Assumes nothing.
use Rattle.listing.proofs.Readers.{blockers_next}
use Rattle.listing.proofs.add_octet.Goals as goal

pub returns : goal.returns
returns c = blockers_next _ _ _ _ _ _ _ _ c.requires.2 c.requires.1 c.requires.0.few c.find_readers.ensures c.requires.3 c.add_blockers.ensures
