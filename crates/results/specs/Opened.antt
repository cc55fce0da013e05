-- One name that opens every definition of the listing, for worked cases. Assumes nothing.
use Rattle.text.specs.Opened as text
use Rattle.listing.specs.Opened as order
use Rattle.refused.specs.Opened as refused
use Rattle.results.specs.Listing.{first_line, word_of, program_line, order_entry, order_line, cell_line, listing_with, listing}

unfoldable pub opened : Unit {0}
unfolding text.opened order.opened refused.opened first_line word_of program_line order_entry order_line cell_line listing_with listing
opened = tt
