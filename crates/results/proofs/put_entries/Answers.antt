-- Behind the entries before this one there is room for it. Assumes nothing.
use native.Mathlib.Omega.{arith}
use Rattle.text.proofs.Pages.{text_room}
use Rattle.results.specs.Listing.{order_entry}
use Rattle.results.proofs.put_entries.Goals as goal

pub filled-requires : goal.filled-requires
unfolding order_entry
filled-requires c = text_room (order_entry _) (omega arith) c.loop-program.invariant c.requires
