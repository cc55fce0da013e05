-- The mask is that of the committed programs, which have slots. Assumes nothing.
use borrow.Author.Rules.{rules}
use Rattle.listing.proofs.Readers.{committed_in}
use Rattle.listing.proofs.order_checked.Goals as goal

pub fill_blockers-requires : goal.fill_blockers-requires
fill_blockers-requires c = (c.requires.1, committed_in _ _ _ _ c.requires.1 (record { all_are = c.members-all.ensures }), search rules)
