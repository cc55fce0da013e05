-- The text has come to one of its bytes. Assumes nothing.
use native.Mathlib.Omega.{arith}
use Rattle.text.proofs.Fillings.{filled_end, filled_next}
use Rattle.text.proofs.Pages.{partly_room, partly_more, partly_end}
use Rattle.text.proofs.page.Page.filled.Goals as goal

pub shown-left-requires : goal.shown-left-requires
shown-left-requires c = partly_room c.loop-byte.invariant _ _ (filled_next c.args.text.now _ c.loop-byte.byte-index (omega arith)) c.requires

pub loop-byte-preserved : goal.loop-byte-preserved
loop-byte-preserved c =
    let s = c.shown-left.ensures in
    rw s.left (partly_more c.loop-byte.invariant _ _ (filled_next c.args.text.now _ c.loop-byte.byte-index (omega arith)) s.put)

pub returns : goal.returns
returns c = partly_end c.loop-byte.invariant (filled_end c.args.text.now _ c.loop-byte.byte-index (omega arith))
