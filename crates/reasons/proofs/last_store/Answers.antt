-- The program is its part of the image, which can be run, in a slot that is there for it. Assumes nothing.
use native.Mathlib.Omega.{arith}
use borrow.Author.Rules.{rules}
use Rattle.image.proofs.Laws.{accepted, lies}
use Rattle.machine.proofs.Laws.{part_runnable}
use Rattle.area.proofs.Checks.{few}
use Rattle.reasons.proofs.last_store.Goals as goal

pub part_of-part-requires : goal.part_of-part-requires
part_of-part-requires c =
    let p = c.requires in
    (lies _ (accepted _ p.accepted).offsets _ p.within, omega (arith, few _ p.accepted, p.within))

pub last_store-requires : goal.last_store-requires
last_store-requires c =
    let p = c.requires in
    record { runnable = rw c.part_of-part.ensures.bytes_are (part_runnable _ p.accepted _ p.within); pairs = p.pairs; sized = search rules }
