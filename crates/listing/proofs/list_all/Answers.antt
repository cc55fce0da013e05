-- What is picked is the order; it is whole where as many are picked as are committed. Assumes nothing.
use Rattle.listing.proofs.Picks.{no_order_lem, whole_order}
use Rattle.listing.proofs.list_all.Goals as goal

pub returns-then-order-count : goal.returns-then-order-count
returns-then-order-count c =
    let r = c.requires in
    no_order_lem r.slots.few r.committed r.blocked c.pick_all-order.ensures c.count.ensures.0 c.if-order-count.true

pub returns : goal.returns
returns c =
    let r = c.requires in
    rw c.copy_order.ensures (whole_order r.slots.few r.committed r.blocked c.pick_all-order.ensures c.count.ensures.0 c.if-order-count.false)
