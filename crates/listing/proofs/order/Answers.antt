-- The checks have shown what `order_checked` needs, and its answer is the call's. Assumes nothing.
use mathlib.Core.Path.{sym}
use Rattle.listing.proofs.Orders.{list_ready, order_done}
use Rattle.listing.proofs.order.Goals as goal

pub order_checked-requires : goal.order_checked-requires
order_checked-requires c = list_ready _ _ _ _ _ (sym c.in_ok-list_refusal.ensures) _ c.count.ensures.0

pub returns : goal.returns
returns c = order_done _ _ _ _ _ (sym c.in_ok-list_refusal.ensures) _ c.count.ensures.0 _ _ c.order_checked.ensures
