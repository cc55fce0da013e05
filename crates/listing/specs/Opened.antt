-- One name that opens every definition of the listed order, for worked cases. Assumes nothing.
use Rattle.base.specs.Words.{or_else, first, count, has, meets}
use Rattle.area.specs.Opened as area
use Rattle.listing.specs.Order.{blocks, ready, without, grow, listed, rising}
use Rattle.listing.specs.Listing.{committed_count, order_of, order_exists, list_refusal, order_refusal, order_answer, order_list}

unfoldable pub opened : Unit {0}
unfolding or_else first count has meets area.opened blocks ready without grow listed rising committed_count order_of order_exists list_refusal order_refusal order_answer order_list
opened = tt
