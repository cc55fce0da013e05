-- One name that opens every definition of the slot, for worked cases. Assumes nothing.
use Rattle.base.specs.Words.{words}
use Rattle.slot.specs.States.{has_run, is_end, can_settle, is_committed, is_carried, is_settled, is_done, is_in}
use Rattle.slot.specs.Log.{place_in, once, loaded, with_read, with_store, layout, log_of, newest_in}

unfoldable pub opened : Unit {0}
unfolding words has_run is_end can_settle is_committed is_carried is_settled is_done is_in
    place_in once loaded with_read with_store layout log_of newest_in
opened = tt
