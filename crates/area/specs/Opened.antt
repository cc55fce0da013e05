-- One name that opens every definition of the area, for worked cases. Assumes nothing.
use Rattle.image.specs.Opened as image
use Rattle.guard.specs.Opened as guard
use Rattle.slot.specs.Opened as slot
use Rattle.area.specs.Layout.{state_of, detail_of, slot_at, in_group, list_of, values_of, with_slot, with_state}
use Rattle.base.specs.Words.{least, has}
use Rattle.area.specs.Marks.{lower, reserve, earlier, hit, depends, shows, lowest_of, lower_cell, lowest, store_all}
use Rattle.area.specs.Checks.{table_good, size_is, all_below, list_good, slot_good, slots_good, words_good, states_from}
use Rattle.area.specs.Checks.{room_refusal, open_refusal, call_refusal, ended_refusal}

unfoldable pub opened : Unit {0}
unfolding least has image.opened guard.opened slot.opened state_of detail_of slot_at in_group list_of values_of with_slot with_state lower reserve earlier hit depends shows lowest_of lower_cell lowest store_all
    table_good size_is all_below list_good slot_good slots_good words_good states_from room_refusal open_refusal call_refusal ended_refusal
opened = tt
