-- One name that opens every definition, for worked cases. Assumes nothing.
use Rattle.base.specs.Words.{some, tabulate}
use Rattle.steps.specs.Opened as steps
use Rattle.listing.specs.Opened as listing
use Rattle.promises.specs.Paper.{gets_settled, touches, commits, reason, state_after, detail_after, installed, table_after}
use Rattle.promises.specs.Laid.{mark_on, slot_on, slots_to, area_on, table_on}
use Rattle.promises.specs.History.{after_step, played, opening, is_over}
use Rattle.promises.specs.Serial.{serial_table, serial_runs}
use Rattle.promises.specs.Causes.{is_carried_in, behind}

unfoldable pub opened : Unit {0}
unfolding some tabulate steps.opened listing.opened gets_settled touches commits reason state_after detail_after installed table_after mark_on slot_on
    slots_to area_on table_on after_step played opening is_over serial_table serial_runs is_carried_in behind
opened = tt
