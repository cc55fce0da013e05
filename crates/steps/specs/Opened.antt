-- One name that opens every definition of the steps, for worked cases. Assumes nothing.
use Rattle.machine.specs.Opened as machine
use Rattle.area.specs.Opened as area
use Rattle.steps.specs.Opening.{open_area}
use Rattle.steps.specs.Gathering.{step_refusal, waits, gather_refusal, reserved, gathered_by, gather_answer, gather_area}
use Rattle.steps.specs.Settling.{is_ready, settle_refusal, by_rule1, by_rule2, decided, verdict, with_cells, settled_table, settled_area, settle_answer, settle_table, settle_area}

unfoldable pub opened : Unit {0}
unfolding machine.opened area.opened open_area step_refusal waits gather_refusal reserved gathered_by gather_answer gather_area is_ready settle_refusal by_rule1 by_rule2 decided verdict with_cells settled_table settled_area settle_answer settle_table settle_area
opened = tt
