-- One name that opens every definition of a run, for worked cases. Assumes nothing.
use Rattle.guard.specs.Opened as guard
use Rattle.slot.specs.Opened as slot
use Rattle.machine.specs.Asks.{ask_of, ask_at}
use Rattle.machine.specs.Runs.{perform, seen, follow, run_from, run_by, slot_of}

unfoldable pub opened : Unit {0}
unfolding guard.opened slot.opened ask_of ask_at perform seen follow run_from run_by slot_of
opened = tt
