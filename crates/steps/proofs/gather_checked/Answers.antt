-- The run leaves its slot; the cells that the two reservations read back out of it are those that the run kept. Assumes nothing.
use Rattle.steps.proofs.Says.{after_reads}
use Rattle.steps.proofs.gather_checked.Goals as goal

pub returns : goal.returns
returns c = after_reads _ _ _ _ _ c.requires.0 c.requires.1 _ _ c.run_into-run.ensures _ c.reserve.ensures _ c.reserve-2.ensures
