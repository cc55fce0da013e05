-- The program's lists are in the table. Assumes nothing.
use Rattle.area.proofs.Checks.{program_slotted}
use Rattle.steps.proofs.settle_checked.Goals as goal

pub judge-requires : goal.judge-requires
judge-requires c = program_slotted _ _ _ c.requires.0 _ c.requires.1

pub store_committed-requires : goal.store_committed-requires
store_committed-requires c = program_slotted _ _ _ c.requires.0 _ c.requires.1
