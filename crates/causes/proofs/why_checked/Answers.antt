-- The program has a slot, and the cells that settling finds have marks that name somebody. Assumes nothing.
use Rattle.area.proofs.Checks.{program_slotted}
use Rattle.causes.proofs.Naming.{verdict_names}
use Rattle.causes.proofs.why_checked.Goals as goal

pub judge-verdict-requires : goal.judge-verdict-requires
judge-verdict-requires c = program_slotted _ _ _ c.requires.0 _ c.requires.1

pub with_cause-requires : goal.with_cause-requires
with_cause-requires c = rw c.judge-verdict.ensures (verdict_names _ _ _ (program_slotted _ _ _ c.requires.0 _ c.requires.1) _)
