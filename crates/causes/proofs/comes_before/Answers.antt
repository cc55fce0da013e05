-- The checks have shown that the program has a slot. Assumes nothing.
use mathlib.Core.Path.{sym}
use Rattle.area.proofs.Checks.{program_slotted}
use Rattle.causes.proofs.Refusals.{ask_shows}
use Rattle.causes.proofs.comes_before.Goals as goal

pub before_whom-requires : goal.before_whom-requires
before_whom-requires c =
    let shown = ask_shows _ _ _ _ _ (sym c.in_ok-ask_refusal.ensures) in
    program_slotted _ _ _ shown.0 _ shown.1
