-- One name that opens every definition of a guard, for worked cases. Assumes nothing.
use Rattle.base.specs.Words.{tabulate}
use Rattle.guard.specs.Signed.{signed}
use Rattle.guard.specs.Guards.{pairs_for, admits, full_end}

unfoldable pub opened : Unit {0}
unfolding tabulate signed pairs_for admits full_end
opened = tt
