-- One name that opens every definition of the prefix, for worked cases. Assumes nothing.
use Rattle.text.specs.Filled.{texts}
use Rattle.prefix.specs.Prefix.{cell_at, prefix}

unfoldable pub opened : Unit {0}
unfolding texts cell_at prefix
opened = tt
