-- One name that opens every definition of the input, for worked cases. Assumes nothing.
use Rattle.base.specs.Words.{tabulate}
use Rattle.image.specs.Image.{number_at}
use Rattle.input.specs.Prefix.{word_at, prefix_good, cells_of}

unfoldable pub opened : Unit {0}
unfolding tabulate number_at word_at prefix_good cells_of
opened = tt
