-- One name that opens every definition of an image that is written, for worked cases. Assumes nothing.
use Rattle.image.specs.Opened as image
use Rattle.writer.specs.Joined.{number, joined, ends, offsets, image_of}
use Rattle.writer.specs.Picked.{pick, picked}

unfoldable pub opened : Unit {0}
unfolding image.opened number joined ends offsets image_of pick picked
opened = tt
