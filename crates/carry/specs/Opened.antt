-- One name that opens every definition of the next image, for worked cases. Assumes nothing.
use Rattle.base.specs.Words.{count}
use Rattle.area.specs.Opened as area
use Rattle.writer.specs.Opened as writer
use Rattle.carry.specs.Next.{carried_count, next_programs, next_image, lent_refusal, size_refusal, next_refusal, next_answer, next_out}

unfoldable pub opened : Unit {0}
unfolding count area.opened writer.opened carried_count next_programs next_image lent_refusal size_refusal next_refusal next_answer next_out
opened = tt
