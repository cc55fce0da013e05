-- One name that opens every definition of what is said of a refusal, for worked cases. Assumes nothing.
use Rattle.text.specs.Opened as text
use Rattle.image.specs.Opened as image
use Rattle.refused.specs.Refused.{refused_line, refused_at_line}
use Rattle.refused.specs.Where.{wrong_text, where_text, where_at_line, said_of, image_where}

unfoldable pub opened : Unit {0}
unfolding text.opened image.opened refused_line refused_at_line wrong_text where_text where_at_line said_of image_where
opened = tt
