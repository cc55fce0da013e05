-- One name that opens every definition of what the two programs print, for worked cases. Assumes nothing.
use Rattle.refused.specs.Opened as refused
use Rattle.from_sheet.specs.Opened as from_sheet
use Rattle.from_image.specs.Opened as from_image
use Rattle.converted.specs.Converted.{unwritten_line, image_page, said_of, sheet_said, sheet_page}

unfoldable pub opened : Unit {0}
unfolding refused.opened from_sheet.opened from_image.opened unwritten_line image_page said_of sheet_said sheet_page
opened = tt
