-- One name that opens every definition of a sheet, for worked cases. Assumes nothing.
use Rattle.base.specs.Words.{least}
use Rattle.text.specs.Opened as text
use Rattle.sheet.specs.Split.{onto, split, same}
use Rattle.sheet.specs.Sheet.{names, name_of, line_text, operation_of, is_up_to, program_line, rule_line, instruction_line, by_words, line_of, sheet_text}
use Rattle.sheet.specs.Sheet.{allowed, ended, bad_from, bad_line, rule_in, rule_of, leading, programs}

unfoldable pub opened : Unit {0}
unfolding least text.opened onto split same names name_of line_text operation_of is_up_to program_line rule_line instruction_line by_words line_of sheet_text allowed
    ended bad_from bad_line rule_in rule_of leading programs
opened = tt
