-- One name that opens every definition of text, for worked cases. Assumes nothing.
use Rattle.text.specs.Decimal.{behind, digits_of, decimal, is_digit, all_digits, leads, is_number, value_from, numeral}
use Rattle.text.specs.Filled.{shown, left, filled, texts}
use Rattle.text.specs.Writing.{pasted}

unfoldable pub opened : Unit {0}
unfolding behind digits_of decimal is_digit all_digits leads is_number value_from numeral shown left filled texts pasted
opened = tt
