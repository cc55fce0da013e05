-- One name that opens every definition of arguments and of what is said of them, for worked cases. Assumes nothing.
use Rattle.text.specs.Opened as text
use Rattle.guard.specs.Opened as guard
use Rattle.arguments.specs.Readings.{negative, upwards, downwards, reading, typed}
use Rattle.arguments.specs.Words.{none_words, noun, many_words, odd_words, whole_cells, count_words, shown_byte, shown_word, no_word_text, no_word_words, argument_words, with_word}

unfoldable pub opened : Unit {0}
unfolding text.opened guard.opened negative upwards downwards reading typed none_words noun many_words odd_words whole_cells count_words shown_byte shown_word no_word_text no_word_words argument_words with_word
opened = tt
