-- The text behind the number and the noun has the limit for its number. Assumes nothing.
use Rattle.text.proofs.Pages.{put_more}
use Rattle.arguments.specs.Words.{many_words}
use Rattle.arguments.proofs.put_many.Goals as goal

pub returns : goal.returns
unfolding many_words
returns c = put_more (put_more c.decimal.ensures c.put_noun.ensures) (rw c.most_arguments.ensures.0 at c.filled.ensures)
