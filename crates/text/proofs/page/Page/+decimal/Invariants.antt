-- The measure is the number.
use Rattle.text.proofs.page.Page.+decimal.Given as goal

abbrev pub decreases-decimal : goal.decreases-decimal
decreases-decimal l = l.n
