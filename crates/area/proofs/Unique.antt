-- No second result, of the one function here that the face passes on. Assumes nothing.
use mathlib.Core.Path.{sym, ◌∙◌}
use Rattle.base.specs.Unique.{Unique}
use Rattle.area.proofs.area_words.Kinds as kinds
use Rattle.area.proofs.area_words.Reads as reads

pub area_words_unique : Unique 0 kinds.ps kinds.r (λ κs x s. x) reads.Post
area_words_unique κs a x y s t p q = p ∙ sym q
