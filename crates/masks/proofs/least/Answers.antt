-- A number's trailing zeros end at its lowest bit. Assumes nothing.
use Rattle.base.specs.Masks.{word_bits}
use Rattle.base.proofs.Masks.{trailing_bit}
use Rattle.masks.proofs.least.Goals as goal

pub returns : goal.returns
returns c = let t = trailing_bit word_bits c.args.mask c.requires.0 c.requires.1 in record { member = t.0; none_below = t.1 }
