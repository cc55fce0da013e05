-- A minus, and the digits of what the word lacks to 2^32. Assumes nothing.
use native.Mathlib.Omega.{arith}
use Rattle.std.proofs.lemmas.Grind.{common_steps}
use Rattle.sentences.proofs.Signs.{minus_sign}
use Rattle.sentences.proofs.put_signed.Goals as goal

pub returns : goal.returns
returns c = grind (arith, common_steps, minus_sign)
