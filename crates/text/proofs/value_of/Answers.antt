-- With what has been read in front, the bytes to come give the word's number, as far as 2^32. Assumes nothing.
use mathlib.Core.Path.{◌∙◌}
use native.Mathlib.Omega.{arith}
use Rattle.std.proofs.lemmas.Result.{err_from_is_err_and}
use Rattle.text.proofs.Reading.{read_next, read_none, read_end}
use Rattle.text.proofs.value_of.Goals as goal

pub returns-in_err-v : goal.returns-in_err-v
returns-in_err-v c =
    let p = err_from_is_err_and c.from_residual.result c.from_residual.ensures.1 in
    rw (p.1, p.2) (read_none c.args.word.now c.loop-byte.byte-index c.loop-byte.v (omega arith) _ c.in_err-v.ensures ∙ c.loop-byte.invariant.1)

pub loop-byte-preserved : goal.loop-byte-preserved
loop-byte-preserved c =
    let n = read_next c.args.word.now c.loop-byte.byte-index c.loop-byte.v (omega arith) _ c.in_ok-v.ensures in
    (n.0, n.1 ∙ c.loop-byte.invariant.1)

pub returns : goal.returns
returns c = read_end c.args.word.now c.loop-byte.byte-index _ (omega arith) c.loop-byte.invariant.0 ∙ c.loop-byte.invariant.1
