-- `is_good` meets its contract: of a known operation the bits and the skip decide. Assumes nothing.
use native.Mathlib.Omega.{arith}
use Rattle.image.proofs.Bytes.{bits_decide}
use Rattle.image.proofs.instruction.Instruction.is_good.Goals as goal

pub returns : goal.returns
returns c =
    let a = c.args.self in
    bits_decide a.op a.a a.b a.c c.args.i c.args.m c.bits_of-bits.ensures c.if-bits-eq-UNKNOWN.false (omega arith) (omega arith) (omega arith) (omega arith)
    c.packed.ensures c.if-packed-bits-ne0.false c.skip_good.ensures
