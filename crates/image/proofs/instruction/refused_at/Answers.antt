-- `refused_at` meets its contract: what is found is given its place. Assumes nothing.
use borrow.Author.Rules.{rules}
use Rattle.image.specs.declared.refusals.Fault.{Fault}
use Rattle.image.specs.declared.refusals.BadInstruction.{BadInstruction}
use Rattle.image.specs.Refusals.{placed}
use Rattle.image.proofs.Refusing.{given_through}
use Rattle.image.proofs.instruction.refused_at.Goals as goal

pub returns : goal.returns
unfolding placed
returns c =
    let place : Fault → BadInstruction = λ f. record { fault = f; program = c.args.p; instruction = c.args.i } in
    given_through place c.fault_at.ensures c.map_err.ensures.cases (λ e f made. search rules)
