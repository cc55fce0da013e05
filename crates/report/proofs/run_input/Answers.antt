-- The first cells and words are what the batch leaves. Assumes nothing.
use native.Mathlib.Omega.{arith}
use Rattle.std.proofs.lemmas.Grind.{common_steps}
use Rattle.image.specs.Refusals.{check}
use Rattle.input.specs.Prefix.{cells_of}
use Rattle.report.specs.Batch.{batch_of, input_refusal, guards_there}
use Rattle.report.proofs.run_input.Goals as goal

pub returns : goal.returns
unfolding batch_of input_refusal guards_there check cells_of
returns c =
    record {
      accepted = grind (arith, common_steps);
      cells_are = grind (arith, common_steps);
      cells_few = grind (arith, common_steps);
      prefix = grind (arith, common_steps);
      start = grind (arith, common_steps);
      cells_lie = grind (arith, common_steps);
      guards_lie = grind (arith, common_steps);
      words_lie = grind (arith, common_steps);
      guards = grind (arith, common_steps);
      leaves = record { table = grind (arith, common_steps); area = grind (arith, common_steps) };
    }
