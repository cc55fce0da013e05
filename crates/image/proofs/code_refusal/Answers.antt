-- `code_refusal` meets its contract: the part that is looked at lies in the image, and past the last program nothing bad was found. Assumes nothing.
use mathlib.Core.Path.{◌≡◌, ◌∙◌}
use native.Mathlib.Omega.{arith}
use Rattle.image.specs.Image.{count_of}
use Rattle.image.proofs.Laws.{lies, no_code_refusal}
use Rattle.image.proofs.code_refusal.Goals as goal

pub part_of-part-requires : goal.part_of-part-requires
part_of-part-requires c = (lies _ c.requires.0 _ (omega arith), omega arith)

pub returns-after-programs : goal.returns-after-programs
returns-after-programs c =
    let bytes = c.args.bytes.now in
    let e : c.programs.p ≡ count_of bytes = omega arith in
    c.programs.invariant.1 ∙ no_code_refusal bytes c.programs.p e c.programs.invariant.2
