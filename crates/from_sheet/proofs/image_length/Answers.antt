-- There are not too many programs, and the image is not too long. Assumes nothing.
use native.Mathlib.Omega.{arith}
use borrow.Author.Rules.{rules}
use Rattle.from_sheet.proofs.Says.{sheet_shown, few_programs_lem, image_long, image_short}
use Rattle.from_sheet.proofs.image_length.Goals as goal

pub head_bytes-requires : goal.head_bytes-requires
head_bytes-requires c = omega (arith, few_programs_lem c.requires.0 c.requires.1)

pub overflow_mul-result : goal.overflow_mul-result
overflow_mul-result c = search (rules, image_long c.requires.0, image_short _ (sheet_shown _ c.requires.1).1)

pub overflow_add-result : goal.overflow_add-result
overflow_add-result c = search (rules, c.head_bytes.ensures, image_long c.requires.0, image_short _ (sheet_shown _ c.requires.1).1)

pub returns : goal.returns
returns c = omega (arith, c.head_bytes.ensures, image_long c.requires.0)
