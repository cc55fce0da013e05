-- The count, the rule and a 0, the offsets, the instructions: four pieces, one after another. Assumes nothing.
use mathlib.Core.Path.{ap}
use native.Mathlib.Omega.{arith}
use lib.ListN.{length}
use borrow.Author.Rules.{rules}
use Rattle.text.specs.Paper.{Put}
use Rattle.text.proofs.Pages.{put_more}
use Rattle.writer.proofs.Programs.{length_number}
use Rattle.from_sheet.specs.FromSheet.{image_of_sheet}
use Rattle.from_sheet.proofs.Pieces.{image_pieces, pieces_fit}
use Rattle.from_sheet.proofs.writing.write_image.Goals as goal

pub put_number-requires : goal.put_number-requires
put_number-requires c = record { fits = omega (arith, pieces_fit c.requires, length_number c.args.programs, ap length c.new-page.ensures.same) }

pub bytes-requires : goal.bytes-requires
bytes-requires c = record { fits = omega (arith, pieces_fit c.requires, length_number c.args.programs, ap length c.new-page.ensures.same) }

pub returns : goal.returns
returns c =
    let put : Put c.new-page.result (image_of_sheet c.args.sheet.now) c.put_bodies.new.page =
    rw (image_pieces c.requires, ← c.rule_of.ensures, ← c.head_bytes.ensures)
    (put_more (put_more (put_more c.put_number.ensures c.bytes.ensures) c.put_offsets.ensures) c.put_bodies.ensures) in
    search (rules, put)
