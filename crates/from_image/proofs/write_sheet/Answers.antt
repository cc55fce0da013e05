-- The rule's line, and behind it the programs. Assumes nothing.
use mathlib.Core.Path.{refl}
use borrow.Author.Rules.{rules}
use Rattle.text.specs.Paper.{Put, Fits}
use Rattle.text.proofs.Writing.{room_first}
use Rattle.text.proofs.Pages.{put_room, put_more}
use Rattle.image.specs.Image.{count_of}
use Rattle.from_image.specs.FromImage.{sheet_of_image}
use Rattle.from_image.proofs.Sheets.{sheet_text_lem, good_programs}
use Rattle.from_image.proofs.write_sheet.Goals as goal
use Rattle.from_image.proofs.write_sheet.Goals.{After-new-page}

fits : (c : After-new-page) → Fits c.new-page.result (sheet_of_image c.args.image.now)
fits c = rw (c.new-page.ensures.same, c.new-page.ensures.front) c.requires.1

pub put_rule_line-requires : goal.put_rule_line-requires
put_rule_line-requires c =
    let e = sheet_text_lem c.args.image.now {n = count_of c.args.image.now} refl c.rule.ensures in
    room_first _ _ (rw e at (fits (goal.at.put_rule_line-requires c).After-new-page))

pub put_programs-requires : goal.put_programs-requires
put_programs-requires c =
    let e = sheet_text_lem c.args.image.now c.count.ensures.0 c.rule.ensures in
    let room = rw e at (fits (goal.at.put_programs-requires c).After-new-page) in
    (good_programs c.args.image.now c.count.ensures.0 c.requires.0, put_room room c.put_rule_line.ensures)

pub returns : goal.returns
returns c =
    let put : Put c.new-page.result (sheet_of_image c.args.image.now) c.put_programs.new.page =
    rw (sheet_text_lem c.args.image.now c.count.ensures.0 c.rule.ensures) (put_more c.put_rule_line.ensures c.put_programs.ensures) in
    search (rules, put)
