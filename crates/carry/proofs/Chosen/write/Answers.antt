-- Each piece begins where the one before it ended: the header, the ends of both sources, the bytes of both. Assumes nothing.
use native.Mathlib.Omega.{arith}
use Rattle.text.proofs.Pages.{page_done}
use Rattle.carry.proofs.Pieces.{wrote_page, begun, new_ends_room, old_bytes_room, new_bytes_room, all_put}
use Rattle.carry.proofs.Chosen.write.Goals as goal

pub put_ends-requires : goal.put_ends-requires
put_ends-requires c =
    let n = c.new-page.ensures in
    let b = begun c.requires.0 n.same n.front c.requires.1 c.put_header.ensures c.rule.ensures in
    (c.requires.0.new, new_ends_room b c.head_bytes-first.ensures c.put_ends-middle.ensures)

pub put_bodies-requires : goal.put_bodies-requires
put_bodies-requires c =
    let n = c.new-page.ensures in
    let b = begun c.requires.0 n.same n.front c.requires.1 c.put_header.ensures c.rule.ensures in
    (c.requires.0.old, old_bytes_room b c.head_bytes-first.ensures c.put_ends-middle.ensures c.put_ends.ensures)

pub put_bodies-requires-2 : goal.put_bodies-requires-2
put_bodies-requires-2 c =
    let n = c.new-page.ensures in
    let b = begun c.requires.0 n.same n.front c.requires.1 c.put_header.ensures c.rule.ensures in
    (c.requires.0.new, new_bytes_room b c.head_bytes-first.ensures c.put_ends-middle.ensures c.put_ends.ensures c.put_bodies.ensures)

pub returns : goal.returns
returns c =
    let n = c.new-page.ensures in
    let b = begun c.requires.0 n.same n.front c.requires.1 c.put_header.ensures c.rule.ensures in
    let w = all_put b c.head_bytes-first.ensures c.put_ends-middle.ensures c.put_ends.ensures c.put_bodies.ensures c.put_bodies-2.ensures in
    wrote_page (page_done n.same n.front b.room w (grind (arith, w.same_reference)) c.end.ensures)
