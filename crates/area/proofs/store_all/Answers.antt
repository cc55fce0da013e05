-- The loop's invariant: the stores passed are done. Assumes nothing.
use native.Mathlib.Omega.{arith}
use Rattle.std.proofs.lemmas.Grind.{common_steps}
use Rattle.std.proofs.lemmas.Slice.Zip.{zip_turn}
use Rattle.base.specs.Words.{words}
use Rattle.base.proofs.Parts.{words_length, words_at}
use Rattle.area.proofs.Loops.{lent_words, store_more}
use Rattle.area.proofs.store_all.Goals as goal

pub bounds-table-cell : goal.bounds-table-cell
bounds-table-cell c =
    let a = c.args in
    let cells = lent_words a.cells a.count a.area.now in
    let values = lent_words a.values a.count a.area.now in
    let l = c.loop-cell in
    let stored = words a.cells a.count a.area.now in
    let turn = zip_turn stored (words a.values a.count a.area.now) l.yielded _ _ c.next.new.self _ (cc cells) (cc values) l.yielded_by _ c.in-Some.is
    c.next.ensures.steps in
    grind (arith, words_length, words_at, turn.0, turn.2 0, c.requires.in_table)

pub loop-cell-preserved : goal.loop-cell-preserved
loop-cell-preserved c =
    let a = c.args in
    let cells = lent_words a.cells a.count a.area.now in
    let values = lent_words a.values a.count a.area.now in
    let l = c.loop-cell in
    let stored = words a.cells a.count a.area.now in
    let turn = zip_turn stored (words a.values a.count a.area.now) l.yielded _ _ c.next.new.self _ (cc cells) (cc values) l.yielded_by _ c.in-Some.is
    c.next.ensures.steps in
    grind (arith, common_steps, words_length, words_at, store_more, turn.0, turn.2 0, turn.3 0)
