-- Each of the words that are lent is one of those that the definition counts. Assumes nothing.
use mathlib.Core.Path.{◌∙◌}
use lib.Dec.{ltb}
use Rattle.std.proofs.Common.{rules, tests}
use Rattle.std.proofs.lemmas.Iterator.{YieldsList-from_slice}
use Rattle.std.proofs.lemmas.Iterator.Search.{all_from_yields_List}
use Rattle.base.specs.Words.{words}
use Rattle.area.specs.Checks.{all_below}
use Rattle.area.proofs.Loops.{lent_words, all_lent}
use Rattle.area.proofs.all_below.Goals as goal

pub returns : goal.returns
unfolding all_below
returns c =
    let a = c.args in
    let lent = YieldsList-from_slice (words a.at a.count a.area.now) (c.iter.ensures.rest ∙ lent_words a.at a.count a.area.now) in
    all_from_yields_List (λ w. ltb w a.bound) _ _ _ c.all.ensures.ran lent (λ x b q k. search (rules, tests))
    ∙ all_lent a.at a.count a.area.now c.requires (λ w. ltb w a.bound)
