-- The place of the first separator, if there is one. Assumes nothing.
use mathlib.Core.Path.{◌≡◌, sym, ◌∙◌}
use borrow.Author.Rules.{rules}
use borrow.Author.Tests.{tests}
use lib.Dec.{eqb}
use lib.ListN.{drop}
use Rattle.std.specs.Prelude.{position}
use Rattle.std.proofs.lemmas.Iterator.{YieldsList-from_slice}
use Rattle.std.proofs.lemmas.Iterator.Search.{position_from_yields_List}
use Rattle.sheet.proofs.Parts.{rest_whole, ends_found, ends_last}
use Rattle.sheet.proofs.reading.part_end.Goals as goal
use Rattle.sheet.proofs.reading.part_end.Goals.{After-position}

found : (c : After-position) → c.position.result ≡ position (λ x. eqb x c.args.separator) (drop c.args.at c.args.text.now)
found c =
    position_from_yields_List (λ x. eqb x c.args.separator) _ _ _ c.position.ensures.ran
    (YieldsList-from_slice (drop c.args.at c.args.text.now) (c.iter.ensures.rest ∙ rest_whole c.args.text.now c.args.at)) (λ x b q k. search (rules, tests))

pub returns-in-Some : goal.returns-in-Some
returns-in-Some c = ends_found _ _ _ c.requires (sym (found (goal.at.returns-in-Some c).After-position) ∙ c.in-Some.is)

pub returns-in-None : goal.returns-in-None
returns-in-None c = ends_last _ _ _ c.requires (sym (found (goal.at.returns-in-None c).After-position) ∙ c.in-None.is)
