-- The word's place in the table, if it stands there. Assumes nothing.
use mathlib.Core.Path.{◌≡◌, refl, sym, ◌∙◌}
use borrow.Author.Rules.{rules}
use borrow.Author.Tests.{tests}
use Rattle.std.specs.Prelude.{List, ℕ}
use Rattle.std.specs.Borrow.{Bor}
use Rattle.std.specs.Str.{bytes_eq}
use Rattle.std.proofs.lemmas.Iterator.{YieldsList-from_slice}
use Rattle.std.proofs.lemmas.Iterator.Search.{position_from_yields_List}
use Rattle.sheet.specs.Sheet.{names}
use Rattle.sheet.specs.Reading.{named}
use Rattle.sheet.proofs.Names.{named_in}
use Rattle.sheet.proofs.reading.operation_of.Goals as goal
use Rattle.sheet.proofs.reading.operation_of.Goals.{After-position}

found : (c : After-position) → c.position.result ≡ named c.args.word.now
unfolding names
found c =
    position_from_yields_List (λ (name : Bor (List ℕ)). bytes_eq c.args.word.now name.now) _ _ _ c.position.ensures.ran
    (YieldsList-from_slice c.iter.result.rest.now refl) (λ x b q k. search (rules, tests))
    ∙ named_in c.args.word.now c.iter.result.rest.now (rw c.iter.ensures.rest)

pub returns-in_err-op : goal.returns-in_err-op
returns-in_err-op c = rw c.from_residual.ensures (sym c.in_err-op.was ∙ found (goal.at.returns-in_err-op c).After-position)

pub returns : goal.returns
returns c = sym c.in_ok-op.was ∙ found (goal.at.returns c).After-position
