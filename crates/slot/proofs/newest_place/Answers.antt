-- The search goes from the end of the words. Assumes nothing.
use Rattle.std.proofs.Common.{◌≡◌, ℕ, Option, Some, None, refl, sym, ap, rules}
use Rattle.base.specs.Words.{words}
use Rattle.slot.specs.Log.{found_place, newest_in}
use Rattle.slot.proofs.Places.{newest_at, newest_none}
use Rattle.slot.proofs.newest_place.Goals as goal

pub returns : goal.returns
unfolding words
returns c = go c.rposition.result refl
  where
    go : (r : Option ℕ) → c.rposition.result ≡ r → r ≡ found_place (newest_in c.args.x (words c.args.at c.args.n c.args.slot.now))
    go (Some i) e = ap found_place (sym (newest_at c.args.x _ i (search rules) (search rules) (search rules)))
    go None e = ap found_place (sym (newest_none c.args.x _ (search rules)))
