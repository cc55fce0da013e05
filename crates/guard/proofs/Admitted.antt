-- The full range lets every word in. Assumes nothing.
use Rattle.std.proofs.Common.{◌≡◌, ℕ, ◌<◌, true, List}
use Rattle.guard.specs.Guards.{admits, FullAt}
use Rattle.guard.proofs.Laws.{word, none_lower, none_higher}

pub full_admits : (g : List ℕ) (c v : ℕ) → FullAt g c → v < word → admits g c v ≡ true
unfolding admits
full_admits g c v f h = rw (f.low_is, f.high_is, none_lower v h, none_higher v h)
