-- No second result: for each public function, two outcomes that meet its contract at the same arguments look the same. Assumes nothing.
use Rattle.std.proofs.Common.{sym, ◌∙◌}
use Rattle.base.specs.Unique.{Unique}
use Rattle.guard.proofs.less.Kinds as less_kinds
use Rattle.guard.proofs.less.Reads as less
use Rattle.guard.proofs.pairs_for.Kinds as pairs_for_kinds
use Rattle.guard.proofs.pairs_for.Reads as pairs_for
use Rattle.guard.proofs.admits.Kinds as admits_kinds
use Rattle.guard.proofs.admits.Reads as admits
use Rattle.guard.proofs.full_range.Kinds as full_range_kinds
use Rattle.guard.proofs.full_range.Reads as full_range

pub less_unique : Unique 0 less_kinds.ps less_kinds.r (λ κs x s. x) less.Post
less_unique κs a x y s t p q = p ∙ sym q

pub pairs_for_unique : Unique 1 pairs_for_kinds.ps pairs_for_kinds.r (λ κs x s. x) pairs_for.Post
pairs_for_unique κs a x y s t p q = p ∙ sym q

pub admits_unique : Unique 1 admits_kinds.ps admits_kinds.r (λ κs x s. x) admits.Post
admits_unique κs a x y s t p q = p ∙ sym q

pub full_range_unique : Unique 1 full_range_kinds.ps full_range_kinds.r (λ κs x s. s.0.now) full_range.Post
full_range_unique κs a x y s t p q = p ∙ sym q
