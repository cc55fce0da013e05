-- No second result: for each function, two results that meet its contract at the same arguments are the same. Assumes nothing.
use Rattle.std.proofs.Common.{inl, inr, ◌⊎◌, ◌≤◌, ◌≡◌, sym, ◌∙◌, ℕ, ◌<◌, arith}
use Rattle.std.proofs.lemmas.Bool.{cases_lt}
use Rattle.base.specs.Unique.{Unique}
use Rattle.base.specs.Masks.{Least}
use Rattle.base.proofs.Bools.{clash}
use Rattle.masks.proofs.has.Kinds as has_kinds
use Rattle.masks.proofs.has.Reads as has
use Rattle.masks.proofs.with_bit.Kinds as with_bit_kinds
use Rattle.masks.proofs.with_bit.Reads as with_bit
use Rattle.masks.proofs.count.Kinds as count_kinds
use Rattle.masks.proofs.count.Reads as count
use Rattle.masks.proofs.all.Kinds as all_kinds
use Rattle.masks.proofs.all.Reads as all
use Rattle.masks.proofs.least.Kinds as least_kinds
use Rattle.masks.proofs.least.Reads as least

pub has_unique : Unique 0 has_kinds.ps has_kinds.r (λ κs x s. x) has.Post
has_unique κs a x y s t p q = p ∙ sym q

pub with_bit_unique : Unique 0 with_bit_kinds.ps with_bit_kinds.r (λ κs x s. x) with_bit.Post
with_bit_unique κs a x y s t p q = p ∙ sym q

pub count_unique : Unique 0 count_kinds.ps count_kinds.r (λ κs x s. x) count.Post
count_unique κs a x y s t p q = p.0 ∙ sym q.0

pub all_unique : Unique 0 all_kinds.ps all_kinds.r (λ κs x s. x) all.Post
all_unique κs a x y s t p q = p ∙ sym q

one_least : (members x y : ℕ) → Least members x → Least members y → x ≡ y
one_least members x y p q = go (cases_lt x y) (cases_lt y x)
  where
    go : (x < y) ⊎ (y ≤ x) → (y < x) ⊎ (x ≤ y) → x ≡ y
    go (inl l) d = clash p.member (q.none_below x l)
    go (inr l) (inl m) = clash q.member (p.none_below y m)
    go (inr l) (inr m) = omega arith

pub least_unique : Unique 0 least_kinds.ps least_kinds.r (λ κs x s. x) least.Post
least_unique κs a x y s t p q = one_least _ x y p q
