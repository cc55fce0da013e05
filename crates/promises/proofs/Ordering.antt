-- The listed order of a batch that was run to its end: it exists, it names each committed program once and nobody else, and under Rule 1 it rises.
-- Assumes nothing.
use Prim.Native.Nat.{ℕ, ◌≤◌}
use mathlib.Core.Path.{◌≡◌, refl, sym, ◌∙◌}
use mathlib.Core.Bool.{true, false, ◌&&◌}
use mathlib.Core.List.{List}
use lib.Dec.{ltb}
use lib.ListN.{length}
use borrow.Author.Tests.{le-leb}
use Rattle.base.specs.Words.{has, distinct}
use Rattle.image.specs.Refusals.{passed}
use Rattle.image.specs.Image.{count_of, second_rule}
use Rattle.image.proofs.Refusing.{goes_on, first_passes}
use Rattle.slot.specs.declared.Group.TheVariants.{Committed}
use Rattle.area.specs.Layout.{in_group}
use Rattle.area.specs.Checks.{ended_refusal}
use Rattle.area.proofs.Checks.{checked_is}
use Rattle.listing.specs.Order.{rising}
use Rattle.listing.proofs.Rising.{rising_ext}
use Rattle.listing.specs.Listing.{order_of, list_refusal, order_refusal}
use Rattle.promises.specs.Paper.{batch_of}
use Rattle.promises.specs.Laid.{World}
use Rattle.promises.specs.History.{RunToEnd, is_over}
use Rattle.promises.proofs.AtEnd.{paper_ends, end_sized, end_committed, end_order, end_exists, end_distinct, end_members}
use Rattle.promises.proofs.PaperOrder.{order_rising}

-- The list names each committed program once and nothing else.
pub list_names : (image t g : List ℕ) (w : World) → RunToEnd image t g w
    → (let l = order_of (length t) (count_of image) w.area in
    (distinct l ≡ true) × ((k : ℕ) → has k l ≡ ltb k (count_of image) && in_group Committed (length t) w.area k))
list_names image t g w run = (end_distinct (paper_ends run), end_members (paper_ends run))

-- 12, "no order exists (never for an area that these calls made on this image)": any list with room for n entries gets the order.
pub order_exists_lem : (image t g : List ℕ) (w : World) → RunToEnd image t g w → (list : List ℕ) → count_of image ≤ length list
    → order_refusal image w.table g w.area list ≡ passed
unfolding order_refusal list_refusal ended_refusal is_over
order_exists_lem image t g w run list room =
    let end = paper_ends run in
    let ended = first_passes refl (checked_is image w.table g w.area end.checks end.pairs) (goes_on _ run.over refl) in
    let listed = first_passes refl (sym ended) (goes_on _ (le-leb _ _ room) refl) in
    sym (first_passes refl (sym listed) (goes_on _ (rw (end_sized end) (end_exists end)) refl))

-- "Under Rule 1, for an area that these calls made on this image, this is rising number order, which is proved."
pub order_rises : (image t g : List ℕ) (w : World) → RunToEnd image t g w → second_rule image ≡ false
    → order_of (length t) (count_of image) w.area ≡ rising (in_group Committed (length t) w.area) (count_of image)
order_rises image t g w run rule1 =
    let end = paper_ends run in
    end_order end ∙ order_rising (batch_of image t g) rule1 ∙ rising_ext _ _ (count_of image) (λ k l. sym (end_committed end k l))
