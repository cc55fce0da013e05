-- What the calls answer fits 32 bits: an order has at most 64 entries, an image at most 8326 bytes, a sheet at most 34695. Assumes nothing.
use Prim.Native.Nat.{ℕ, ◌≤◌, ◌<◌, ◌^◌}
use mathlib.Core.Path.{◌≡◌, sym}
use mathlib.Core.List.{List}
use native.Mathlib.Omega.{arith}
use lib.Dec.{leb}
use lib.ListN.{length, get_or}
use borrow.Author.Tests.{leb-true, eqb-true}
use Rattle.std.specs.Prelude.{Ok, Err}
use Rattle.base.specs.Words.{count}
use Rattle.base.proofs.Bools.{and_right}
use Rattle.base.proofs.Counts.{count_le}
use Rattle.image.specs.Limits.{min_bytes, max_bytes}
use Rattle.image.specs.declared.refusals.Refusal.TheVariants.{NoOrder}
use Rattle.image.specs.Refusals.{passed, numbers_of_count}
use Rattle.image.specs.Image.{count_of, size_good}
use Rattle.image.proofs.Laws.{accepted}
use Rattle.image.proofs.Refusing.{none_fails, none_after, unless_either}
use Rattle.slot.specs.declared.Group.TheVariants.{Committed}
use Rattle.area.specs.Layout.{in_group}
use Rattle.listing.specs.Listing.{committed_count, order_of, order_exists, list_refusal, order_refusal, order_answer}
use Rattle.listing.proofs.Orders.{list_shows}
use Rattle.carry.specs.Next.{next_image, next_refusal, next_answer}
use Rattle.carry.proofs.Nexts.{next_good}
use Rattle.from_image.specs.FromImage.{sheet_of_answer}
use Rattle.from_image.specs.Longest.{longest_sheet}
use Rattle.from_image.proofs.Longest.{sheet_small}

few_listed : (image t g a list : List ℕ) → order_refusal image t g a list ≡ passed → length (order_of (length t) (count_of image) a) < 2 ^ 32
unfolding order_refusal order_exists committed_count
few_listed image t g a list e =
    let w = none_after (list_refusal image t g a list) _ e in
    let exists = (none_fails (order_exists (length t) (count_of image) a) NoOrder _ w.1).0 in
    let full = eqb-true (length (order_of (length t) (count_of image) a)) (count (in_group Committed (length t) a) (count_of image)) exists in
    omega (arith, full, count_le (in_group Committed (length t) a) (count_of image), (list_shows image t g a list w.0).0.programs)

pub order_small : (image t g a list : List ℕ) → (numbers_of_count (order_answer image t g a list)).count < 2 ^ 32
unfolding order_answer
order_small image t g a list =
    unless_either (λ x. (numbers_of_count x).count < 2 ^ 32) (order_refusal image t g a list) Err _ (λ r h. omega arith) (few_listed image t g a list)

short_next : (image t g a fresh out : List ℕ) → next_refusal image t g a fresh out ≡ passed → length (next_image (length t) image a fresh) < 2 ^ 32
unfolding size_good
short_next image t g a fresh out e =
    let i = next_image (length t) image a fresh in
    let size = (accepted i (next_good image t g a fresh out e)).size in
    omega (arith, leb-true (length i) max_bytes (and_right (leb min_bytes (length i)) (leb (length i) max_bytes) size))

pub next_small : (image t g a fresh out : List ℕ) → (numbers_of_count (next_answer image t g a fresh out)).count < 2 ^ 32
unfolding next_answer
next_small image t g a fresh out =
    unless_either (λ x. (numbers_of_count x).count < 2 ^ 32) (next_refusal image t g a fresh out) Err _ (λ r h. omega arith)
    (short_next image t g a fresh out)

pub sheet_of_small : (image out : List ℕ) → ((i : ℕ) → get_or image i 0 < 256) → {n : ℕ} → Ok n ≡ sheet_of_answer image out → n < 2 ^ 32
unfolding longest_sheet
sheet_of_small image out bytes {n} e =
    let short : n ≤ longest_sheet = rw (sym e) at (sheet_small image bytes out) in
    omega arith
