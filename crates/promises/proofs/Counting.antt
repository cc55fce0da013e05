-- The counts that the calls return are the states' own, for any image, table and area. Assumes nothing.
use Prim.Native.Nat.{ℕ, ◌+◌}
use mathlib.Core.Path.{◌≡◌, refl, ◌∙◌, ap}
use mathlib.Core.Bool.{true}
use mathlib.Core.List.{List, ◌++◌}
use lib.ListN.{length, drop, length-append}
use borrow.Author.Tests.{eqb-true}
use Rattle.std.specs.Prelude.{Ok, Err}
use Rattle.base.specs.Words.{count}
use Rattle.base.proofs.Counts.{count_all}
use Rattle.image.specs.Limits.{head_bytes}
use Rattle.image.specs.Image.{number_at, count_of}
use Rattle.image.specs.declared.refusals.Refusal.{Refusal}
use Rattle.image.specs.declared.refusals.Refusal.TheVariants.{NoOrder}
use Rattle.image.specs.Refusals.{none, numbers_of, passed, unless, numbers_of_count}
use Rattle.image.proofs.Refusing.{Checks, none_fails, none_after, unless_done}
use Rattle.slot.specs.declared.Group.TheVariants.{Carried}
use Rattle.area.specs.Layout.{in_group}
use Rattle.listing.specs.Listing.{committed_count, order_of, order_exists, list_refusal, order_refusal, order_answer}
use Rattle.writer.specs.Joined.{number, joined, image_of}
use Rattle.carry.specs.Next.{carried_count, next_programs, next_image, next_refusal, next_answer, next_out}
use Rattle.writer.proofs.Programs.{picked_count, length_image}
use Rattle.carry.proofs.Nexts.{next_count}

-- where the order is not refused, it has as many as are committed
not_refused : (image t g a list : List ℕ) → order_refusal image t g a list ≡ passed
    → length (order_of (length t) (count_of image) a) ≡ committed_count (length t) (count_of image) a
unfolding order_refusal order_exists
not_refused image t g a list e =
    eqb-true _ _ (none_fails (order_exists (length t) (count_of image) a) NoOrder _ (none_after (list_refusal image t g a list) _ e).1).0

-- the numbers of an answer, refused or done
counts_unless : (r : Checks Refusal) (k n : ℕ) → (r ≡ passed → k ≡ n)
    → numbers_of_count (unless r Err (Ok k)) ≡ unless r (λ e. record { refusal = numbers_of e; count = 0 }) (record { refusal = none; count = n })
unfolding unless
counts_unless (Ok done) k n q = ap (λ (c : ℕ). numbers_of_count (Ok c)) (q refl)
counts_unless (Err e) k n q = refl

-- the carried programs and the fresh ones; and the bytes that they, their offsets and the header take
next_many : (T : ℕ) (image a fresh : List ℕ) → length (next_programs T image a fresh) ≡ carried_count T (count_of image) a + count_of fresh
unfolding next_programs carried_count
next_many T image a fresh =
    rw (length-append, picked_count (in_group Carried T a) image (count_of image), picked_count (λ k. true) fresh (count_of fresh))
    (ap (λ (m : ℕ). count (in_group Carried T a) (count_of image) + m) (count_all (λ k. true) (count_of fresh) (λ i l. refl)))

next_bytes : (T : ℕ) (image a fresh : List ℕ)
    → length (next_image T image a fresh)
    ≡ head_bytes (carried_count T (count_of image) a + count_of fresh) + length (joined (next_programs T image a fresh))
unfolding next_image
next_bytes T image a fresh = rw (length_image, next_many T image a fresh)

-- the count stands in the first two bytes, whatever comes after the image
count_in_front : (T : ℕ) (image a fresh rest : List ℕ) → count_of (next_image T image a fresh ++ rest) ≡ count_of (next_image T image a fresh)
unfolding number_at next_image image_of number
count_in_front T image a fresh rest = refl

-- the order returns "its count", and "a refusal returns its number, 0 for every other result"
pub order_counts : (image t g a list : List ℕ)
    → numbers_of_count (order_answer image t g a list)
    ≡ unless (order_refusal image t g a list) (λ r. record { refusal = numbers_of r; count = 0 })
    (record { refusal = none; count = committed_count (length t) (count_of image) a })
unfolding order_answer
order_counts image t g a list = counts_unless (order_refusal image t g a list) _ _ (not_refused image t g a list)

-- the next image returns "its length": the header and the offsets for the carried and the fresh programs, and these programs' bytes
pub next_length : (image t g a fresh out : List ℕ)
    → numbers_of_count (next_answer image t g a fresh out)
    ≡ unless (next_refusal image t g a fresh out) (λ r. record { refusal = numbers_of r; count = 0 })
    (record {
      refusal = none;
      count = head_bytes (carried_count (length t) (count_of image) a + count_of fresh) + length (joined (next_programs (length t) image a fresh));
    })
unfolding next_answer
next_length image t g a fresh out = counts_unless (next_refusal image t g a fresh out) _ _ (λ e. next_bytes (length t) image a fresh)

-- the next image has as many programs as are carried, and the fresh ones
pub next_counts : (image t g a fresh out : List ℕ) → next_refusal image t g a fresh out ≡ passed
    → count_of (next_out image t g a fresh out) ≡ carried_count (length t) (count_of image) a + count_of fresh
unfolding next_out
next_counts image t g a fresh out e =
    rw (unless_done (next_refusal image t g a fresh out) (λ r. out) _ e)
    (count_in_front (length t) image a fresh (drop (length (next_image (length t) image a fresh)) out) ∙ next_count image t g a fresh out e)
