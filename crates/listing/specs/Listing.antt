-- The call for the listed order: the order that an area's slots give, and what the call answers and leaves (document 01, "What each refusal says").
-- Assumes nothing.
use Rattle.std.specs.Prelude.{◌≡◌, Bool, cond, List, ◌++◌, ℕ, eqb, leb, length, drop, Result, Ok, Err}
use Rattle.base.specs.Words.{count}
use Rattle.image.specs.declared.refusals.Refusal.{Refusal}
use Rattle.image.specs.declared.refusals.Refusal.TheVariants as refusal
use Rattle.image.specs.Refusals.{passed, check, after, unless}
use Rattle.image.specs.Image.{count_of}
use Rattle.slot.specs.declared.Group.TheVariants.{Committed}
use Rattle.area.specs.Layout.{in_group, reads_of, stores_of}
use Rattle.area.specs.Checks.{ended_refusal}
use Rattle.listing.specs.Order.{listed}

-- how many programs are committed
unfoldable pub committed_count : ℕ → ℕ → List ℕ → ℕ
committed_count T n a = count (in_group Committed T a) n

-- the listed order of an area for T cells and n programs
unfoldable pub order_of : ℕ → ℕ → List ℕ → List ℕ
order_of T n a = listed n n (λ k. reads_of T k a) (λ k. stores_of T k a) (in_group Committed T a)

-- there is one where the taking gets through: all committed programs are in it
unfoldable pub order_exists : ℕ → ℕ → List ℕ → Bool
order_exists T n a = eqb (length (order_of T n a)) (committed_count T n a)

-- checks 1 to 7; 9, "Order, next image: some state 0 or 1"; 10, "order list under n entries"
unfoldable pub list_refusal : (image t g a : List ℕ) → List ℕ → Result (Unit {0}) Refusal
list_refusal image t g a list = after (ended_refusal image t g a) (check (leb (count_of image) (length list)) refusal.TooShort passed)

-- and then 12, "no order exists"
unfoldable pub order_refusal : (image t g a : List ℕ) → List ℕ → Result (Unit {0}) Refusal
order_refusal image t g a list = after (list_refusal image t g a list) (check (order_exists (length t) (count_of image) a) refusal.NoOrder passed)

unfoldable pub order_answer : (image t g a : List ℕ) → List ℕ → Result ℕ Refusal
order_answer image t g a list =
    unless (order_refusal image t g a list) Err (Ok (length (order_of (length t) (count_of image) a)))

-- "The list beyond the committed count .. untouched": its first entries are the order
abbrev pub overwritten : List ℕ → List ℕ → List ℕ
overwritten new old = new ++ drop (length new) old

unfoldable pub order_list : (image t g a : List ℕ) → List ℕ → List ℕ
order_list image t g a list = unless (order_refusal image t g a list) (λ r. list) (overwritten (order_of (length t) (count_of image) a) list)

-- The contract of the call.
pub record OrderSays (image t g a list : List ℕ) (r : Result ℕ Refusal) (list' : List ℕ) : Type 0 where
  pub answer : r ≡ order_answer image t g a list
  pub entries : list' ≡ order_list image t g a list

-- The same where checks 1 to 10 have been made: the order, or that there is none.
unfoldable pub listed_answer : ℕ → ℕ → List ℕ → Result ℕ Refusal
listed_answer T n a = cond (order_exists T n a) (Ok (length (order_of T n a))) (Err refusal.NoOrder)

unfoldable pub listed_list : ℕ → ℕ → List ℕ → List ℕ → List ℕ
listed_list T n a list = cond (order_exists T n a) (overwritten (order_of T n a) list) list

pub record Lists (T n : ℕ) (a list : List ℕ) (r : Result ℕ Refusal) (list' : List ℕ) : Type 0 where
  pub answer : r ≡ listed_answer T n a
  pub entries : list' ≡ listed_list T n a list
