-- The call for the listed order: what no refusal shows, and what the call answers and leaves. Assumes nothing.
use mathlib.Core.Path.{◌≡◌, refl, ◌∙◌}
use mathlib.Core.Bool.{true, false, cond}
use mathlib.Core.List.{List}
use Prim.Native.Nat.{ℕ, ◌≤◌}
use native.Mathlib.Omega.{arith}
use lib.Dec.{leb}
use lib.ListN.{length}
use borrow.Author.Tests.{leb-true, eqb-true, eqb-false}
use Rattle.std.specs.Prelude.{Result, Ok, Err}
use Rattle.image.specs.declared.refusals.Refusal.{Refusal}
use Rattle.image.specs.declared.refusals.Refusal.TheVariants as refusal
use Rattle.image.specs.Refusals.{passed, check, unless}
use Rattle.image.specs.Image.{count_of}
use Rattle.image.proofs.Refusing.{none_fails, none_after, first_refuses, refused_as_lem, last_decides}
use Rattle.slot.specs.declared.Group.TheVariants.{Committed}
use Rattle.area.specs.Layout.{in_group, reads_of, stores_of}
use Rattle.area.specs.Checks.{call_refusal, ended_refusal, Checked, Measured}
use Rattle.area.proofs.Checks.{checked, measured, program_slotted}
use Rattle.listing.specs.Order.{Order}
use Rattle.listing.specs.Listing.{committed_count, order_of, order_exists, list_refusal, order_refusal}
use Rattle.listing.specs.Listing.{order_answer, order_list, OrderSays, overwritten, listed_answer, listed_list, Lists}
use Rattle.listing.specs.Masks.{Slots}
use Rattle.listing.proofs.Knots.{listed_order, listed_stuck}

module _ (image t g a list : List ℕ) where
  -- what no refusal of checks 1 to 10 shows
  pub list_shows : list_refusal image t g a list ≡ passed → Checked image t a × (count_of image ≤ length list)
  unfolding list_refusal ended_refusal
  list_shows e =
      let w = none_after (ended_refusal image t g a) _ e in
      let r = none_fails (leb (count_of image) (length list)) refusal.TooShort _ w.1 in
      (checked image t g a (none_after (call_refusal image t g a) _ w.0).0, leb-true _ _ r.0)

  pub list_ready : list_refusal image t g a list ≡ passed → (n : ℕ) → n ≡ count_of image
      → Measured (length t) n a × Slots a (length t) n × (n ≤ length list)
  list_ready e n q =
      let s = list_shows e in (
        measured image t a s.0 n q,
        record { few = omega (arith, s.0.programs); slotted = λ k l. program_slotted image t a s.0 k (omega arith) },
        omega (arith, s.1),
      )

  -- ---- what the call answers and leaves

  pub order_refused : {r : Refusal} → list_refusal image t g a list ≡ Err r → OrderSays image t g a list (Err r) list
  unfolding order_answer order_list order_refusal
  order_refused e =
      let f = first_refuses (check (order_exists (length t) (count_of image) a) refusal.NoOrder passed) refl e in
      record { answer = refused_as_lem Err _ f refl; entries = refused_as_lem (λ r. list) _ f refl }

  -- where checks 1 to 10 pass, 12 decides
  twelve : {A : Type 0} (refused : Refusal → A) (done : A) → list_refusal image t g a list ≡ passed
      → cond (order_exists (length t) (count_of image) a) done (refused refusal.NoOrder) ≡ unless (order_refusal image t g a list) refused done
  unfolding order_refusal
  twelve refused done e = last_decides (list_refusal image t g a list) refusal.NoOrder (order_exists (length t) (count_of image) a) refused done e

  pub order_done : list_refusal image t g a list ≡ passed → (n : ℕ) → n ≡ count_of image → (r : Result ℕ Refusal) (list' : List ℕ)
      → Lists (length t) n a list r list'
      → OrderSays image t g a list r list'
  unfolding order_answer order_list listed_answer listed_list
  order_done e n f r list' s =
      record {
        answer = s.answer ∙ rw f (twelve Err (Ok (length (order_of (length t) (count_of image) a))) e);
        entries = s.entries ∙ rw f (twelve (λ r. list) (overwritten (order_of (length t) (count_of image) a) list) e);
      }

-- ---- check 12: it fails exactly where the committed programs have no order at all

module _ (T n : ℕ) (a : List ℕ) where
  pub order_is : order_exists T n a ≡ true → Order n (λ k. reads_of T k a) (λ k. stores_of T k a) (in_group Committed T a) (order_of T n a)
  unfolding order_exists order_of committed_count
  order_is e = listed_order n (λ k. reads_of T k a) (λ k. stores_of T k a) (in_group Committed T a) (eqb-true _ _ e)

  pub order_none : order_exists T n a ≡ false → (o : List ℕ) → Order n (λ k. reads_of T k a) (λ k. stores_of T k a) (in_group Committed T a) o → ⊥
  unfolding order_exists order_of committed_count
  order_none e = listed_stuck n (λ k. reads_of T k a) (λ k. stores_of T k a) (in_group Committed T a) (eqb-false _ _ e)
