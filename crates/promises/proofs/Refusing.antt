-- Demand 1: "A refusal gives its number from document 01 and changes nothing that was lent." Of every call: the answer is the refusal, the number is
-- the refusal's, every other number is 0, and the lent lists are as they were. That every call answers and ends, inside what it was lent, for any
-- input at all, is what the check of its function shows: no public call has a `requires`. Assumes nothing.
use Prim.Native.Nat.{ℕ}
use mathlib.Core.Path.{◌≡◌, ap}
use mathlib.Core.List.{List, []}
use Rattle.std.specs.Prelude.{Err}
use Rattle.image.specs.declared.refusals.Refusal.{Refusal}
use Rattle.image.specs.Refusals.{numbers_of, told, numbers_of_count}
use Rattle.image.specs.Image.{program_refusal_of, program_of, start_of}
use Rattle.image.proofs.Refusing.{unless_refused}
use Rattle.image.proofs.Places.{told_refused}
use Rattle.area.specs.Checks.{open_refusal}
use Rattle.steps.specs.Opening.{open_area}
use Rattle.steps.specs.Answers.{numbers_of_gathered, numbers_of_settled, refused_by}
use Rattle.steps.specs.Gathering.{gather_refusal, gather_answer, gather_area}
use Rattle.steps.specs.Settling.{settle_refusal, settle_answer, settle_table, settle_area}
use Rattle.causes.specs.Why.{no_reason, numbers_of_why, why_refusal, why_answer, ask_refusal, before_answer}
use Rattle.listing.specs.Listing.{order_refusal, order_answer, order_list}
use Rattle.carry.specs.Next.{next_refusal, next_answer, next_out}

module _ {r : Refusal} where
  pub program_refused : (image : List ℕ) (k : ℕ) → program_refusal_of image k ≡ Err r
      → (told (program_refusal_of image k) ≡ numbers_of r) × (program_of image k ≡ []) × (start_of image k ≡ 0)
  unfolding program_of start_of
  program_refused image k h =
      (told_refused h, unless_refused (program_refusal_of image k) _ _ h, unless_refused (program_refusal_of image k) _ _ h)

  pub open_refused : (image t g a : List ℕ) → open_refusal image t g a ≡ Err r
      → (told (open_refusal image t g a) ≡ numbers_of r) × (open_area image t g a ≡ a)
  unfolding open_area
  open_refused image t g a h = (told_refused h, unless_refused (open_refusal image t g a) _ _ h)

  pub gather_refused : (image t g a : List ℕ) (k : ℕ) → gather_refusal image t g a k ≡ Err r
      → (gather_answer image t g a k ≡ Err r) × (numbers_of_gathered (gather_answer image t g a k) ≡ refused_by r) × (gather_area image t g a k ≡ a)
  unfolding gather_answer gather_area
  gather_refused image t g a k h =
      let answer = unless_refused (gather_refusal image t g a k) _ _ h in
      (answer, ap numbers_of_gathered answer, unless_refused (gather_refusal image t g a k) _ _ h)

  pub settle_refused : (image t g a : List ℕ) (k : ℕ) → settle_refusal image t g a k ≡ Err r
      → (settle_answer image t g a k ≡ Err r) × (numbers_of_settled (settle_answer image t g a k) ≡ refused_by r)
      × (settle_table image t g a k ≡ t) × (settle_area image t g a k ≡ a)
  unfolding settle_answer settle_table settle_area
  settle_refused image t g a k h =
      let answer = unless_refused (settle_refusal image t g a k) _ _ h in
      (answer, ap numbers_of_settled answer, unless_refused (settle_refusal image t g a k) _ _ h, unless_refused (settle_refusal image t g a k) _ _ h)

  pub why_refused : (image t g a : List ℕ) (k : ℕ) → why_refusal image t g a k ≡ Err r
      → (why_answer image t g a k ≡ Err r) × (numbers_of_why (why_answer image t g a k) ≡ no_reason r)
  unfolding why_answer
  why_refused image t g a k h =
      let answer = unless_refused (why_refusal image t g a k) _ _ h in
      (answer, ap numbers_of_why answer)

  pub before_refused : (image t g a : List ℕ) (k : ℕ) → ask_refusal image t g a k ≡ Err r → before_answer image t g a k ≡ Err r
  unfolding before_answer
  before_refused image t g a k h = unless_refused (ask_refusal image t g a k) _ _ h

  pub order_refused : (image t g a list : List ℕ) → order_refusal image t g a list ≡ Err r
      → (order_answer image t g a list ≡ Err r) × (numbers_of_count (order_answer image t g a list) ≡ record { refusal = numbers_of r; count = 0 })
      × (order_list image t g a list ≡ list)
  unfolding order_answer order_list
  order_refused image t g a list h =
      let answer = unless_refused (order_refusal image t g a list) _ _ h in
      (answer, ap numbers_of_count answer, unless_refused (order_refusal image t g a list) _ _ h)

  pub next_refused : (image t g a fresh out : List ℕ) → next_refusal image t g a fresh out ≡ Err r
      → (next_answer image t g a fresh out ≡ Err r)
      × (numbers_of_count (next_answer image t g a fresh out) ≡ record { refusal = numbers_of r; count = 0 }) × (next_out image t g a fresh out ≡ out)
  unfolding next_answer next_out
  next_refused image t g a fresh out h =
      let answer = unless_refused (next_refusal image t g a fresh out) _ _ h in
      (answer, ap numbers_of_count answer, unless_refused (next_refusal image t g a fresh out) _ _ h)
