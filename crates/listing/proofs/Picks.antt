-- The listed order over masks is the listed order over slots. Assumes nothing.
use mathlib.Core.Path.{◌≡◌, refl, sym, ◌∙◌, ap}
use mathlib.Core.Logic.{◌⊎◌, inl, inr}
use mathlib.Core.Bool.{Bool, true, false, not, cond, ◌&&◌}
use mathlib.Core.List.{List, [], ◌∷◌}
use Prim.Native.Nat.{ℕ, zero, suc, ◌^◌, ◌<◌, ◌≤◌}
use native.Mathlib.Omega.{arith}
use lib.Dec.{eqb}
use lib.Bits.{bit_xor}
use lib.ListN.{get_or, length}
use borrow.Author.Tests.{eq-eqb, ne_eqb}
use Rattle.base.specs.Words.{first, meets, count}
use Rattle.base.proofs.Bools.{known, and_both, and_same}
use Rattle.base.proofs.Members.{meets_swap}
use Rattle.base.proofs.Numbers.{first_is, first_some, first_unique, first_ext}
use Rattle.image.specs.Limits.{max_programs}
use Rattle.std.specs.Prelude.{Ok, Err}
use Rattle.image.specs.declared.refusals.Refusal.TheVariants as refusal
use Rattle.slot.specs.declared.Group.TheVariants.{Committed}
use Rattle.area.specs.Layout.{in_group, reads_of, stores_of}
use Rattle.listing.specs.Order.{blocks, ready, without, grow, listed}
use Rattle.listing.specs.Listing.{committed_count, order_of, order_exists, overwritten, listed_answer, listed_list, Lists}
use Rattle.base.specs.Masks.{word_bits, has_bit, mask_of}
use Rattle.base.proofs.Counts.{count_ext}
use Rattle.base.proofs.Masks.{mask_lt, and_masks, mask_zero, mask_has}
use Rattle.listing.specs.Masks.{free, picks, CommittedSet}
use Rattle.listing.specs.Readers.{committed_reads, reads_stored, Blockers}
use Rattle.listing.proofs.Masks.{bit_out, bit_below}

module _ (n : ℕ) (reads stores : ℕ → List ℕ) (d : ℕ → Bool) (blockers : List ℕ)
    (masks : (i : ℕ) → i < n → d i ≡ true → get_or blockers i 0 ≡ mask_of (λ j. meets (stores i) (cond (d j) (reads j) [])) n) where
  free_ready : (left : ℕ → Bool) → ((i : ℕ) → left i ≡ true → d i ≡ true) → (i : ℕ) → i < n
      → free blockers (mask_of left n) i ≡ ready n reads stores left i
  unfolding free ready blocks without
  free_ready left sub i l =
      rw (mask_has left n i l) (and_same (left i) (λ e.
      rw (
        bit_out left n i l e,
        masks i l (sub i e),
        and_masks (λ j. meets (stores i) (cond (d j) (reads j) [])) (without i left) n,
        mask_zero (λ j. meets (stores i) (cond (d j) (reads j) []) && without i left j) n,
      )
      (ap (λ (x : ℕ). eqb x 0)
      (first_ext (λ j. meets (stores i) (cond (d j) (reads j) []) && without i left j) (blocks reads stores left i) n (λ j h. go j (known (left j)))))))
    where
      go : (j : ℕ) → (left j ≡ true) ⊎ (left j ≡ false)
          → meets (stores i) (cond (d j) (reads j) []) && (left j && not (eqb j i)) ≡ left j && (not (eqb j i) && meets (reads j) (stores i))
      go j (inl q) = rw (q, sub j q, meets_swap (stores i) (reads j)) (swap (meets (reads j) (stores i)) (not (eqb j i)))
        where
          swap : (b d : Bool) → b && d ≡ d && b
          swap true true = refl
          swap true false = refl
          swap false true = refl
          swap false false = refl
      go j (inr q) = rw q (last (meets (stores i) (cond (d j) (reads j) [])))
        where
          last : (b : Bool) → b && false ≡ false
          last true = refl
          last false = refl

  -- and none from n on
  first_ready : (left : ℕ → Bool) → ((i : ℕ) → left i ≡ true → d i ≡ true) → n ≤ word_bits
      → first (free blockers (mask_of left n)) word_bits ≡ first (ready n reads stores left) n
  unfolding free
  first_ready left sub few =
      sym (first_unique (free blockers (mask_of left n)) word_bits (first (free blockers (mask_of left n)) n)
      (λ i h e. first_some (free blockers (mask_of left n)) n i
      (bit_below n (mask_of left n) i (mask_lt left n) (and_both (has_bit (mask_of left n) i) _ e).0) e)
      (λ i e. let t = first_is (free blockers (mask_of left n)) n i e in (omega (arith, t.0), t.1)))
      ∙ first_ext (free blockers (mask_of left n)) (ready n reads stores left) n (free_ready left sub)

  picks_listed : n ≤ word_bits → (k : ℕ) (left : ℕ → Bool) → ((i : ℕ) → left i ≡ true → d i ≡ true)
      → picks k blockers (mask_of left n) ≡ listed k n reads stores left
  unfolding picks listed grow ready without
  picks_listed few zero left sub = refl
  picks_listed few (suc k) left sub =
      rw (first_ready left sub few) (go (first (ready n reads stores left) n) refl (λ i. picks_listed few k (without i left)))
    where
      go : (v : ℕ) → first (ready n reads stores left) n ≡ v
          → ((i : ℕ) → ((j : ℕ) → without i left j ≡ true → d j ≡ true)
          → picks k blockers (mask_of (without i left) n) ≡ listed k n reads stores (without i left))
          → grow v (λ i. picks k blockers (bit_xor (mask_of left n) (2 ^ i))) ≡ grow v (λ i. listed k n reads stores (without i left))
      go zero e ih = refl
      go (suc i) e ih =
          let t = first_is (ready n reads stores left) n i e in
          let u : left i ≡ true = (and_both (left i) (eqb (first (blocks reads stores left i) n) 0) t.1).0 in
          ap (λ (z : List ℕ). i ∷ z)
          (rw (bit_out left n i t.0 u) (ih i (λ j h. sub j (and_both (left j) (not (eqb j i)) h).0)))

module _ {T n all : ℕ} {a blockers : List ℕ} (few : n ≤ max_programs) (whole : CommittedSet T n all a) (masks : Blockers T all n a blockers) where
  picked : picks n blockers all ≡ order_of T n a
  unfolding reads_stored committed_reads order_of
  picked =
      rw whole.all_are
      (picks_listed n (λ k. reads_of T k a) (λ k. stores_of T k a) (in_group Committed T a) blockers
      (λ i l e. masks.entry i (rw whole.all_are (mask_has (in_group Committed T a) n i l ∙ e)))
      few n (in_group Committed T a) (λ i h. h))

  all_counted : count (has_bit all) n ≡ committed_count T n a
  unfolding committed_count
  all_counted = rw whole.all_are (count_ext _ _ n (mask_has (in_group Committed T a) n))

  -- the programs that are picked are the order, where they are as many as are committed
  module _ {order list : List ℕ} {k : ℕ} (is : order ≡ picks n blockers all) (counted : k ≡ count (has_bit all) n) where
    pub no_order_lem : (length order ≡ k → ⊥) → Lists T n a list (Err refusal.NoOrder) list
    unfolding listed_answer listed_list order_exists
    no_order_lem h =
        let e : eqb (length (order_of T n a)) (committed_count T n a) ≡ false =
        ne_eqb _ _ (λ z. h (ap length (is ∙ picked) ∙ z ∙ sym (counted ∙ all_counted))) in
        record { answer = rw e; entries = rw e }

    pub whole_order : length order ≡ k → Lists T n a list (Ok (length order)) (overwritten order list)
    unfolding listed_answer listed_list order_exists
    whole_order h =
        let l : order ≡ order_of T n a = is ∙ picked in
        let e : eqb (length (order_of T n a)) (committed_count T n a) ≡ true = eq-eqb _ _ (ap length (sym l) ∙ h ∙ (counted ∙ all_counted)) in
        record { answer = rw (e, ← l); entries = rw (e, ← l) }
