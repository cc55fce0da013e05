-- Sets of programs as masks: one is taken out, a set is gone through, one is free. Assumes nothing.
use mathlib.Core.Path.{◌≡◌, refl, sym, ◌∙◌, ap}
use mathlib.Core.Logic.{◌⊎◌, inl, inr}
use mathlib.Core.Bool.{Bool, true, false, cond, ◌&&◌}
use mathlib.Core.List.{List}
use Prim.Native.Nat.{ℕ, ◌+◌, ◌/◌, ◌^◌, ◌<◌, ◌≤◌, suc, ◌-◌, ◌*◌}
use native.Mathlib.Nat.{div-eq_of_lt, zero-div, mod_self, pow-suc}
use native.Mathlib.Omega.{arith}
use lib.Dec.{eqb, ltb}
use lib.Bits.{bit_and, bit_xor, and_block, and_self, and_mask, and_le_r, xor_block, xor_self, xor_zero_r}
use lib.ListN.{get_or}
use lib.Pow.{pow_pos, pow-lt}
use borrow.Author.Tests.{eqb-true, eqb-false, eq-eqb, ne_eqb, ltb-true, ltb-false}
use Rattle.base.specs.Words.{first}
use Rattle.base.specs.Masks.{word_bits, has_bit, mask_of, Least}
use Rattle.base.proofs.Bools.{known, clash, not_true}
use Rattle.base.proofs.Numbers.{none_first}
use Rattle.base.proofs.Walks.{first_at}
use Rattle.base.proofs.Masks.{differs, mask_ext, xor_masks, one_bit_lem, mask_has, has_mask, one_bit, shifted, mask_none, mask_append}
use Rattle.listing.specs.Order.{without}
use Rattle.listing.specs.Masks.{free, Out}
use Rattle.listing.proofs.Taken.{without_is, without_else}

pub bit_out : (p : ℕ → Bool) (n i : ℕ) → i < n → p i ≡ true → bit_xor (mask_of p n) (2 ^ i) ≡ mask_of (without i p) n
unfolding without differs
bit_out p n i l e = rw (← one_bit_lem n i l, xor_masks p (λ j. eqb j i) n) (mask_ext _ _ n (λ j h. go j (known (eqb j i))))
  where
    go : (j : ℕ) → (eqb j i ≡ true) ⊎ (eqb j i ≡ false) → differs (p j) (eqb j i) ≡ without i p j
    go j (inl q) = rw (q, ap p (eqb-true j i q) ∙ e)
    go j (inr q) = rw q (last (p j))
      where
        last : (b : Bool) → cond b true false ≡ b && true
        last true = refl
        last false = refl

-- a number below 2 ^ n has no bit from n on
pub bit_below : (n x i : ℕ) → x < 2 ^ n → has_bit x i ≡ true → i < n
unfolding has_bit
bit_below n x i l e = go (known (ltb i n)) (known (eqb n i))
  where
    none : x < 2 ^ i → i < n
    none h = let z : x / 2 ^ i ≡ 0 = div-eq_of_lt h in clash e (rw z)

    go : (ltb i n ≡ true) ⊎ (ltb i n ≡ false) → (eqb n i ≡ true) ⊎ (eqb n i ≡ false) → i < n
    go (inl q) r = ltb-true i n q
    go (inr q) (inl r) = none (rw (eqb-true n i r) at l)
    go (inr q) (inr r) = none (omega (arith, pow-lt {i = n} {j = i} (omega (arith, ltb-false i n q, eqb-false n i r))))

none_above : (n x j : ℕ) → x < 2 ^ n → n ≤ j → has_bit x j ≡ false
none_above n x j l h = not_true (λ e. let k = bit_below n x j l e in omega arith)

pub none_in : (rest j : ℕ) → rest ≡ 0 → has_bit rest j ≡ false
unfolding has_bit
none_in rest j e = rw (e, zero-div)

-- the smallest is taken out, as the code has it: `rest & rest - 1`
module _ (rest i : ℕ) (b : rest < 2 ^ word_bits) (m : Least rest i) where
  few : i < word_bits
  few = bit_below word_bits rest i b m.member

  high : ℕ
  high = mask_of (λ j. has_bit rest (suc i + j)) (word_bits - suc i)

  low : mask_of (has_bit rest) (suc i) ≡ 2 ^ i
  unfolding mask_of
  low = rw (m.member, mask_none (has_bit rest) i m.none_below) (omega arith)

  halves : rest ≡ high * 2 ^ suc i + 2 ^ i
  unfolding high
  halves =
      let e : word_bits ≡ suc i + (word_bits - suc i) = omega (arith, few) in
      sym (has_mask word_bits rest b) ∙ ap (mask_of (has_bit rest)) e ∙ mask_append (has_bit rest) (suc i) (word_bits - suc i)
      ∙ ap (λ (y : ℕ). high * 2 ^ suc i + y) low

  smallest_out : bit_and rest (rest - 1) ≡ bit_xor rest (2 ^ i)
  smallest_out =
      let below_one : rest - 1 ≡ high * 2 ^ suc i + (2 ^ i - 1) = omega (arith, halves, pow_pos i) in
      let alone : 2 ^ i ≡ 0 * 2 ^ suc i + 2 ^ i = omega arith in
      let small : 2 ^ i < 2 ^ suc i = omega (arith, pow-suc 2 i, pow_pos i) in
      ap (λ (y : ℕ). bit_and y (rest - 1)) halves ∙ ap (bit_and (high * 2 ^ suc i + 2 ^ i)) below_one
      ∙ and_block (suc i) high high (2 ^ i) (2 ^ i - 1) small (omega arith)
      ∙ rw (and_self high, and_mask (2 ^ i) i, mod_self (2 ^ i))
      (sym (ap (λ (y : ℕ). bit_xor y (2 ^ i)) halves ∙ ap (bit_xor (high * 2 ^ suc i + 2 ^ i)) alone
      ∙ xor_block (suc i) high 0 (2 ^ i) (2 ^ i) small small ∙ rw (xor_zero_r high, xor_self (2 ^ i))))

  pub smallest_less : bit_and rest (rest - 1) < rest
  smallest_less = omega (arith, and_le_r rest (rest - 1), halves, pow_pos i)

  gone : bit_and rest (rest - 1) ≡ mask_of (without i (has_bit rest)) word_bits
  gone =
      smallest_out ∙ ap (λ (y : ℕ). bit_xor y (2 ^ i)) (sym (has_mask word_bits rest b))
      ∙ bit_out (has_bit rest) word_bits i few m.member

  pub least_out : Out rest i (bit_and rest (rest - 1))
  unfolding without
  least_out = record { few = few; smallest = m; others = λ j. go j (known (ltb j word_bits)) }
    where
      go : (j : ℕ) → (ltb j word_bits ≡ true) ⊎ (ltb j word_bits ≡ false) → has_bit (bit_and rest (rest - 1)) j ≡ without i (has_bit rest) j
      go j (inl q) = rw gone (mask_has (without i (has_bit rest)) word_bits j (ltb-true j word_bits q))
      go j (inr q) =
          let h : word_bits ≤ j = ltb-false j word_bits q in
          rw (none_above word_bits rest j b h) (none_above word_bits (bit_and rest (rest - 1)) j (omega (arith, smallest_less)) h)

-- ---- the first that is free: those not in the rest are not

pub record Unseen (blockers : List ℕ) (left rest : ℕ) : Type 0 where
  pub part : (j : ℕ) → has_bit rest j ≡ true → has_bit left j ≡ true
  pub others : (j : ℕ) → has_bit rest j ≡ false → free blockers left j ≡ false

pub unseen_start : (blockers : List ℕ) (left : ℕ) → Unseen blockers left left
unfolding free
unseen_start blockers left = record { part = λ j e. e; others = λ j e. rw e }

module _ {blockers : List ℕ} {left rest : ℕ} (u : Unseen blockers left rest) where
  pub unseen_end : rest ≡ 0 → first (free blockers left) word_bits ≡ 0
  unseen_end e = none_first (free blockers left) word_bits (λ j l. u.others j (none_in rest j e))

  module _ {i rest' : ℕ} (o : Out rest i rest') where
    free_is : free blockers left i ≡ eqb (bit_and (get_or blockers i 0) (bit_xor left (one_bit i))) 0
    unfolding free
    free_is = rw (shifted i o.few, u.part i o.smallest.member)

    pub unseen_found : bit_and (get_or blockers i 0) (bit_xor left (one_bit i)) ≡ 0 → first (free blockers left) word_bits ≡ i + 1
    unseen_found e =
        sym (first_at (free blockers left) word_bits i
        (none_first (free blockers left) i (λ j l. u.others j (o.smallest.none_below j l))) (free_is ∙ eq-eqb _ _ e) o.few)

    pub unseen_next : (bit_and (get_or blockers i 0) (bit_xor left (one_bit i)) ≡ 0 → ⊥) → Unseen blockers left rest'
    unseen_next e =
        record {
          part = λ j b. u.part j (without_is i (has_bit rest) j (sym (o.others j) ∙ b)).0;
          others = λ j b. go j (without_else i (has_bit rest) j (sym (o.others j) ∙ b));
        }
      where
        go : (j : ℕ) → (j ≡ i) ⊎ (has_bit rest j ≡ false) → free blockers left j ≡ false
        go j (inl q) = rw q (free_is ∙ ne_eqb _ _ e)
        go j (inr q) = u.others j q

-- a search for a program that is free
pub ruleset program_by_program = (unseen_start, unseen_next, unseen_end)
