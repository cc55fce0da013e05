-- A turn of each loop: one is free and is taken, or none is, or as many as there can be are taken; an entry is copied. Assumes nothing.
use mathlib.Core.Path.{◌≡◌, refl, sym}
use mathlib.Core.List.{List, [], ◌∷◌, ◌++◌}
use Prim.Native.Nat.{ℕ, zero, suc, ◌+◌, ◌-◌, ◌^◌, ◌≤◌, ◌<◌}
use native.Mathlib.Numerals.{add-one}
use native.Mathlib.Omega.{arith}
use lib.Bits.{bit_xor}
use lib.ListN.{length, get_or, take, drop, set}
use lib.Seq.{set_at, take-suc, append_snoc, drop-cons, length-take-le}
use Rattle.base.specs.Words.{first}
use Rattle.base.specs.Masks.{word_bits}
use Rattle.base.proofs.Numbers.{first_le}
use Rattle.base.proofs.Masks.{shifted}
use Rattle.listing.specs.Order.{grow}
use Rattle.listing.specs.Masks.{free, picks}

module _ (n k : ℕ) (blockers : List ℕ) (left : ℕ) where
  pub one_taken : (i : ℕ) → k < n → first (free blockers left) word_bits ≡ i + 1
      → picks (n - k) blockers left ≡ i ∷ picks (n - (k + 1)) blockers (bit_xor left (2 ^ i))
  unfolding picks grow
  one_taken i h e =
      let q : n - k ≡ suc (n - (k + 1)) = omega arith in
      let z : first (free blockers left) word_bits ≡ suc i = omega arith in
      rw (q, z)

  pub none_taken : first (free blockers left) word_bits ≡ 0 → picks (n - k) blockers left ≡ []
  unfolding picks grow
  none_taken e = go (n - k)
    where
      go : (m : ℕ) → picks m blockers left ≡ []
      go zero = refl
      go (suc m) = rw e

  pub all_taken : n ≤ k → picks (n - k) blockers left ≡ []
  unfolding picks
  all_taken h = let e : n - k ≡ 0 = omega arith in rw e

pub ruleset taking = (one_taken, none_taken, all_taken, first_le, shifted)

pub copy_more : (from into : List ℕ) (k : ℕ) → k < length from → length from ≤ length into
    → set (take k from ++ drop k into) k (get_or from k 0) ≡ take (k + 1) from ++ drop (k + 1) into
copy_more from into k l h =
    let at_k = set_at (take k from) (get_or into k 0) (drop (suc k) into) (get_or from k 0) k (length-take-le k from (omega arith)) in
    rw (add-one, drop-cons into k 0 (omega arith), at_k, take-suc from k 0 l)
    (sym (append_snoc (take k from) (get_or from k 0) (drop (suc k) into)))
