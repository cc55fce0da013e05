-- The listed order over sets of programs as the bits of a number of 64, as the code goes. Assumes nothing.
use Rattle.std.specs.Prelude.{◌≡◌, Bool, ◌&&◌, List, [], ℕ, zero, suc, ◌^◌, ◌<◌, ◌≤◌, eqb, get_or}
use Rattle.std.specs.Int.Bits.{bit_and, bit_xor}
use Rattle.base.specs.Words.{first}
use Rattle.base.specs.Masks.{word_bits, has_bit, mask_of, Least}
use Rattle.image.specs.Limits.{max_programs}
use Rattle.area.specs.Checks.{Slotted}
use Rattle.listing.specs.Order.{without, grow}
use Rattle.slot.specs.declared.Group.TheVariants.{Committed}
use Rattle.area.specs.Layout.{in_group}

-- i is left and no other that is left is among its blockers
unfoldable pub free : List ℕ → ℕ → ℕ → Bool
free blockers left i = has_bit left i && eqb (bit_and (get_or blockers i 0) (bit_xor left (2 ^ i))) 0

-- at most k are taken, one after another
unfoldable pub picks : ℕ → List ℕ → ℕ → List ℕ
picks zero blockers left = []
picks (suc k) blockers left = grow (first (free blockers left) word_bits) (λ i. picks k blockers (bit_xor left (2 ^ i)))

-- The smallest program of a set is taken out of it.
pub record Out (members i rest : ℕ) : Type 0 where
  pub few : i < word_bits
  pub smallest : Least members i
  pub others : (j : ℕ) → has_bit rest j ≡ without i (has_bit members) j

-- What the checks have shown of every slot.
pub record Slots (a : List ℕ) (T n : ℕ) : Type 0 where
  pub few : n ≤ max_programs
  pub slotted : (k : ℕ) → k < n → Slotted T k a

-- The set of the committed programs.
pub record CommittedSet (T n all : ℕ) (a : List ℕ) : Type 0 where
  pub all_are : all ≡ mask_of (in_group Committed T a) n
