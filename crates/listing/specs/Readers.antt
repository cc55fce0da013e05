-- Who reads what a program stores, as the code finds it out: for a group of programs at a time, a byte for each cell, a bit of it for each program.
-- Assumes nothing.
use Rattle.std.specs.Prelude.{◌≡◌, Bool, true, cond, List, [], ℕ, ◌+◌, ◌-◌, ◌*◌, ◌%◌, ◌^◌, ◌<◌, ◌≤◌, length, get_or, set}
use Rattle.std.specs.List.{fold}
use Rattle.std.specs.Int.Bits.{bit_or}
use Rattle.base.specs.Words.{has, meets}
use Rattle.base.specs.Masks.{word_bits, has_bit, mask_of}
use Rattle.image.specs.Limits.{max_programs, max_cells}
use Rattle.area.specs.Layout.{in_group, reads_of, stores_of}
use Rattle.area.specs.Checks.{Slotted}
use Rattle.slot.specs.declared.Group.TheVariants.{Committed}
use Rattle.listing.specs.Masks.{Slots, CommittedSet}

-- a group has as many programs as a byte has bits
abbrev pub octet_size : ℕ
octet_size = 8

-- bits are set for the cells of a list
abbrev pub with_bits : ℕ → List ℕ → List ℕ → List ℕ
with_bits bits cells readers = fold (λ found c. set found c (bit_or (get_or found c 0) bits)) readers cells

-- the bits that are found already, and those that are set for one of the cells of a list
abbrev pub bits_for : List ℕ → ℕ → List ℕ → ℕ
bits_for readers found cells = fold (λ found c. bit_or found (get_or readers c 0)) found cells

-- what program j reads, where it is committed
unfoldable pub committed_reads : ℕ → List ℕ → ℕ → List ℕ
committed_reads T a j = cond (in_group Committed T a j) (reads_of T j a) []

-- program j, a committed one, reads a cell that i stores: the two may be the same
unfoldable pub reads_stored : ℕ → List ℕ → ℕ → ℕ → Bool
reads_stored T a i j = meets (stores_of T i a) (committed_reads T a j)

-- The programs from start up to end are a group.
pub record Octet (start end : ℕ) : Type 0 where
  pub not_empty : start < end
  pub small : end ≤ start + octet_size

-- For each cell, the programs from start up to end among whose reads it is.
pub record ReadersOf (reads : ℕ → List ℕ) (start end : ℕ) (readers : List ℕ) : Type 0 where
  pub long : length readers ≡ max_cells
  pub bits : (c : ℕ) → c < max_cells → get_or readers c 0 ≡ mask_of (λ k. has c (reads (start + k))) (end - start)

-- The programs of a set have slots.
pub record SetIn (T programs : ℕ) (a : List ℕ) : Type 0 where
  pub slotted : (i : ℕ) → has_bit programs i ≡ true → Slotted T i a

-- Each entry of a set's programs has these bits, from bit start on, besides those that it had.
pub record Added (T programs start : ℕ) (a readers before after : List ℕ) : Type 0 where
  pub long : length after ≡ max_programs
  pub more : (i : ℕ) → has_bit programs i ≡ true
      → get_or after i 0 ≡ bit_or (get_or before i 0) ((bits_for readers 0 (stores_of T i a) * 2 ^ start) % 2 ^ word_bits)

-- Each entry of a set's programs has the committed programs below end that read what it stores.
pub record Blockers (T programs end : ℕ) (a blockers : List ℕ) : Type 0 where
  pub long : length blockers ≡ max_programs
  pub entry : (i : ℕ) → has_bit programs i ≡ true → get_or blockers i 0 ≡ mask_of (reads_stored T a i) end

-- What is known before the picking: every slot, the committed programs, who keeps whom back, and that the list has room.
pub record ToList (T n all : ℕ) (a blockers list : List ℕ) : Type 0 where
  pub slots : Slots a T n
  pub committed : CommittedSet T n all a
  pub blocked : Blockers T all n a blockers
  pub room : n ≤ length list
