-- Laws of the prefix and of the guards: a word read back, and how long they are. Assumes nothing.
use Prim.Native.Nat.{ℕ, zero, suc, ◌+◌, ◌*◌, ◌/◌, ◌%◌, ◌<◌}
use mathlib.Core.Path.{◌≡◌, refl}
use mathlib.Core.Bool.{true}
use mathlib.Core.List.{List}
use native.Mathlib.Omega.{arith}
use lib.ListN.{length, get_or, length-append}
use Rattle.std.specs.Int.{to_le_bytes, w32}
use borrow.Author.Tests.{eqb-true}
use Rattle.text.specs.Filled.{texts}
use Rattle.text.proofs.Fillings.{turns}
use Rattle.guard.specs.Guards.{guard_words, pairs_for}
use Rattle.prefix.specs.Prefix.{four, cell_at, fours, prefix, prefix_bytes, guard_bytes}

-- the four bytes of a word, read back low first
pub four_back : (n : ℕ) → n < 4294967296
    → get_or (four n) 0 0 + 256 * get_or (four n) 1 0 + 65536 * get_or (four n) 2 0 + 16777216 * get_or (four n) 3 0 ≡ n
four_back n h = omega arith

-- each has four bytes
pub cells_long : (cells : List ℕ) (n : ℕ) → length (texts (cell_at cells) n) ≡ 4 * n
unfolding texts cell_at
cells_long cells zero = refl
cells_long cells (suc n) = rw length-append (omega (arith, cells_long cells n))

pub prefix_long : (cells : List ℕ) → length (prefix cells) ≡ prefix_bytes (length cells)
unfolding prefix
prefix_long cells = rw length-append (omega (arith, cells_long cells (length cells)))

-- a turn of the loop that puts the words
pub cell_is : (words : List ℕ) (c : ℕ) → cell_at words c ≡ to_le_bytes w32 (get_or words c 0)
unfolding cell_at
cell_is words c =
    let n : ℕ = get_or words c 0 in
    let e : n / 65536 / 256 % 256 ≡ n / 16777216 % 256 = omega arith in
    rw e

pub ruleset cells = (turns, cell_is, cells_long)

-- eight bytes for each cell
pub guards_long : (T : ℕ) (g : List ℕ) → pairs_for T g ≡ true → length (fours g) ≡ guard_bytes T
unfolding pairs_for
guards_long T g e = omega (arith, cells_long g (length g), eqb-true (length g) (guard_words T) e)
