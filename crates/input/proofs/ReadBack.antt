-- What `cells` writes before an image is read back: the table is the typed cells, and the image is the image. And so is what `guards` writes between the two.
-- Assumes nothing.
use mathlib.Core.Path.{◌≡◌, refl, sym, ap, ◌∙◌}
use mathlib.Core.Logic.{◌⊎◌, inl, inr}
use mathlib.Core.Bool.{true, ◌&&◌}
use mathlib.Core.List.{List, ◌++◌, append_assoc}
use Prim.Native.Nat.{ℕ, zero, suc, ◌+◌, ◌*◌, ◌≤◌, ◌<◌}
use native.Mathlib.Omega.{arith}
use lib.Dec.{leb}
use lib.ListN.{length, get_or, length-append, get_or-append}
use lib.Seq.{get_or-append-add, drop_at}
use borrow.Author.Tests.{le-leb, eqb-true}
use Rattle.std.specs.Prelude.{Some}
use Rattle.base.proofs.Bools.{both_and}
use Rattle.base.proofs.Numbers.{below}
use Rattle.base.proofs.Tables.{tabulate_is}
use Rattle.text.specs.Filled.{texts}
use Rattle.image.specs.Limits.{min_cells, max_cells}
use Rattle.image.specs.Image.{byte_at, number_at}
use Rattle.guard.specs.Guards.{guard_words, pairs_for}
use Rattle.prefix.specs.Prefix.{two, cell_at, fours, prefix, prefix_bytes}
use Rattle.prefix.proofs.Prefixes.{four_back, cells_long, prefix_long, guards_long}
use Rattle.input.specs.Prefix.{cells_named, word_at, table_in, guards_in, guards_end, image_from, prefix_good, cells_of}

cell_long : (cells : List ℕ) (c : ℕ) → length (cell_at cells c) ≡ 4
unfolding cell_at
cell_long cells c = refl

-- byte j of cell c stands behind the cells before it
cell_byte : (cells rest : List ℕ) (n c j : ℕ) → c < n → j < 4 → get_or (texts (cell_at cells) n ++ rest) (4 * c + j) 0 ≡ get_or (cell_at cells c) j 0
unfolding texts
cell_byte cells rest zero c j l h = absurd (omega arith)
cell_byte cells rest (suc n) c j l h = ap (λ (xs : List ℕ). get_or xs (4 * c + j) 0) (append_assoc (texts (cell_at cells) n) (cell_at cells n) rest) ∙ go (below c n l) (λ k. cell_byte cells (cell_at cells n ++ rest) n c j k h)
  where
    go : (c ≡ n) ⊎ (c < n) → (c < n → get_or (texts (cell_at cells) n ++ (cell_at cells n ++ rest)) (4 * c + j) 0 ≡ get_or (cell_at cells c) j 0)
        → get_or (texts (cell_at cells) n ++ (cell_at cells n ++ rest)) (4 * c + j) 0 ≡ get_or (cell_at cells c) j 0
    go (inl e) again =
        let at : 4 * c + j ≡ length (texts (cell_at cells) n) + j = omega (arith, cells_long cells n, e) in
        let small : j < length (cell_at cells n) = omega (arith, cell_long cells n) in
        rw (at, e, get_or-append-add (texts (cell_at cells) n) (cell_at cells n ++ rest) j 0) (get_or-append (cell_at cells n) rest 0 j small)
    go (inr k) again = again k

module _ (cells image : List ℕ) (some : min_cells ≤ length cells) (few : length cells ≤ max_cells) (words : (c : ℕ) → get_or cells c 0 < 4294967296) where
  named : cells_named (prefix cells ++ image) ≡ length cells
  unfolding prefix number_at
  named = omega arith

  byte_of : (c j : ℕ) → c < length cells → j < 4 → byte_at (prefix cells ++ image) (prefix_bytes c + j) ≡ get_or (cell_at cells c) j 0
  unfolding prefix
  byte_of c j l h =
      let at : prefix_bytes c + j ≡ length (two (length cells)) + (4 * c + j) = omega arith in
      let split = append_assoc (two (length cells)) (texts (cell_at cells) (length cells)) image in
      rw (at, split, get_or-append-add (two (length cells)) (texts (cell_at cells) (length cells) ++ image) (4 * c + j) 0) (cell_byte cells image (length cells) c j l h)

  cell_of : (c : ℕ) → c < length cells → get_or cells c 0 ≡ word_at (prefix cells ++ image) (prefix_bytes c)
  unfolding word_at cell_at
  cell_of c l =
      let zero_at : byte_at (prefix cells ++ image) (prefix_bytes c) ≡ get_or (cell_at cells c) 0 0 = let e : prefix_bytes c ≡ prefix_bytes c + 0 = omega arith in rw e (byte_of c 0 l (omega arith)) in
      sym (four_back (get_or cells c 0) (words c))
      ∙ rw (zero_at, byte_of c 1 l (omega arith), byte_of c 2 l (omega arith), byte_of c 3 l (omega arith))

  -- T, the table and the image, in turn
  pub cells_read : cells_of (prefix cells ++ image) ≡ Some (length cells)
  unfolding cells_of prefix_good
  cells_read =
      let long : prefix_bytes (length cells) ≤ length (prefix cells ++ image) = omega (arith, length-append (prefix cells) image, prefix_long cells) in
      let good : leb (prefix_bytes (length cells)) (length (prefix cells ++ image)) && leb min_cells (length cells) && leb (length cells) max_cells ≡ true =
      both_and (both_and (le-leb (prefix_bytes (length cells)) (length (prefix cells ++ image)) long) (le-leb min_cells (length cells) some)) (le-leb (length cells) max_cells few) in
      rw (named, good)

  pub table_read : table_in (prefix cells ++ image) (length cells) ≡ cells
  table_read = sym (tabulate_is (λ c. word_at (prefix cells ++ image) (prefix_bytes c)) (length cells) cells refl cell_of)

  pub image_read : image_from (prefix cells ++ image) (prefix_bytes (length cells)) ≡ image
  image_read = drop_at (prefix cells) image (prefix_bytes (length cells)) (prefix_long cells)

-- guards with a pair for each cell, between the cells and the image
module _ (cells g image : List ℕ) (pairs : pairs_for (length cells) g ≡ true) (words : (i : ℕ) → get_or g i 0 < 4294967296) where
  abbrev input : List ℕ
  input = prefix cells ++ (fours g ++ image)

  guard_byte : (i j : ℕ) → i < length g → j < 4 → byte_at input (prefix_bytes (length cells) + 4 * i + j) ≡ get_or (cell_at g i) j 0
  guard_byte i j l h =
      let at : prefix_bytes (length cells) + 4 * i + j ≡ length (prefix cells) + (4 * i + j) = omega (arith, prefix_long cells) in
      rw (at, get_or-append-add (prefix cells) (fours g ++ image) (4 * i + j) 0) (cell_byte g image (length g) i j l h)

  guard_of : (i : ℕ) → i < length g → get_or g i 0 ≡ word_at input (prefix_bytes (length cells) + 4 * i)
  unfolding word_at cell_at
  guard_of i l =
      let at = prefix_bytes (length cells) + 4 * i in
      let zero_at : byte_at input at ≡ get_or (cell_at g i) 0 0 = let e : at ≡ at + 0 = omega arith in rw e (guard_byte i 0 l (omega arith)) in
      sym (four_back (get_or g i 0) (words i))
      ∙ rw (zero_at, guard_byte i 1 l (omega arith), guard_byte i 2 l (omega arith), guard_byte i 3 l (omega arith))

  pub guards_read : guards_in input (length cells) ≡ g
  unfolding pairs_for
  guards_read =
      let long : length g ≡ guard_words (length cells) = eqb-true (length g) (guard_words (length cells)) pairs in
      sym (tabulate_is (λ i. word_at input (prefix_bytes (length cells) + 4 * i)) (guard_words (length cells)) g long (λ i l. guard_of i (omega arith)))

  pub image_behind_read : image_from input (guards_end (length cells)) ≡ image
  image_behind_read =
      let long : length (prefix cells ++ fours g) ≡ guards_end (length cells) =
      length-append (prefix cells) (fours g) ∙ omega (arith, prefix_long cells, guards_long (length cells) g pairs) in
      rw (← append_assoc (prefix cells) (fours g) image) (drop_at (prefix cells ++ fours g) image (guards_end (length cells)) long)
