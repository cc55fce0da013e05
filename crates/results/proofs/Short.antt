-- Every listing is short: its numbers have 32 bits, so each text in it is at most its own length and ten digits for each number. Assumes nothing.
use mathlib.Core.Bool.{Bool, true, false, cond}
use mathlib.Core.List.{List, [], ◌∷◌, ◌++◌}
use Prim.Native.Nat.{ℕ, zero, suc, ◌≤◌, ◌<◌}
use native.Mathlib.Omega.{arith}
use lib.Dec.{eqb}
use lib.ListN.{length, get_or, length-append}
use Rattle.base.specs.Words.{first}
use Rattle.base.proofs.Members.{has_get_or}
use Rattle.text.specs.Ascii.{ascii}
use Rattle.text.specs.Filled.{filled, texts}
use Rattle.text.proofs.Fillings.{filled_short, texts_short}
use Rattle.image.specs.Limits.{max_programs, max_cells}
use Rattle.image.specs.Image.{count_of, second_rule}
use Rattle.image.proofs.Refusing.{unless_either}
use Rattle.slot.specs.declared.Group.TheVariants.{Committed}
use Rattle.slot.specs.States.{waiting, gathered, rejected, faulted, committed}
use Rattle.area.specs.Layout.{state_of, detail_at, detail_of, in_group, reads_of, stores_of}
use Rattle.listing.specs.Order.{ready, without, grow, listed}
use Rattle.listing.specs.Listing.{order_of, order_refusal}
use Rattle.listing.proofs.Whole.{listed_members}
use Rattle.refused.specs.Refused.{refused_line}
use Rattle.refused.proofs.Lines.{refused_short}
use Rattle.results.specs.Listing.{rule_in_force, first_line, word_of, program_line, order_entry, order_line, cell_line, listing_with, order_room, listing}
use Rattle.results.specs.Listing.{most, most_program, most_order, most_listing}

-- the words of a list have 32 bits, as those of a slice of u32 do
pub record Narrow (xs : List ℕ) : Type 0 where
  pub word : (i : ℕ) → get_or xs i 0 < 4294967296

-- ---- each line

either_small : (b : Bool) (x y n : ℕ) → x ≤ n → y ≤ n → cond b x y ≤ n
either_small true x y n h k = h
either_small false x y n h k = k

rule_small : (image : List ℕ) → rule_in_force image ≤ 2
rule_small image = either_small (second_rule image) _ _ 2 (omega arith) (omega arith)

first_short : (image t : List ℕ) → count_of image ≤ max_programs → length t ≤ max_cells → length (first_line image t) ≤ most (ascii "batch # # #\n") 3
unfolding first_line
first_short image t n l =
    filled_short (ascii "batch # # #\n") (length t ∷ count_of image ∷ rule_in_force image ∷ []) (omega arith, (omega arith, (omega (arith, rule_small image), tt)))

either_short : (b : Bool) (x y : List ℕ) (n : ℕ) → length x ≤ n → length y ≤ n → length (cond b x y) ≤ n
either_short true x y n h k = h
either_short false x y n h k = k

word_short : (state : ℕ) → length (word_of state) ≤ 9
unfolding word_of
word_short state =
    either_short (eqb state waiting) _ _ 9 (omega arith) (either_short (eqb state gathered) _ _ 9 (omega arith)
    (either_short (eqb state rejected) _ _ 9 (omega arith) (either_short (eqb state faulted) _ _ 9 (omega arith)
    (either_short (eqb state committed) _ _ 9 (omega arith) (omega arith)))))

program_short : (T k : ℕ) (a : List ℕ) → k < max_programs → Narrow a → length (program_line T a k) ≤ most_program
unfolding program_line detail_of
program_short T k a l h =
    let x = filled (ascii "# ") (k ∷ []) in
    let y = word_of (state_of T k a) in
    let z = filled (ascii " #\n") (detail_of T k a ∷ []) in
    omega (
      arith,
      length-append (x ++ y) z,
      length-append x y,
      filled_short (ascii "# ") (k ∷ []) (omega arith, tt),
      word_short (state_of T k a),
      filled_short (ascii " #\n") (detail_of T k a ∷ []) (h.word (detail_at T k), tt),
    )

cell_short : (t : List ℕ) (c : ℕ) → c < max_cells → Narrow t → length (cell_line t c) ≤ most (ascii "# #\n") 2
unfolding cell_line
cell_short t c l h = filled_short (ascii "# #\n") (c ∷ get_or t c 0 ∷ []) (omega arith, (h.word c, tt))

-- ---- the order: no more entries than programs, each of them a program's number

module _ (n : ℕ) (reads stores : ℕ → List ℕ) where
  listed_few : (k : ℕ) (left : ℕ → Bool) → length (listed k n reads stores left) ≤ k
  unfolding listed grow
  listed_few zero left = omega arith
  listed_few (suc k) left = go (first (ready n reads stores left) n) (λ i. listed_few k (without i left))
    where
      go : (v : ℕ) → ((i : ℕ) → length (listed k n reads stores (without i left)) ≤ k)
          → length (grow v (λ i. listed k n reads stores (without i left))) ≤ suc k
      go zero less = omega arith
      go (suc i) less = omega (arith, less i)

entry_short : (order : List ℕ) (i : ℕ) → get_or order i 0 < 4294967296 → length (order_entry order i) ≤ most (ascii " #") 1
unfolding order_entry
entry_short order i h = filled_short (ascii " #") (get_or order i 0 ∷ []) (h, tt)

order_short : (T n : ℕ) (a : List ℕ) → n ≤ max_programs → length (order_line (order_of T n a)) ≤ most_order
unfolding order_line order_of
order_short T n a l =
    let reads : ℕ → List ℕ = λ k. reads_of T k a in
    let stores : ℕ → List ℕ = λ k. stores_of T k a in
    let order = listed n n reads stores (in_group Committed T a) in
    let few = listed_few n reads stores n (in_group Committed T a) in
    let entries = texts (order_entry order) (length order) in
    omega (
      arith,
      length-append (ascii "order" ++ entries) (ascii "\n"),
      length-append (ascii "order") entries,
      texts_short (order_entry order) (length order) (most (ascii " #") 1) (λ i h. entry_short order i (omega (arith, (listed_members n reads stores n (in_group Committed T a) (get_or order i 0) (has_get_or order i h)).0))),
      few,
    )

-- ---- the whole

module _ (image t g a : List ℕ) (n : count_of image ≤ max_programs) (l : length t ≤ max_cells) (nt : Narrow t) (na : Narrow a) where
  with_short : length (listing_with (order_of (length t) (count_of image) a) image t a) ≤ most_listing
  unfolding listing_with
  with_short =
      let T = length t in
      let x = first_line image t in
      let y = texts (program_line T a) (count_of image) in
      let z = order_line (order_of T (count_of image) a) in
      let w = texts (cell_line t) T in
      omega (
        arith,
        length-append (x ++ y ++ z) w,
        length-append (x ++ y) z,
        length-append x y,
        first_short image t n l,
        texts_short (program_line T a) (count_of image) most_program (λ k h. program_short T k a (omega arith) na),
        order_short T (count_of image) a n,
        texts_short (cell_line t) T (most (ascii "# #\n") 2) (λ c h. cell_short t c (omega arith) nt),
      )

  pub listing_short : length (listing image t g a) ≤ most_listing
  unfolding listing
  listing_short =
      unless_either (λ x. length x ≤ most_listing) (order_refusal image t g a order_room) refused_line (listing_with (order_of (length t) (count_of image) a) image t a)
      (λ r e. omega (arith, refused_short r))
      (λ e. with_short)
