-- Laws of what is said of arguments: every line is short, and where nothing is said all is well. Assumes nothing.
use Rattle.std.proofs.Common.{◌≡◌, ℕ, ◌+◌, ◌/◌, ◌%◌, ◌<◌, ◌≤◌, min, Bool, true, false, cond, eqb, leb, List, [], ◌∷◌, length, take, Result, Ok, Err, refl, arith, length-append, length-take, eq-eqb, eqb-true, leb-true}
use Rattle.std.proofs.lemmas.List.{length-map}
use borrow.Author.Tests.{eqb-false}
use Rattle.text.specs.Ascii.{ascii}
use Rattle.text.specs.Filled.{shown, filled}
use Rattle.text.proofs.Decimals.{wide_short}
use Rattle.text.proofs.Fillings.{filled_short}
use Rattle.image.specs.Limits.{min_cells, max_cells}
use Rattle.guard.specs.Signed.{lowest}
use Rattle.guard.specs.Guards.{pairs_for}
use Rattle.arguments.specs.declared.Kind.{Kind}
use Rattle.arguments.specs.declared.Kind.TheVariants.{Cells, Ends}
use Rattle.arguments.specs.declared.NoWord.{NoWord}
use Rattle.arguments.specs.declared.NoWord.TheVariants.{Over, Under, NoNumber}
use Rattle.arguments.specs.Kinds.{most_arguments, largest}
use Rattle.arguments.specs.Words.{none_text, none_words, noun, many_words, odd_words, whole_cells, count_words, shown_byte, most_shown, shown_word}
use Rattle.arguments.specs.Words.{no_word_text, no_word_words, argument_words, most_words}

-- ---- every line is short

pub none_short : (kind : Kind) → length (none_words kind) ≤ most_words
unfolding none_words
none_short Cells = omega (arith, filled_short (none_text Cells) (min_cells ∷ max_cells ∷ []) (omega arith, (omega arith, tt)))
none_short Ends = omega (arith, filled_short (none_text Ends) (min_cells ∷ max_cells ∷ []) (omega arith, (omega arith, tt)))

pub most_ends : (kind : Kind) → most_arguments kind ≤ most_arguments Ends
most_ends Cells = omega arith
most_ends Ends = omega arith

largest_small : (kind : Kind) → largest kind < 4294967296
largest_small Cells = omega arith
largest_small Ends = omega arith

noun_short : (kind : Kind) → length (noun kind) ≤ 6
unfolding noun
noun_short Cells = omega arith
noun_short Ends = omega arith

pub many_short : (kind : Kind) (count : ℕ) → count < 18446744073709551616 → length (many_words kind count) ≤ most_words
unfolding many_words
many_short kind count wide =
    simp length-append
    (omega (arith, wide_short count wide, noun_short kind, filled_short (ascii ", and a table has at most #") (most_arguments kind ∷ []) (omega (arith, most_ends kind), tt)))

pub odd_short : (count : ℕ) → count ≤ most_arguments Ends → length (odd_words count) ≤ most_words
unfolding odd_words
odd_short count few = omega (arith, filled_short (ascii "the last cell, number #, has no high end") (count / 2 ∷ []) (omega (arith, few), tt))

shown_short : (word : List ℕ) → length (shown_word word) ≤ most_shown + 3
unfolding shown_word
shown_short word = rw length-append (omega (arith, length-map (take (min (length word) most_shown) word) shown_byte, length-take (min (length word) most_shown) word, go (leb (length word) most_shown)))
  where
    go : (b : Bool) → length (cond b [] (ascii "...")) ≤ 3
    go true = omega arith
    go false = omega arith

-- a text of at most 24 bytes with at most two numbers of 32 bits
text_short : (kind : Kind) (none : NoWord) (place : ℕ) → place < 4294967296 → length (no_word_text kind none place) ≤ 44
unfolding no_word_text
text_short kind Over place small = omega (arith, filled_short (ascii "argument # is over #: ") (place ∷ largest kind ∷ []) (small, (largest_small kind, tt)))
text_short kind Under place small = omega (arith, filled_short (ascii "argument # is under -#: ") (place ∷ lowest ∷ []) (small, (omega arith, tt)))
text_short kind NoNumber place small = omega (arith, filled_short (ascii "argument # is no number: ") (place ∷ []) (small, tt))

pub no_word_short : (kind : Kind) (none : NoWord) (place : ℕ) (word : List ℕ) → place < 4294967296 → length (no_word_words kind none place word) ≤ most_words
unfolding no_word_words
no_word_short kind none place word small = rw length-append (omega (arith, text_short kind none place small, shown_short word))

-- ---- how many there are: something is said of every number of arguments that is not good, so that where nothing is said there are 1 to 256 cells, each with all
-- of its arguments

pub record Counted (kind : Kind) (count : ℕ) : Type 0 where
  pub some : 1 ≤ count
  pub few : count ≤ most_arguments kind
  pub whole : whole_cells kind count ≡ true

none_said : (kind : Kind) → length (none_words kind) ≡ 0 → ⊥
unfolding none_words filled shown
none_said Cells e = omega (arith, e)
none_said Ends e = omega (arith, e)

many_said : (kind : Kind) (count : ℕ) → length (many_words kind count) ≡ 0 → ⊥
unfolding many_words filled shown
many_said kind count e = omega (arith, simp length-append at e)

odd_said : (count : ℕ) → length (odd_words count) ≡ 0 → ⊥
unfolding odd_words filled shown
odd_said count e = omega (arith, e)

pub silent_count : (kind : Kind) (count : ℕ) → length (count_words kind count) ≡ 0 → Counted kind count
unfolding count_words
silent_count kind count = go (eqb count 0) (leb count (most_arguments kind)) (whole_cells kind count) refl refl refl
  where
    go : (a b c : Bool) → eqb count 0 ≡ a → leb count (most_arguments kind) ≡ b → whole_cells kind count ≡ c
        → length (cond a (none_words kind) (cond b (cond c [] (odd_words count)) (many_words kind count))) ≡ 0 → Counted kind count
    go true b c e f g h = absurd (none_said kind h)
    go false true true e f g h =
        let n = eqb-false count 0 e in
        record { some = omega (arith, n); few = leb-true count (most_arguments kind) f; whole = g }
    go false true false e f g h = absurd (odd_said count h)
    go false false c e f g h = absurd (many_said kind count h)

pub silent_few : (kind : Kind) (count : ℕ) → length (count_words kind count) ≡ 0 → count ≤ most_arguments kind
silent_few kind count e = (silent_count kind count e).few

-- ends that nothing is said of are a guard list: "14 guard list not T pairs" never comes of them
pub silent_pairs : (g : List ℕ) → length (count_words Ends (length g)) ≡ 0 → pairs_for (length g / 2) g ≡ true
unfolding pairs_for whole_cells
silent_pairs g h =
    let e : length g % 2 ≡ 0 = eqb-true (length g % 2) 0 (silent_count Ends (length g) h).whole in
    eq-eqb (length g) _ (omega (arith, e))

-- ---- an argument: something is said of every one that is no word, so that where nothing is said it is one

pub silent_is_word : (kind : Kind) (x : Result ℕ NoWord) (place : ℕ) (word : List ℕ) → length (argument_words kind x place word) ≡ 0 → (w : ℕ) × (x ≡ Ok w)
unfolding argument_words no_word_words no_word_text filled shown
silent_is_word kind (Ok w) place word e = (w, refl)
silent_is_word kind (Err Over) place word e = absurd (omega (arith, e))
silent_is_word kind (Err Under) place word e = absurd (omega (arith, e))
silent_is_word kind (Err NoNumber) place word e = absurd (omega (arith, e))
