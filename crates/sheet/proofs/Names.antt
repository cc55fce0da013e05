-- Laws of the nine names: a word that is one of them stands in the table in its operation's place. Assumes nothing.
use mathlib.Core.Path.{◌≡◌, refl, sym, ap, ◌∙◌}
use mathlib.Core.Bool.{Bool, cond, ◌&&◌}
use mathlib.Core.List.{List, [], ◌∷◌, map}
use Prim.Native.Nat.{ℕ}
use native.Mathlib.Omega.{arith}
use lib.Dec.{eqb, ltb}
use lib.ListN.{length, length-map}
use Rattle.std.specs.Prelude.{Some, None}
use Rattle.std.specs.Borrow.{Bor}
use Rattle.std.specs.Str.{bytes_eq}
use Rattle.std.specs.List.{position_or_len}
use Rattle.std.proofs.lemmas.List.Sums.{position_or_len_is}
use Rattle.base.proofs.Bools.{not_true}
use Rattle.base.proofs.Leasts.{least_smallest}
use Rattle.sheet.specs.Split.{same}
use Rattle.sheet.specs.Sheet.{operations, names, name_of, operation_of}
use Rattle.sheet.specs.Reading.{named}

-- two texts are equal, as the library's comparison says it
pub same_bytes : (xs ys : List ℕ) → same xs ys ≡ bytes_eq xs ys
unfolding same
same_bytes [] [] = refl
same_bytes [] (y ∷ ys) = refl
same_bytes (x ∷ xs) [] = refl
same_bytes (x ∷ xs) (y ∷ ys) = ap (λ (b : Bool). eqb x y && b) (same_bytes xs ys)

module _ (word : List ℕ) where
  -- its place in the table, as the code has that
  abbrev place : List (Bor (List ℕ)) → ℕ
  place all = position_or_len (λ name. bytes_eq word name.now) all

  place_in : (all : List (Bor (List ℕ))) → place all ≡ position_or_len (λ name. same word name) (map (λ name. name.now) all)
  place_in [] = refl
  place_in (name ∷ all) = rw (same_bytes word name.now, place_in all)

  place_is : position_or_len (λ name. same word name) names ≡ operation_of word
  unfolding operation_of names name_of
  place_is =
      let s = least_smallest (λ op. same word (name_of op)) operations in
      position_or_len_is (λ name. same word name) names (operation_of word) [] s.within
      (λ k l. not_true (λ e. absurd (omega (arith, s.low k (omega (arith, s.within)) e)))) s.passes

  pub named_in : (all : List (Bor (List ℕ))) → map (λ name. name.now) all ≡ names
      → cond (ltb (place all) (length all)) (Some (place all)) None ≡ named word
  unfolding named names
  named_in all e =
      let long : length all ≡ operations = sym (length-map all (λ name. name.now)) ∙ ap length e in
      let p : place all ≡ operation_of word = place_in all ∙ rw e place_is in
      rw (p, long)
