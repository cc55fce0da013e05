-- Laws of a text that is cut at a separator: where it is cut, and that its parts with the separator between them are the text again. Assumes nothing.
use mathlib.Core.Path.{◌≡◌, refl, sym, ap, ◌∙◌}
use mathlib.Core.Bool.{Bool, true, false, cond}
use mathlib.Core.List.{List, [], ◌∷◌, ◌++◌}
use Prim.Native.Nat.{ℕ}
use lib.Dec.{eqb}
use borrow.Author.Tests.{eqb-true, eqb-false, eq-eqb, ne_eqb}
use Rattle.base.specs.Words.{has}
use Rattle.base.proofs.Bools.{clash, and_both, both_and, or_false}
use Rattle.sheet.specs.Split.{onto, split, same}

-- ---- two texts are equal

pub same_true : (xs ys : List ℕ) → same xs ys ≡ true → xs ≡ ys
unfolding same
same_true [] [] h = refl
same_true [] (y ∷ ys) h = clash h refl
same_true (x ∷ xs) [] h = clash h refl
same_true (x ∷ xs) (y ∷ ys) h =
    let p = and_both (eqb x y) (same xs ys) h in
    λ i. eqb-true x y p.0 i ∷ same_true xs ys p.1 i

pub same_self : (xs : List ℕ) → same xs xs ≡ true
unfolding same
same_self [] = refl
same_self (x ∷ xs) = both_and (eq-eqb x x refl) (same_self xs)

-- ---- a part that has no separator in it

has_not : (c x : ℕ) (xs : List ℕ) → has c (x ∷ xs) ≡ false → (eqb c x ≡ false) × (has c xs ≡ false)
unfolding has
has_not c x xs h = or_false (eqb c x) (has c xs) h

pub split_none : (s : ℕ) (w : List ℕ) → has s w ≡ false → split s w ≡ w ∷ []
unfolding split onto
split_none s [] h = refl
split_none s (x ∷ w) h =
    let p = has_not s x w h in
    rw (ne_eqb x s (λ e. eqb-false s x p.0 (sym e)), split_none s w p.1)

-- and what stands behind the separator
pub split_next : (s : ℕ) (w rest : List ℕ) → has s w ≡ false → split s (w ++ (s ∷ rest)) ≡ w ∷ split s rest
unfolding split onto
split_next s [] rest h = rw (eq-eqb s s refl)
split_next s (x ∷ w) rest h =
    let p = has_not s x w h in
    rw (ne_eqb x s (λ e. eqb-false s x p.0 (sym e)), split_next s w rest p.1)

-- ---- the parts, with the separator between them

unfoldable pub between : (separator : ℕ) → List (List ℕ) → List ℕ
between s [] = []
between s (part ∷ []) = part
between s (part ∷ next ∷ parts) = part ++ (s ∷ between s (next ∷ parts))

-- there is a first part
pub record First (parts : List (List ℕ)) : Type 0 where
  pub part : List ℕ
  pub more : List (List ℕ)
  pub are : parts ≡ part ∷ more

pub first_part : (s : ℕ) (text : List ℕ) → First (split s text)
unfolding split onto
first_part s [] = record { part = []; more = []; are = refl }
first_part s (x ∷ xs) = go (eqb x s) (first_part s xs)
  where
    go : (b : Bool) → First (split s xs) → First (cond b ([] ∷ split s xs) (onto x (split s xs)))
    go true f = record { part = []; more = split s xs; are = refl }
    go false f = record { part = x ∷ f.part; more = f.more; are = ap (onto x) f.are }

between_onto : (s x : ℕ) (part : List ℕ) (parts : List (List ℕ)) → between s (onto x (part ∷ parts)) ≡ x ∷ between s (part ∷ parts)
unfolding between onto
between_onto s x part [] = refl
between_onto s x part (next ∷ parts) = refl

pub split_between : (s : ℕ) (text : List ℕ) → between s (split s text) ≡ text
unfolding split between
split_between s [] = refl
split_between s (x ∷ xs) = go (eqb x s) refl (first_part s xs) (split_between s xs)
  where
    go : (b : Bool) → eqb x s ≡ b → First (split s xs) → between s (split s xs) ≡ xs → between s (cond b ([] ∷ split s xs) (onto x (split s xs))) ≡ x ∷ xs
    go true e f ih = rw f.are (ap (λ (y : ℕ). y ∷ between s (f.part ∷ f.more)) (sym (eqb-true x s e)) ∙ ap (λ (t : List ℕ). x ∷ t) (rw f.are at ih))
    go false e f ih = rw f.are (between_onto s x f.part f.more ∙ ap (λ (t : List ℕ). x ∷ t) (rw f.are at ih))
