-- Laws of a text that is cut at its separators, seen from a place in it. Assumes nothing.
use mathlib.Core.Path.{◌≡◌, refl, sym, ◌∙◌}
use mathlib.Core.Bool.{Bool, true, false, not, cond}
use mathlib.Core.List.{List, [], ◌∷◌}
use Prim.Native.Nat.{ℕ, suc, ◌+◌, ◌-◌, ◌≤◌, ◌<◌}
use native.Mathlib.Nat.{add_assoc}
use native.Mathlib.Omega.{arith}
use native.Mathlib.Numerals.{one-add}
use lib.Dec.{eqb, ltb}
use lib.ListN.{length, take, drop, length-drop}
use borrow.Author.Tests.{ltb-true, ltb-false}
use lib.Seq.{drop-drop, take-length}
use Rattle.std.specs.Prelude.{Some, None, position}
use Rattle.std.specs.List.{position_or_len}
use Rattle.std.proofs.lemmas.Option.{cond_some}
use Rattle.base.specs.Words.{words}
use Rattle.sheet.specs.Split.{onto, split, Ends}

-- there is always a part
pub split_some : (separator : ℕ) (text : List ℕ) → (part : List ℕ) × (parts : List (List ℕ)) × (split separator text ≡ part ∷ parts)
unfolding split onto
split_some separator [] = ([], [], refl)
split_some separator (x ∷ xs) = go (eqb x separator) (split_some separator xs)
  where
    go : (b : Bool) → (part : List ℕ) × (parts : List (List ℕ)) × (split separator xs ≡ part ∷ parts)
        → (part : List ℕ) × (parts : List (List ℕ)) × (cond b ([] ∷ split separator xs) (onto x (split separator xs)) ≡ part ∷ parts)
    go true rest = ([], split separator xs, refl)
    go false rest = (x ∷ rest.0, rest.1, rw rest.2)

-- ---- the first part ends before the first separator, or with the text

-- how many bytes stand before it
abbrev pub before : (separator : ℕ) → List ℕ → ℕ
before separator text = position_or_len (λ x. eqb x separator) text

module _ (separator : ℕ) where
  cut_last : (text : List ℕ) → length text ≤ before separator text → split separator text ≡ text ∷ []
  unfolding split onto
  cut_last [] h = refl
  cut_last (x ∷ xs) h = go (eqb x separator) h (cut_last xs)
    where
      go : (b : Bool) → length (x ∷ xs) ≤ cond (not b) (1 + before separator xs) 0 → (length xs ≤ before separator xs → split separator xs ≡ xs ∷ [])
          → cond b ([] ∷ split separator xs) (onto x (split separator xs)) ≡ (x ∷ xs) ∷ []
      go true h ih = absurd (omega arith)
      go false h ih = rw (ih (omega arith))

  cut_next : (text : List ℕ) → before separator text < length text
      → split separator text ≡ take (before separator text) text ∷ split separator (drop (before separator text + 1) text)
  unfolding split onto
  cut_next [] h = absurd (omega arith)
  cut_next (x ∷ xs) h = go (eqb x separator) h (cut_next xs)
    where
      go : (b : Bool) → let k = before separator xs in let n = cond (not b) (1 + k) 0 in n < length (x ∷ xs)
          → (k < length xs → split separator xs ≡ take k xs ∷ split separator (drop (k + 1) xs))
          → cond b ([] ∷ split separator xs) (onto x (split separator xs)) ≡ take n (x ∷ xs) ∷ split separator (drop (n + 1) (x ∷ xs))
      go true h ih = refl
      go false h ih =
          let e : suc (before separator xs) + 1 ≡ suc (before separator xs + 1) = omega arith in
          rw (ih (omega arith), one-add, e)

-- a place that is found, and none that is
found_none : (b : Bool) (n : ℕ) → cond b (Some n) None ≡ None → b ≡ false
found_none true n e = cc
found_none false n e = refl

-- so it is from a place on
pub rest_whole : (text : List ℕ) (at : ℕ) → take (length text - at) (drop at text) ≡ drop at text
rest_whole text at = rw (← length-drop at text) (take-length (drop at text))

module _ (separator : ℕ) (text : List ℕ) (at : ℕ) (within : at ≤ length text) where
  abbrev rest : List ℕ
  rest = drop at text

  pub ends_found : {n : ℕ} → position (λ x. eqb x separator) rest ≡ Some n → Ends separator text at (at + n)
  unfolding words
  ends_found {n} e =
      let p = cond_some (ltb (before separator rest) (length rest)) (before separator rest) n e in
      let l : n < length rest = rw (← p.1) (ltb-true (before separator rest) (length rest) p.0) in
      let long = length-drop at text in
      let wide : at + n - at ≡ n = omega arith in
      let after : drop (at + n + 1) text ≡ drop (n + 1) rest = sym (drop-drop (n + 1) at text ∙ rw add_assoc) in
      record {
        from = omega arith;
        within = omega arith;
        last = λ f. absurd (omega arith);
        more = λ f. rw (wide, after, ← p.1) (cut_next separator rest (ltb-true (before separator rest) (length rest) p.0));
      }

  pub ends_last : position (λ x. eqb x separator) rest ≡ None → Ends separator text at (length text)
  unfolding words
  ends_last e =
      let l = ltb-false (before separator rest) (length rest) (found_none (ltb (before separator rest) (length rest)) (before separator rest) e) in
      record {
        from = within;
        within = omega arith;
        last = λ f. rw (rest_whole text at) (cut_last separator rest l);
        more = λ f. absurd (omega arith);
      }
