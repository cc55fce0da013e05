-- Laws of a part of a list: `words`, read word by word, a part of a part, a part of a list in which a word is changed, and a part that stands between
-- two others. Assumes nothing.
use Prim.Native.Nat.{ℕ, zero, suc, ◌+◌, ◌-◌, ◌≤◌, ◌<◌}
use mathlib.Core.Path.{◌≡◌, refl, sym, ap, ◌∙◌}
use mathlib.Core.Logic.{◌⊎◌, inl, inr}
use mathlib.Core.Bool.{true}
use mathlib.Core.List.{List, [], ◌∷◌, ◌++◌}
use native.Mathlib.Omega.{arith}
use lib.ListN.{length, get_or, set, take, drop, length-take, length-drop, get_or-append}
use lib.Seq.{ext_get_or, get_or-take, get_or-drop, get_or-append-add, take-suc, take-take, drop-drop, take-append-le, take-set-le, take-set-lt, drop_at, drop-set-lt, drop-set-add, set-append_left}
use Rattle.base.specs.Words.{has, words}
use Rattle.base.proofs.Members.{has_place}

pub words_length : (at n : ℕ) (a : List ℕ) → at + n ≤ length a → length (words at n a) ≡ n
unfolding words
words_length at n a h = simp (length-take, length-drop) (omega arith)

words_short : (at n : ℕ) (a : List ℕ) → length (words at n a) ≤ n
unfolding words
words_short at n a = simp length-take (omega arith)

pub words_at : (at n : ℕ) (a : List ℕ) (i : ℕ) → i < n → get_or (words at n a) i 0 ≡ get_or a (at + i) 0
unfolding words
words_at at n a i h = rw (get_or-take, get_or-drop)

-- one word more
pub words_snoc : (at n : ℕ) (a : List ℕ) → at + n < length a → words at (suc n) a ≡ words at n a ++ (get_or a (at + n) 0 ∷ [])
unfolding words
words_snoc at n a h =
    take-suc (drop at a) n 0 (simp length-drop (omega arith)) ∙ ap (λ (x : ℕ). take n (drop at a) ++ (x ∷ [])) (rw get_or-drop)

-- two lists that agree at the words have the same words
pub words_same : (at n : ℕ) (a b : List ℕ) → at + n ≤ length a → at + n ≤ length b → ((i : ℕ) → i < n → get_or a (at + i) 0 ≡ get_or b (at + i) 0)
    → words at n a ≡ words at n b
words_same at n a b f g h =
    ext_get_or 0 (words at n a) (words at n b) (words_length at n a f ∙ sym (words_length at n b g))
    (λ i l. let k : i < n = omega (arith, words_length at n a f) in words_at at n a i k ∙ (h i k ∙ sym (words_at at n b i k)))

-- and where they have the same words, they agree at each
pub words_agree : (at n : ℕ) (a b : List ℕ) → words at n a ≡ words at n b → (i : ℕ) → i < n → get_or a (at + i) 0 ≡ get_or b (at + i) 0
words_agree at n a b e i l = sym (words_at at n a i l) ∙ (ap (λ (x : List ℕ). get_or x i 0) e ∙ words_at at n b i l)

-- a member of a part stands at one of its places
pub words_has : (at n : ℕ) (a : List ℕ) (c : ℕ) → has c (words at n a) ≡ true → (i : ℕ) × (i < n) × (get_or a (at + i) 0 ≡ c)
words_has at n a c h =
    let w = has_place c (words at n a) h in
    let l : w.0 < n = omega (arith, w.1, words_short at n a) in
    (w.0, l, sym (words_at at n a w.0 l) ∙ w.2)

-- a part of a part
part_in : (j m n : ℕ) (xs : List ℕ) → j + m ≤ n → take m (drop j (take n xs)) ≡ take m (drop j xs)
part_in zero m n xs h = take-take m n xs (omega arith)
part_in (suc j) m zero xs h = absurd (omega arith)
part_in (suc j) m (suc n) [] h = refl
part_in (suc j) m (suc n) (x ∷ xs) h = part_in j m n xs (omega arith)

pub words_in : (at n j m : ℕ) (a : List ℕ) → j + m ≤ n → words j m (words at n a) ≡ words (at + j) m a
unfolding words
words_in at n j m a h = part_in j m n (drop at a) h ∙ ap (take m) (drop-drop j at a)

-- a word that is changed inside a part, and outside it
pub words_set_in : (at n i v : ℕ) (a : List ℕ) → i < n → words at n (set a (at + i) v) ≡ set (words at n a) i v
unfolding words
words_set_in at n i v a h = ap (take n) (drop-set-add at a i v) ∙ take-set-lt n (drop at a) i v h

pub words_set_out : (at n i v : ℕ) (a : List ℕ) → (i < at) ⊎ (at + n ≤ i) → words at n (set a i v) ≡ words at n a
unfolding words
words_set_out at n i v a (inl l) = ap (take n) (drop-set-lt at a i v l)
words_set_out at n i v a (inr l) =
    let e : i ≡ at + (i - at) = omega arith in
    ap (λ (x : ℕ). take n (drop at (set a x v))) e ∙ (ap (take n) (drop-set-add at a (i - at) v) ∙ take-set-le n (drop at a) (i - at) v (omega arith))

-- a word after xs, changed
set_after : (xs ys : List ℕ) (i k x : ℕ) → length xs + i ≡ k → set (xs ++ ys) k x ≡ xs ++ set ys i x
set_after [] ys i k x e = let q : k ≡ i = omega arith in ap (λ (n : ℕ). set ys n x) q
set_after (y ∷ xs) ys i zero x e = absurd (omega arith)
set_after (y ∷ xs) ys i (suc k) x e = ap (λ (l : List ℕ). y ∷ l) (set_after xs ys i k x (omega arith))

-- the part ys between xs and zs: read, and changed at one of its words
module _ (xs ys zs : List ℕ) where
  pub words_between : (at n : ℕ) → length xs ≡ at → n ≤ length ys → words at n (xs ++ (ys ++ zs)) ≡ take n ys
  unfolding words
  words_between at n e h = rw (drop_at xs (ys ++ zs) at e) (take-append-le n ys zs h)

  pub get_d_between : (i k : ℕ) → length xs + i ≡ k → i < length ys → get_or (xs ++ (ys ++ zs)) k 0 ≡ get_or ys i 0
  get_d_between i k e h = rw (← e, get_or-append-add) (get_or-append ys zs 0 i h)

  pub set_between : (i k x : ℕ) → length xs + i ≡ k → i < length ys → set (xs ++ (ys ++ zs)) k x ≡ xs ++ (set ys i x ++ zs)
  set_between i k x e h = set_after xs (ys ++ zs) i k x e ∙ ap (λ (l : List ℕ). xs ++ l) (set-append_left ys zs i x h)
