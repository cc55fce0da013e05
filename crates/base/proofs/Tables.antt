-- What a function gives for the numbers below n: `tabulate`. Assumes nothing.
use mathlib.Core.Path.{◌≡◌, refl, sym, ◌∙◌}
use mathlib.Core.Logic.{◌⊎◌, inl, inr}
use mathlib.Core.List.{List, [], ◌∷◌, ◌++◌}
use Prim.Native.Nat.{ℕ, zero, suc, ◌+◌, ◌<◌}
use native.Mathlib.Nat.{not-suc-le-zero}
use native.Mathlib.Omega.{arith}
use lib.ListN.{length, get_or, set, length-append, get_or-append}
use lib.Seq.{ext_get_or, get_or_at, get_or-set_same, get_or-set_other}
use borrow.Author.Count.{below_more}
use Rattle.base.specs.Words.{tabulate}
use Rattle.base.proofs.Numbers.{below}

pub tabulate_length : (f : ℕ → ℕ) (n : ℕ) → length (tabulate f n) ≡ n
unfolding tabulate
tabulate_length f zero = refl
tabulate_length f (suc n) = omega (arith, length-append (tabulate f n) (f n ∷ []), tabulate_length f n)

pub tabulate_at : (f : ℕ → ℕ) (n i : ℕ) → i < n → get_or (tabulate f n) i 0 ≡ f i
unfolding tabulate
tabulate_at f zero i l = absurd (not-suc-le-zero l)
tabulate_at f (suc n) i l = go (below i n l) (tabulate_at f n i)
  where
    go : (i ≡ n) ⊎ (i < n) → (i < n → get_or (tabulate f n) i 0 ≡ f i) → get_or (tabulate f n ++ (f n ∷ [])) i 0 ≡ f i
    go (inl e) ih = rw e (get_or_at (tabulate f n) (f n) [] 0 n (tabulate_length f n))
    go (inr k) ih = get_or-append (tabulate f n) (f n ∷ []) 0 i (omega (arith, tabulate_length f n)) ∙ ih k

-- a list of n members is the table of any function that gives them
pub tabulate_is : (f : ℕ → ℕ) (n : ℕ) (xs : List ℕ) → length xs ≡ n → ((i : ℕ) → i < n → get_or xs i 0 ≡ f i) → xs ≡ tabulate f n
tabulate_is f n xs e h =
    ext_get_or 0 xs (tabulate f n) (e ∙ sym (tabulate_length f n))
    (λ i l. let k : i < n = omega arith in h i k ∙ sym (tabulate_at f n i k))

pub tabulate_ext : (f g : ℕ → ℕ) (n : ℕ) → ((i : ℕ) → i < n → f i ≡ g i) → tabulate f n ≡ tabulate g n
tabulate_ext f g n h = tabulate_is g n (tabulate f n) (tabulate_length f n) (λ i l. tabulate_at f n i l ∙ h i l)

-- a list that is filled from the front: one place more
pub table_more : (f : ℕ → ℕ) (t : List ℕ) (c v : ℕ) → c < length t → v ≡ f c → ((i : ℕ) → i < c → get_or t i 0 ≡ f i) → (i : ℕ) → i < c + 1
    → get_or (set t c v) i 0 ≡ f i
table_more f t c v l e h =
    below_more (λ i. get_or (set t c v) i 0 ≡ f i) c (λ i k. get_or-set_other t c i v 0 (λ z. omega arith) ∙ h i k) (get_or-set_same t c v 0 l ∙ e)
