-- A mark that names an earlier program, and the cells that have one. Assumes nothing.
use mathlib.Core.Path.{◌≡◌, refl}
use mathlib.Core.Logic.{◌⊎◌, inl, inr}
use mathlib.Core.Bool.{true, ◌||◌}
use mathlib.Core.List.{List, [], ◌∷◌}
use Prim.Native.Nat.{ℕ, ◌+◌, ◌≤◌, ◌<◌}
use lib.Dec.{ltb, leb}
use lib.ListN.{get_or}
use borrow.Author.Tests.{ltb-true, leb-true, lt-ltb, le-leb}
use Rattle.base.specs.Words.{has}
use Rattle.base.proofs.Bools.{clash, and_both, both_and, or_cases, or_left, or_right}
use Rattle.base.proofs.Members.{has_cases, has_head, has_tail, has_none}
use Rattle.area.specs.Marks.{earlier, hit}

pub earlier_is : (m k : ℕ) → earlier m k ≡ true → (0 < m) × (m ≤ k)
unfolding earlier
earlier_is m k e = let t = and_both (ltb 0 m) (leb m k) e in (ltb-true 0 m t.0, leb-true m k t.1)

pub is_earlier : (m k : ℕ) → 0 < m → m ≤ k → earlier m k ≡ true
unfolding earlier
is_earlier m k p q = both_and (lt-ltb 0 m p) (le-leb m k q)

pub hit_in : (at : ℕ) (cs : List ℕ) (k : ℕ) (a : List ℕ) (c : ℕ) → has c cs ≡ true → earlier (get_or a (at + c) 0) k ≡ true
    → hit at cs k a ≡ true
unfolding hit
hit_in at [] k a c h e = absurd (has_none c h)
hit_in at (x ∷ cs) k a c h e = go (has_cases c x cs h) (λ t. hit_in at cs k a c t e)
  where
    go : (c ≡ x) ⊎ (has c cs ≡ true) → (has c cs ≡ true → hit at cs k a ≡ true) → earlier (get_or a (at + x) 0) k || hit at cs k a ≡ true
    go (inl p) f = or_left (earlier (get_or a (at + x) 0) k) (hit at cs k a) (rw p at e)
    go (inr p) f = or_right (earlier (get_or a (at + x) 0) k) (hit at cs k a) (f p)

-- one of the cells has such a mark
abbrev pub Hit : (at : ℕ) → List ℕ → ℕ → List ℕ → Type 0
Hit at cs k a = (c : ℕ) × (has c cs ≡ true) × (earlier (get_or a (at + c) 0) k ≡ true)

pub hit_out : (at : ℕ) (cs : List ℕ) (k : ℕ) (a : List ℕ) → hit at cs k a ≡ true → Hit at cs k a
unfolding hit
hit_out at [] k a e = clash e refl
hit_out at (x ∷ cs) k a e = go (or_cases (earlier (get_or a (at + x) 0) k) (hit at cs k a) e) (hit_out at cs k a)
  where
    go : (earlier (get_or a (at + x) 0) k ≡ true) ⊎ (hit at cs k a ≡ true) → (hit at cs k a ≡ true → Hit at cs k a) → Hit at (x ∷ cs) k a
    go (inl p) f = (x, has_head x cs, p)
    go (inr p) f = let t = f p in (t.0, has_tail t.0 x cs t.1, t.2)
