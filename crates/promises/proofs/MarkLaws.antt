-- Marks: what a program's reservations make of them, and which dependency they show once everybody has reserved. Assumes nothing.
use mathlib.Core.Path.{◌≡◌, refl, sym, ◌∙◌}
use mathlib.Core.Bool.{Bool, true, false, cond, ◌&&◌, ◌||◌}
use mathlib.Core.List.{List, [], ◌∷◌}
use Prim.Native.Nat.{ℕ, ◌+◌, ◌-◌, ◌<◌}
use native.Mathlib.Omega.{arith}
use lib.Dec.{eqb}
use lib.ListN.{length, get_or, set}
use lib.Seq.{get_or-set_same, get_or-set_other, lt-length-set}
use borrow.Author.Tests.{eqb-true}
use Rattle.base.specs.Words.{first, some, tabulate, has, meets}
use Rattle.base.proofs.Bools.{and_right, both_and, same_test}
use Rattle.base.proofs.Members.{meets_in, meets_out}
use Rattle.base.proofs.Numbers.{first_some, first_is, first_unique, first_ext}
use Rattle.base.proofs.Somes.{some_in, some_out}
use Rattle.base.proofs.Tables.{tabulate_length, tabulate_at, tabulate_is}
use Rattle.area.specs.Marks.{mark_of, lower, reserve, hit}
use Rattle.area.proofs.Changes.{reserve_length}
use Rattle.area.proofs.Marks.{earlier_is, is_earlier, hit_in, hit_out}
use Rattle.promises.proofs.Sets.{also, also_failing}

-- ---- a program's reservations, at each cell

lower_twice : (m v : ℕ) → 0 < v → lower (lower m v) v ≡ lower m v
unfolding lower
lower_twice m v h = grind arith

put_at : (m : List ℕ) (x v c : ℕ) → c < length m
    → get_or (set m x (lower (get_or m x 0) v)) c 0 ≡ cond (eqb c x) (lower (get_or m c 0) v) (get_or m c 0)
put_at m x v c h =
    grind (arith, eqb-true, get_or-set_same m c (lower (get_or m c 0) v) 0 h, get_or-set_other m x c (lower (get_or m x 0) v) 0)

lower_either : (a b : Bool) (m v : ℕ) → 0 < v → cond b (lower (cond a (lower m v) m) v) (cond a (lower m v) m) ≡ cond (a || b) (lower m v) m
lower_either a b m v h = grind (arith, lower_twice m v h)

reserve_at : (cs : List ℕ) (k : ℕ) (m : List ℕ) (c : ℕ) → c < length m
    → get_or (reserve 0 cs k m) c 0 ≡ cond (has c cs) (lower (get_or m c 0) (mark_of k)) (get_or m c 0)
unfolding reserve has
reserve_at [] k m c h = refl
reserve_at (x ∷ cs) k m c h =
    let v = mark_of k in
    let u = lower (get_or m x 0) v in
    let rest = reserve_at cs k (set m x u) c (lt-length-set m x u h) in
    let both = lower_either (eqb c x) (has c cs) (get_or m c 0) v (omega arith) in
    grind (arith, put_at m x v c h)

-- ---- the mark is 1 + the smallest number of a gathered program that passes; with one more gathered it is lowered to that one's

module _ (gathered passes : ℕ → Bool) (n k : ℕ) (l : k < n) where
  abbrev before : ℕ
  before = first (λ j. gathered j && passes j) n

  abbrev after : ℕ
  after = first (λ j. also k gathered j && passes j) n

  mark_stays : passes k ≡ false → before ≡ after
  mark_stays e = first_ext _ _ n (λ i _. sym (also_failing k gathered passes e i))

  mark_falls : passes k ≡ true → lower before (mark_of k) ≡ after
  unfolding lower also
  mark_falls e =
      first_unique (λ j. also k gathered j && passes j) n (lower before (mark_of k))
      (λ i s h. let f = first_some (λ j. gathered j && passes j) n i s in grind (arith, eqb-true))
      (λ i h. let f = first_is (λ j. gathered j && passes j) n i in grind (arith, eqb-true))

  mark_lowered : cond (passes k) (lower before (mark_of k)) before ≡ after
  mark_lowered = grind (arith, mark_falls, mark_stays)

-- so the marks of the gathered programs become those of one more; `cells j` is what program j reserves
pub marks_more : (cells : ℕ → List ℕ) (gathered : ℕ → Bool) (n k T : ℕ) → k < n
    → reserve 0 (cells k) k (tabulate (λ c. first (λ j. gathered j && has c (cells j)) n) T)
    ≡ tabulate (λ c. first (λ j. also k gathered j && has c (cells j)) n) T
marks_more cells gathered n k T l =
    tabulate_is _ T _ (reserve_length 0 k (cells k) (tabulate marked T) ∙ tabulate_length marked T)
    (λ c h. reserve_at (cells k) k (tabulate marked T) c (rw (tabulate_length marked T) h)
    ∙ rw (tabulate_at marked T c h) (mark_lowered gathered (λ j. has c (cells j)) n k l))
  where
    marked : ℕ → ℕ
    marked c = first (λ j. gathered j && has c (cells j)) n

-- ---- a mark that names an earlier program

-- Once everybody below n is gathered, a mark of one of the cells names a program earlier than k exactly when an earlier program has reserved one of
-- them.
pub hit_says : (at : ℕ) (cs : List ℕ) (k : ℕ) (a : List ℕ) (cells : ℕ → List ℕ) (gathered : ℕ → Bool) (n : ℕ) → k < n
    → ((j : ℕ) → j < n → gathered j ≡ true)
    → ((c : ℕ) → has c cs ≡ true → get_or a (at + c) 0 ≡ first (λ j. gathered j && has c (cells j)) n)
    → hit at cs k a ≡ some k (λ j. meets cs (cells j))
hit_says at cs k a cells gathered n l all mark = same_test there back
  where
    there : hit at cs k a ≡ true → some k (λ j. meets cs (cells j)) ≡ true
    there e =
        let w = hit_out at cs k a e in
        let m = get_or a (at + w.0) 0 in
        let named = earlier_is m k w.2 in
        let f = first_is (λ j. gathered j && has w.0 (cells j)) n (m - 1) (sym (mark w.0 w.1) ∙ omega (arith, named)) in
        some_in k (λ j. meets cs (cells j)) (m - 1) (omega (arith, named)) (meets_in w.0 cs (cells (m - 1)) w.1 (and_right (gathered (m - 1)) _ f.1))

    back : some k (λ j. meets cs (cells j)) ≡ true → hit at cs k a ≡ true
    back e =
        let w = some_out k (λ j. meets cs (cells j)) e in
        let m = meets_out cs (cells w.0) w.2 in
        let i : w.0 < n = omega (arith, w.1) in
        let f = first_some (λ j. gathered j && has m.0 (cells j)) n w.0 i (both_and (all w.0 i) m.2) in
        let g = mark m.0 m.1 in
        hit_in at cs k a m.0 m.1 (is_earlier (get_or a (at + m.0) 0) k (omega (arith, f.0)) (omega (arith, f.1, w.1)))
