-- The search for the lowest cell that shows a dependency: a turn of it, and that it finds one exactly where there is one. Assumes nothing.
use Prim.Native.Nat.{ℕ, ◌+◌, ◌≤◌, ◌<◌}
use mathlib.Core.Path.{◌≡◌, refl, sym}
use mathlib.Core.Logic.{◌⊎◌, inl, inr}
use mathlib.Core.Bool.{Bool, true, false, cond, ◌&&◌}
use mathlib.Core.List.{List}
use native.Mathlib.Omega.{arith}
use lib.Dec.{ltb}
use lib.ListN.{length, get_or}
use borrow.Author.Tests.{ltb-true, ltb-false, lt-ltb}
use Rattle.base.specs.Words.{has, words}
use Rattle.base.proofs.Bools.{clash, and_both, both_and, same_test}
use Rattle.base.proofs.Leasts.{Smallest, least_smallest, is_least}
use Rattle.base.proofs.Members.{has_get_or}
use Rattle.base.proofs.Numbers.{below}
use Rattle.base.proofs.Parts.{words_length, words_at, words_has}
use Rattle.slot.specs.declared.ListKind.{ListKind}
use Rattle.area.specs.declared.MarkKind.{MarkKind}
use Rattle.area.specs.Layout.{marks_at, count_at, list_at, list_of}
use Rattle.area.specs.Marks.{earlier, depends, shows, lowest_of, lower_cell, lowest}
use Rattle.area.specs.Checks.{Slotted}
use Rattle.area.proofs.Marks.{earlier_is, is_earlier, hit_in, hit_out}

-- ---- the cells that have been passed

-- a word of a part is a member of it
has_word : (at n : ℕ) (a : List ℕ) → at + n ≤ length a → (i : ℕ) → i < n → has (get_or a (at + i) 0) (words at n a) ≡ true
has_word at n a lies i l = rw (words_at at n a i l) at (has_get_or (words at n a) i (omega (arith, words_length at n a lies)))

module _ (at i : ℕ) (a : List ℕ) (lies : at + i < length a) where
  -- with one word more: it is there, those before are, and there is no other
  newest : has (get_or a (at + i) 0) (words at (i + 1) a) ≡ true
  newest = has_word at (i + 1) a (omega arith) i (omega arith)

  older : (c : ℕ) → has c (words at i a) ≡ true → has c (words at (i + 1) a) ≡ true
  older c h = let w = words_has at i a c h in rw w.2 at (has_word at (i + 1) a (omega arith) w.0 (omega (arith, w.1)))

  either : (c : ℕ) → has c (words at (i + 1) a) ≡ true → (c ≡ get_or a (at + i) 0) ⊎ (has c (words at i a) ≡ true)
  either c h = let w = words_has at (i + 1) a c h in go w.0 w.2 (below w.0 i (omega (arith, w.1)))
    where
      go : (j : ℕ) → get_or a (at + j) 0 ≡ c → (j ≡ i) ⊎ (j < i) → (c ≡ get_or a (at + i) 0) ⊎ (has c (words at i a) ≡ true)
      go j e (inl q) = inl (rw q at (sym e))
      go j e (inr l) = inr (rw e at (has_word at i a (omega arith) j l))

-- ---- a turn

module _ (T marks at k : ℕ) (a : List ℕ) where
  -- nothing has been looked at
  pub lowest_none : lowest_of T marks (words at 0 a) k a ≡ T
  unfolding lowest_of shows words has
  lowest_none = sym (is_least _ T T (record { within = omega arith; passes = λ l. absurd (omega arith); low = λ i l e. clash e refl }))

  module _ (i : ℕ) (lies : at + i < length a) (inside : get_or a (at + i) 0 < T) where
    abbrev cell : ℕ
    cell = get_or a (at + i) 0

    abbrev found : ℕ
    found = lowest_of T marks (words at i a) k a

    abbrev named_earlier : ℕ → Bool
    named_earlier c = earlier (get_or a (marks + c) 0) k

    pub lowest_more : lowest_of T marks (words at (i + 1) a) k a ≡ lower_cell marks k a (lowest_of T marks (words at i a) k a) (get_or a (at + i) 0)
    unfolding lowest_of shows lower_cell
    lowest_more = sym (is_least _ T _ (go (ltb cell found) (named_earlier cell) refl refl (least_smallest _ T)))
      where
        -- the newest cell is not lower, or does not count
        stays : (named_earlier cell ≡ true → found ≤ cell) → Smallest (λ c. has c (words at i a) && named_earlier c) T found
            → Smallest (λ c. has c (words at (i + 1) a) && named_earlier c) T found
        stays high p =
            record {
              within = p.within;
              passes = λ h. let w = and_both (has found (words at i a)) _ (p.passes h) in both_and (older at i a lies found w.0) w.1;
              low = λ c h t. let w = and_both (has c (words at (i + 1) a)) _ t in under c h w.1 (either at i a lies c w.0);
            }
          where
            under : (c : ℕ) → c < T → named_earlier c ≡ true → (c ≡ cell) ⊎ (has c (words at i a) ≡ true) → found ≤ c
            under c h t (inl q) = let m = high (rw q at t) in omega arith
            under c h t (inr q) = p.low c h (both_and q t)

        go : (b q : Bool) → ltb cell found ≡ b → named_earlier cell ≡ q → Smallest (λ c. has c (words at i a) && named_earlier c) T found
            → Smallest (λ c. has c (words at (i + 1) a) && named_earlier c) T (cond (b && q) cell found)
        go true true x y p =
            record {
              within = omega arith;
              passes = λ _. both_and (newest at i a lies) y;
              low = λ c h t. let w = and_both (has c (words at (i + 1) a)) _ t in under c h w.1 (either at i a lies c w.0);
            }
          where
            under : (c : ℕ) → c < T → named_earlier c ≡ true → (c ≡ cell) ⊎ (has c (words at i a) ≡ true) → cell ≤ c
            under c h t (inl q) = omega arith
            under c h t (inr q) = let m = p.low c h (both_and q t) in omega (arith, ltb-true cell found x)
        go true false x y p = stays (λ t. clash t y) p
        go false q x y p = stays (λ t. ltb-false cell found x) p

-- ---- it finds one exactly where there is one

module _ (l : ListKind) (m : MarkKind) (T k : ℕ) (a : List ℕ) where
  -- a cell of the table that the list has and whose mark names an earlier program
  pub lowest_shows : lowest l m T k a < T
      → (has (lowest l m T k a) (list_of l T k a) ≡ true) × (0 < get_or a (marks_at m T + lowest l m T k a) 0) × (get_or a (marks_at m T + lowest l m T k a) 0 ≤ k)
  unfolding lowest lowest_of shows
  lowest_shows h =
      let w = and_both (has (lowest l m T k a) (list_of l T k a)) _ ((least_smallest (shows (marks_at m T) (list_of l T k a) k a) T).passes h) in
      let e = earlier_is _ k w.1 in
      (w.0, e.0, e.1)

  pub lowest_low : (c : ℕ) → c < T → has c (list_of l T k a) ≡ true → earlier (get_or a (marks_at m T + c) 0) k ≡ true → lowest l m T k a ≤ c
  unfolding lowest lowest_of shows
  lowest_low c h p q = (least_smallest (shows (marks_at m T) (list_of l T k a) k a) T).low c h (both_and p q)

  module _ (s : Slotted T k a) where
    inside_list : (c : ℕ) → has c (list_of l T k a) ≡ true → c < T
    unfolding list_of
    inside_list c h = let w = words_has (list_at l T k) (get_or a (count_at l T k) 0) a c h in rw w.2 at (s.inside l w.0 w.1)

    pub depends_lowest : depends l m T k a ≡ ltb (lowest l m T k a) T
    unfolding depends
    depends_lowest = same_test there back
      where
        there : depends l m T k a ≡ true → ltb (lowest l m T k a) T ≡ true
        there d =
            let h = hit_out (marks_at m T) (list_of l T k a) k a d in
            let inside : h.0 < T = inside_list h.0 h.1 in
            let low : lowest l m T k a ≤ h.0 = lowest_low h.0 inside h.1 h.2 in
            lt-ltb (lowest l m T k a) T (omega arith)

        back : ltb (lowest l m T k a) T ≡ true → depends l m T k a ≡ true
        back e =
            let w = lowest_shows (ltb-true (lowest l m T k a) T e) in
            hit_in (marks_at m T) (list_of l T k a) k a (lowest l m T k a) w.0 (is_earlier _ k w.1 w.2)
