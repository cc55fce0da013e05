-- From batch to batch: a program that is carried stands in the next image, in a smaller place. Assumes nothing.
use Prim.Native.Nat.{ℕ, zero, suc, ◌+◌, ◌≤◌, ◌<◌}
use mathlib.Core.Path.{◌≡◌}
use mathlib.Core.Logic.{◌⊎◌, inl, inr}
use mathlib.Core.Bool.{Bool, true, false, not}
use mathlib.Core.List.{List}
use native.Mathlib.Omega.{arith}
use lib.ListN.{length}
use borrow.Author.Tests.{eqb-true}
use Rattle.base.specs.Words.{count}
use Rattle.base.proofs.Bools.{known}
use Rattle.base.proofs.Counts.{count_below, count_misses}
use Rattle.image.specs.Image.{count_of, part_of}
use Rattle.slot.specs.declared.Group.TheVariants.{Carried}
use Rattle.slot.specs.States.{carried, is_done, is_carried, is_in}
use Rattle.area.specs.Layout.{in_group}
use Rattle.carry.specs.Next.{carried_count}
use Rattle.carry.proofs.Nexts.{next_count, next_carried_at}
use Rattle.promises.specs.Laid.{World}
use Rattle.promises.specs.Batches.{Batches, state_in, place_of, EndsWithin}
use Rattle.promises.proofs.AtEnd.{paper_ends, end_sized, end_done, end_zero}

-- program q of batch i is carried
abbrev carried_in : (ℕ → World) → ℕ → ℕ → Bool
carried_in worlds i q = in_group Carried (length (worlds i).table) (worlds i).area q

module _ {last : ℕ} {images tables guards : ℕ → List ℕ} {worlds : ℕ → World} (batches : Batches last images tables guards worlds) where
  zero_stays : (i : ℕ) → i ≤ last → carried_in worlds i 0 ≡ false
  zero_stays i h = let end = paper_ends (batches.ends i h) in rw (end_sized end) (end_zero end)

  done_or_carried : (i q : ℕ) → i ≤ last → q < count_of (images i) → is_done (state_in worlds i q) ≡ not (carried_in worlds i q)
  done_or_carried i q h l = let end = paper_ends (batches.ends i h) in rw (end_sized end) (end_done end q l)

  -- its next place is behind the carried ones before it, of which program 0 is none
  module _ (i q : ℕ) (l : q < count_of (images i)) (e : carried_in worlds i q ≡ true) where
    next_smaller : i ≤ last → count (carried_in worlds i) q < q
    next_smaller h = grind (arith, zero_stays i h, count_misses (carried_in worlds i) q 0)

    next_stands : i < last → count (carried_in worlds i) q < count_of (images (suc i))
    unfolding carried_count
    next_stands h =
        let many = next_count (images i) (worlds i).table (guards i) (worlds i).area (batches.fresh i) (batches.out i) (batches.accepted i h) in
        rw (batches.follows i h, many)
        (let m = count_below (carried_in worlds i) (count_of (images i)) q l e in omega arith)

    next_same : i < last → part_of (images (suc i)) (count (carried_in worlds i) q) ≡ part_of (images i) q
    next_same h =
        rw (batches.follows i h)
        (next_carried_at (images i) (worlds i).table (guards i) (worlds i).area (batches.fresh i) (batches.out i) (batches.accepted i h) q l e)

-- ---- the program that stood in place p of batch 0, with p + 1 batches

module _ {p : ℕ} {images tables guards : ℕ → List ℕ} {worlds : ℕ → World} (batches : Batches p images tables guards worlds) where
  -- it has come to batch i, carried all the way; each batch has brought it a place nearer to 0
  record Comes (i : ℕ) : Type 0 where
    pub nearer : place_of worlds p i + i ≤ p
    pub carried_so_far : (j : ℕ) → j < i → state_in worlds j (place_of worlds p j) ≡ carried
    pub stands_so_far : (j : ℕ) → j ≤ i → place_of worlds p j < count_of (images j)
    pub same_so_far : (j : ℕ) → j ≤ i → part_of (images j) (place_of worlds p j) ≡ part_of (images 0) p

  comes_first : p < count_of (images 0) → Comes 0
  unfolding place_of
  comes_first l =
      record {
        nearer = omega arith;
        carried_so_far = λ j h. absurd (omega arith);
        stands_so_far = λ j h. let z : j ≡ 0 = omega arith in rw z l;
        same_so_far = λ j h. let z : j ≡ 0 = omega arith in rw z;
      }

  comes_on : (i : ℕ) → Comes i → carried_in worlds i (place_of worlds p i) ≡ true → Comes (suc i)
  unfolding place_of in_group is_in is_carried
  comes_on i c e =
      let q = place_of worlds p i in
      let l : q < count_of (images i) = c.stands_so_far i (omega arith) in
      let nearer_by = next_smaller batches i q l e (omega (arith, c.nearer)) in
      let before : i < p = omega (arith, c.nearer) in
      record {
        nearer = omega (arith, c.nearer);
        carried_so_far = λ j h. grind (arith, eqb-true, c.carried_so_far j);
        stands_so_far = λ j h. grind (arith, c.stands_so_far j, next_stands batches i q l e before);
        same_so_far = λ j h. grind (arith, c.same_so_far j, c.same_so_far i, next_same batches i q l e before);
      }

  ends_here : (i : ℕ) → Comes i → carried_in worlds i (place_of worlds p i) ≡ false → EndsWithin images worlds p
  ends_here i c e =
      record {
        batch = i;
        soon = omega (arith, c.nearer);
        done = rw (done_or_carried batches i (place_of worlds p i) (omega (arith, c.nearer)) (c.stands_so_far i (omega arith)), e);
        carried_before = c.carried_so_far;
        stands = c.stands_so_far;
        same_program = c.same_so_far;
      }

  -- it cannot come nearer for ever
  ends : (m i : ℕ) → place_of worlds p i < m → Comes i → EndsWithin images worlds p
  unfolding place_of
  ends zero i l c = absurd (omega arith)
  ends (suc m) i l c = go (known (carried_in worlds i (place_of worlds p i))) (ends m (suc i))
    where
      go : (carried_in worlds i (place_of worlds p i) ≡ true) ⊎ (carried_in worlds i (place_of worlds p i) ≡ false)
          → (place_of worlds p (suc i) < m → Comes (suc i) → EndsWithin images worlds p) → EndsWithin images worlds p
      go (inl e) ih =
          let smaller = next_smaller batches i (place_of worlds p i) (c.stands_so_far i (omega arith)) e (omega (arith, c.nearer)) in
          ih (omega (arith, smaller)) (comes_on i c e)
      go (inr e) ih = ends_here i c e

  pub ends_within : p < count_of (images 0) → EndsWithin images worlds p
  unfolding place_of
  ends_within l = ends (suc p) 0 (omega arith) (comes_first l)
