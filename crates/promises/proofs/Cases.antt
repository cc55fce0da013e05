-- The promises over many batches, tried by computation: three programs store one cell, so each batch commits one of them and carries the others. The
-- program in place 2 needs exactly three batches. Assumes nothing.
use Prim.Native.Nat.{ℕ, zero, suc, ◌≤◌, ◌<◌}
use mathlib.Core.Path.{◌≡◌, refl}
use mathlib.Core.List.{List, [], ◌∷◌, map}
use native.Mathlib.Omega.{arith}
use lib.ListN.{length, replicate}
use Rattle.image.specs.Refusals.{passed}
use Rattle.image.specs.Image.{count_of}
use Rattle.image.specs.Assembler.{image}
use Rattle.image.specs.Bench.{x}
use Rattle.guard.specs.Guards.{full_for}
use Rattle.carry.specs.Opened as carry
use Rattle.carry.specs.Next.{next_refusal, next_image}
use Rattle.promises.specs.Laid.{World}
use Rattle.promises.specs.History.{RunToEnd}
use Rattle.promises.specs.Batches.{Batches, state_in, place_of, EndsWithin}
use Rattle.promises.specs.Opened.{opened}
use Rattle.promises.specs.Sheet.{put, each_of, used, in_number_order, run_whole}

abbrev nothing_fresh : List ℕ
nothing_fresh = image 1 []

-- batch after batch: "each batch is run to its end and the next is made by this step"
record Pass : Type 0 where
  pub batch : List ℕ
  pub table : List ℕ

abbrev world_of : Pass → World
world_of p = run_whole p.batch p.table (full_for p.table)

abbrev following : Pass → Pass
following p =
    let w = world_of p in
    record { batch = next_image (length w.table) p.batch w.area nothing_fresh; table = w.table }

unfoldable pass : ℕ → Pass
pass zero = record { batch = image 1 (put x 7 ∷ put x 8 ∷ put x 9 ∷ []); table = 1 ∷ [] }
pass (suc i) = following (pass i)

abbrev images : ℕ → List ℕ
images i = (pass i).batch

abbrev tables : ℕ → List ℕ
tables i = (pass i).table

abbrev guards : ℕ → List ℕ
guards i = full_for (tables i)

abbrev worlds : ℕ → World
worlds i = world_of (pass i)

-- the three batches have three, two and one program, and leave 7, 8 and 9
shrinks : map (λ i. count_of (images i)) (0 ∷ 1 ∷ 2 ∷ []) ≡ 3 ∷ 2 ∷ 1 ∷ []
unfolding opened carry.opened each_of pass
shrinks = refl

one_by_one : map (λ i. (worlds i).table) (0 ∷ 1 ∷ 2 ∷ []) ≡ (7 ∷ []) ∷ (8 ∷ []) ∷ (9 ∷ []) ∷ []
unfolding opened carry.opened each_of pass
one_by_one = refl

-- "a program in place p (from 0) is committed, rejected or faulted within p+1 batches", and not sooner: that in place 2 is carried twice
exactly_three : map (λ i. state_in worlds i (place_of worlds 2 i)) (0 ∷ 1 ∷ 2 ∷ []) ≡ 5 ∷ 5 ∷ 4 ∷ []
unfolding opened carry.opened each_of pass place_of
exactly_three = refl

-- the batches within which it ends are numbers 0 to p, which are p+1
no_more_than_promised : {images : ℕ → List ℕ} {worlds : ℕ → World} {p : ℕ} (e : EndsWithin images worlds p) → e.batch < suc p
no_more_than_promised e = omega (arith, e.soon)

-- what the theorem on many batches asks for can be met
run_to_end : (i : ℕ) → i ≤ 2 → RunToEnd (images i) (tables i) (guards i) (worlds i)
unfolding opened carry.opened each_of pass
run_to_end zero h = record { found = used (images 0) (tables 0); history = in_number_order (images 0); opens = refl; plays = refl; over = refl }
run_to_end (suc zero) h = record { found = used (images 1) (tables 1); history = in_number_order (images 1); opens = refl; plays = refl; over = refl }
run_to_end (suc (suc zero)) h =
    record { found = used (images 2) (tables 2); history = in_number_order (images 2); opens = refl; plays = refl; over = refl }
run_to_end (suc (suc (suc i))) h = absurd (omega arith)

-- room for every next image of these
abbrev room : List ℕ
room = replicate 100 0

accepted : (i : ℕ) → i < 2 → next_refusal (images i) (worlds i).table (guards i) (worlds i).area nothing_fresh room ≡ passed
unfolding opened carry.opened each_of pass
accepted zero h = refl
accepted (suc zero) h = refl
accepted (suc (suc i)) h = absurd (omega arith)

batches_are_met : Batches 2 images tables guards worlds
unfolding pass
batches_are_met =
    record { fresh = λ i. nothing_fresh; out = λ i. room; ends = run_to_end; accepted = accepted; follows = λ i h. refl }
