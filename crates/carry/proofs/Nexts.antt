-- The next image, where nothing is refused, is a good image; its programs are the carried ones in number order and then the fresh ones, with the
-- fresh image's rule byte. Assumes nothing.
use mathlib.Core.Path.{◌≡◌, ◌∙◌}
use mathlib.Core.Bool.{true}
use mathlib.Core.List.{List, []}
use Prim.Native.Nat.{ℕ, ◌+◌, ◌≤◌, ◌<◌}
use native.Mathlib.Omega.{arith}
use lib.ListN.{length, length-append, get_or-append}
use Rattle.base.specs.Words.{count}
use Rattle.base.proofs.Counts.{count_below}
use Rattle.image.specs.Limits.{max_programs}
use Rattle.image.specs.Refusals.{passed}
use Rattle.image.specs.Image.{count_of, rule_byte, part_of, refusal_of}
use Rattle.image.proofs.Laws.{accepted}
use Rattle.writer.specs.Picked.{all_of}
use Rattle.writer.proofs.Programs.{picked_count, picked_at}
use Rattle.writer.proofs.Again.{small_rule, picked_fine, all_count}
use Rattle.writer.proofs.Good.{All, all_append, image_count, image_rule, image_part, image_good, image_programs}
use Rattle.slot.specs.declared.Group.TheVariants.{Carried}
use Rattle.area.specs.Layout.{in_group}
use Rattle.carry.specs.Next.{carried_count, carried_of, next_programs, next_image, next_refusal}
use Rattle.carry.proofs.Checks.{NextShows, next_shows}

-- ---- the next image

module _ (image t g a fresh out : List ℕ) (none : next_refusal image t g a fresh out ≡ passed) where
  shown : NextShows image t g a fresh out
  shown = next_shows image t g a fresh out none

  abbrev programs : List (List ℕ)
  programs = next_programs (length t) image a fresh

  carried_many : length (carried_of (length t) image a) ≡ carried_count (length t) (count_of image) a
  unfolding carried_count
  carried_many = picked_count (in_group Carried (length t) a) image (count_of image)

  many : length programs ≡ carried_count (length t) (count_of image) a + count_of fresh
  unfolding next_programs
  many = rw length-append (omega (arith, carried_many, all_count fresh))

  few : length programs ≤ max_programs
  few = omega (arith, many, shown.few_enough)

  fine : All programs
  unfolding next_programs
  fine =
      all_append (carried_of (length t) image a) (all_of fresh)
      (picked_fine (in_group Carried (length t) a) image (accepted image shown.good) (count_of image) (omega arith))
      (picked_fine (λ k. true) fresh (accepted fresh shown.good_fresh) (count_of fresh) (omega arith))

  -- it is itself a good image
  pub next_good : refusal_of (next_image (length t) image a fresh) ≡ passed
  unfolding next_image
  next_good = image_good (rule_byte fresh) programs few fine (small_rule fresh (accepted fresh shown.good_fresh))

  -- its count is the states' own carried count and the fresh image's
  pub next_count : count_of (next_image (length t) image a fresh) ≡ carried_count (length t) (count_of image) a + count_of fresh
  unfolding next_image
  next_count = image_count (rule_byte fresh) programs few fine ∙ many

  -- its rule byte is the fresh image's
  pub next_rule : rule_byte (next_image (length t) image a fresh) ≡ rule_byte fresh
  unfolding next_image
  next_rule = image_rule (rule_byte fresh) programs few fine

  -- its programs are the carried ones in number order and then the fresh ones
  pub next_programs_lem : all_of (next_image (length t) image a fresh) ≡ programs
  unfolding next_image
  next_programs_lem = image_programs (rule_byte fresh) programs few fine

  -- by number: a carried program's new number is that of the carried programs before it
  pub next_carried_at : (k : ℕ) → k < count_of image → in_group Carried (length t) a k ≡ true
      → part_of (next_image (length t) image a fresh) (count (in_group Carried (length t) a) k) ≡ part_of image k
  unfolding carried_count next_image next_programs
  next_carried_at k l e =
      let carried = in_group Carried (length t) a in
      let h : count carried k < count carried (count_of image) = count_below carried (count_of image) k l e in
      image_part (rule_byte fresh) programs few fine (count carried k) (omega (arith, many))
      ∙ get_or-append (carried_of (length t) image a) (all_of fresh) [] (count carried k) (omega (arith, carried_many))
      ∙ picked_at carried image k (count_of image) l e
