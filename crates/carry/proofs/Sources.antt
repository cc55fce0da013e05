-- The image of two sources: how many programs it has, how long it is, of which pieces it is; and of which programs it is where the one are the
-- carried and the others all the fresh ones. Assumes nothing.
use mathlib.Core.Path.{◌≡◌, refl, ◌∙◌}
use mathlib.Core.Bool.{true}
use mathlib.Core.List.{List, ◌++◌, append_assoc}
use Prim.Native.Nat.{ℕ, ◌+◌, ◌*◌, ◌<◌, ◌≤◌}
use native.Mathlib.Omega.{arith}
use lib.ListN.{length, length-append}
use Rattle.base.specs.Words.{count}
use Rattle.base.specs.Masks.{has_bit, mask_of}
use Rattle.base.proofs.Counts.{count_all, count_ext}
use Rattle.base.proofs.Masks.{mask_has}
use Rattle.image.specs.Limits.{max_programs, head_bytes}
use Rattle.image.specs.Image.{count_of, rule_byte}
use Rattle.writer.specs.Joined.{joined, ends, image_of}
use Rattle.writer.specs.Picked.{picked, all_of}
use Rattle.writer.specs.Writing.{header, Source}
use Rattle.writer.proofs.Programs.{length_joined, length_image, picked_count, picked_ext, picked_short}
use Rattle.writer.proofs.Whole.{image_both}
use Rattle.slot.specs.declared.Group.TheVariants.{Carried}
use Rattle.area.specs.Layout.{in_group}
use Rattle.carry.specs.declared.Chosen.{Chosen}
use Rattle.carry.specs.Next.{carried_count, carried_of, next_programs, next_image}
use Rattle.carry.specs.Sources.{ByMask, Sources, old_programs, new_programs, image_from}

module _ {c : Chosen} (s : Sources c) where
  from_count : c.programs ≡ length (old_programs c ++ new_programs c)
  from_count =
      let old_count = picked_count (has_bit c.mask) c.image.now c.n in
      let new_count = picked_count (has_bit c.all) c.fresh.now c.m in
      omega (arith, s.counted, length-append (old_programs c) (new_programs c), old_count, new_count)

  pub from_length : length (image_from c) ≡ head_bytes c.programs + length (joined (old_programs c)) + length (joined (new_programs c))
  unfolding image_from
  from_length =
      let l = length_image (rule_byte c.fresh.now) (old_programs c ++ new_programs c) in
      omega (arith, from_count, l, length_joined (old_programs c) (new_programs c))

  pub from_small : length (image_from c) < 65536
  from_small = omega (arith, from_length, s.few, s.old.few, s.new.few, picked_short s.old c.n (omega arith), picked_short s.new c.m (omega arith))

  -- the pieces that it is written in: behind the header stand the ends of each, and then their bytes
  abbrev pub bytes_behind : List ℕ
  bytes_behind = joined (old_programs c) ++ joined (new_programs c)

  abbrev pub new_ends : List ℕ
  new_ends = ends (head_bytes c.programs + length (joined (old_programs c))) (new_programs c)

  abbrev pub ends_behind : List ℕ
  ends_behind = ends (head_bytes c.programs) (old_programs c) ++ (new_ends ++ bytes_behind)

  pub from_pieces : image_from c ≡ header c.programs (rule_byte c.fresh.now) ++ ends_behind
  unfolding image_from
  from_pieces = rw from_count (image_both (rule_byte c.fresh.now) (old_programs c) (new_programs c) ∙ simp append_assoc)

-- the mask is that of the carried programs
module _ (T : ℕ) (a image : List ℕ) {n mask : ℕ} (n_is : n ≡ count_of image) (mask_is : mask ≡ mask_of (in_group Carried T a) n) where
  pub carried_counted : count (has_bit mask) n ≡ carried_count T (count_of image) a
  unfolding carried_count
  carried_counted = rw (mask_is, ← n_is) (count_ext _ _ n (mask_has (in_group Carried T a) n))

  pub carried_programs : picked (has_bit mask) image n ≡ carried_of T image a
  carried_programs = rw (mask_is, ← n_is) (picked_ext _ _ image n (mask_has (in_group Carried T a) n))

-- and of the fresh image they are all
module _ (fresh : List ℕ) {m all : ℕ} (m_is : m ≡ count_of fresh) (all_is : all ≡ mask_of (λ k. true) m) where
  pub fresh_counted : count (has_bit all) m ≡ count_of fresh
  fresh_counted = rw all_is (count_all _ m (mask_has (λ k. true) m)) ∙ m_is

  pub fresh_programs : picked (has_bit all) fresh m ≡ all_of fresh
  fresh_programs = rw (all_is, ← m_is) (picked_ext _ _ fresh m (mask_has (λ k. true) m))

-- whatever the mask has: such a choice can be written where its programs lie in the two images and are counted
module _ {image fresh : List ℕ} {n mask m programs : ℕ} {c : Chosen} (b : ByMask image n mask fresh m programs c) where
  pub mask_sources : Source image n mask → Source fresh m (mask_of (λ k. true) m) → programs ≡ count (has_bit mask) n + m → programs ≤ 2 * max_programs
      → Sources c
  mask_sources old new counted few =
      record {
        old = rw (b.image_is, b.n_is, b.mask_is) old;
        new = rw (b.fresh_is, b.m_is, b.all_is) new;
        counted = rw (b.programs_is, b.n_is, b.mask_is, b.m_is, b.all_is) (rw (count_all _ m (mask_has (λ k. true) m)) counted);
        few = rw b.programs_is few;
      }

  pub mask_image : image_from c ≡ image_of (rule_byte fresh) (picked (has_bit mask) image n ++ picked (has_bit (mask_of (λ k. true) m)) fresh m)
  unfolding image_from
  mask_image = rw (b.image_is, b.fresh_is, b.n_is, b.m_is, b.mask_is, b.all_is) refl

-- and where it is that of the carried ones, the image of both is the next image
pub from_is : (T : ℕ) (a image : List ℕ) {n mask : ℕ} → n ≡ count_of image → mask ≡ mask_of (in_group Carried T a) n
    → (fresh : List ℕ) {m programs : ℕ} → m ≡ count_of fresh → {c : Chosen} → ByMask image n mask fresh m programs c → image_from c ≡ next_image T image a fresh
unfolding next_image next_programs
from_is T a image n_is mask_is fresh m_is b =
    mask_image b ∙ rw (carried_programs T a image n_is mask_is, fresh_programs fresh m_is refl) refl
