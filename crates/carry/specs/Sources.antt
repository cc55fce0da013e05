-- What the functions that write the next image take: the programs of an image that a mask has, and all of the fresh image's. Assumes nothing.
use Rattle.std.specs.Prelude.{◌≡◌, true, List, ◌++◌, ℕ, ◌+◌, ◌*◌, ◌≤◌}
use Rattle.base.specs.Words.{count}
use Rattle.base.specs.Masks.{has_bit, mask_of}
use Rattle.image.specs.Limits.{max_programs}
use Rattle.image.specs.Image.{count_of, rule_byte}
use Rattle.slot.specs.declared.Group.TheVariants.{Carried}
use Rattle.area.specs.Layout.{in_group}
use Rattle.writer.specs.Joined.{image_of}
use Rattle.writer.specs.Picked.{picked}
use Rattle.writer.specs.Writing.{Source}
use Rattle.carry.specs.declared.Chosen.{Chosen}

-- the programs of an image that a mask has, and all of the fresh image's
pub record ByMask (image : List ℕ) (n mask : ℕ) (fresh : List ℕ) (m programs : ℕ) (c : Chosen) : Type 0 where
  pub image_is : c.image.now ≡ image
  pub fresh_is : c.fresh.now ≡ fresh
  pub n_is : c.n ≡ n
  pub m_is : c.m ≡ m
  pub mask_is : c.mask ≡ mask
  pub all_is : c.all ≡ mask_of (λ k. true) m
  pub programs_is : c.programs ≡ programs

-- the carried programs of a batch for T cells, and all of the fresh image's
pub record Choice (image : List ℕ) (T : ℕ) (a fresh : List ℕ) (c : Chosen) : Type 0 where
  pub image_is : c.image.now ≡ image
  pub fresh_is : c.fresh.now ≡ fresh
  pub n_is : c.n ≡ count_of image
  pub m_is : c.m ≡ count_of fresh
  pub mask_is : c.mask ≡ mask_of (in_group Carried T a) c.n
  pub all_is : c.all ≡ mask_of (λ k. true) c.m
  pub counted : c.programs ≡ count (has_bit c.mask) c.n + c.m

pub record Sources (c : Chosen) : Type 0 where
  pub old : Source c.image.now c.n c.mask
  pub new : Source c.fresh.now c.m c.all
  pub counted : c.programs ≡ count (has_bit c.mask) c.n + count (has_bit c.all) c.m
  pub few : c.programs ≤ 2 * max_programs

-- the programs of each of the two, and the image of both
abbrev pub old_programs : Chosen → List (List ℕ)
old_programs c = picked (has_bit c.mask) c.image.now c.n

abbrev pub new_programs : Chosen → List (List ℕ)
new_programs c = picked (has_bit c.all) c.fresh.now c.m

unfoldable pub image_from : Chosen → List ℕ
image_from c = image_of (rule_byte c.fresh.now) (old_programs c ++ new_programs c)
