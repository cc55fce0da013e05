-- The call for the next image, once its programs are counted: what the writing takes, and what the call answers and leaves. Assumes nothing.
use mathlib.Core.Path.{◌≡◌, refl, sym, ◌∙◌}
use mathlib.Core.List.{List}
use Prim.Native.Nat.{ℕ, ◌+◌}
use native.Mathlib.Omega.{arith}
use lib.ListN.{length}
use Rattle.std.specs.Prelude.{Ok, Err}
use Rattle.base.specs.Masks.{has_bit}
use Rattle.base.proofs.Counts.{count_le}
use Rattle.image.specs.declared.refusals.Refusal.{Refusal}
use Rattle.image.specs.Refusals.{passed}
use Rattle.image.specs.Image.{count_of}
use Rattle.image.proofs.Refusing.{first_passes}
use Rattle.text.specs.Writing.{Wrote}
use Rattle.writer.proofs.Programs.{good_source}
use Rattle.carry.specs.declared.Chosen.{Chosen}
use Rattle.carry.specs.Next.{carried_count, next_image, lent_refusal, size_refusal, next_refusal, NextSays}
use Rattle.carry.specs.Sources.{ByMask, Choice, Sources, image_from}
use Rattle.carry.proofs.Sources.{carried_counted, fresh_counted, from_is}
use Rattle.carry.proofs.Checks.{lent_shows, next_refused, next_done}

module _ (image t g a fresh : List ℕ) {c : Chosen} (lent : lent_refusal image t g a fresh ≡ passed) (k : Choice image (length t) a fresh c) where
  pub chosen_sources : Sources c
  chosen_sources =
      let p = lent_shows image t g a fresh lent in
      let old = good_source image p.0.accepted c.n k.n_is c.mask in
      let new = good_source fresh p.1 c.m k.m_is c.all in
      record {
        old = rw k.image_is old;
        new = rw k.fresh_is new;
        counted = omega (arith, k.counted, k.m_is, fresh_counted fresh k.m_is k.all_is);
        few = omega (arith, k.counted, count_le (has_bit c.mask) c.n, old.few, new.few);
      }

  by_mask : ByMask image c.n c.mask fresh c.m c.programs c
  by_mask = record { image_is = k.image_is; fresh_is = k.fresh_is; n_is = refl; m_is = refl; mask_is = refl; all_is = k.all_is; programs_is = refl }

  image_is : image_from c ≡ next_image (length t) image a fresh
  image_is = from_is (length t) a image k.n_is k.mask_is fresh k.m_is by_mask

  module _ (out : List ℕ) where
    size_is : size_refusal c.programs (image_from c) out ≡ next_refusal image t g a fresh out
    unfolding next_refusal
    size_is =
        let many : c.programs ≡ carried_count (length t) (count_of image) a + count_of fresh =
        omega (arith, k.counted, k.m_is, carried_counted (length t) a image k.n_is k.mask_is) in
        first_passes refl lent (rw (image_is, many))

    pub chosen_refused : {r : Refusal} → size_refusal c.programs (image_from c) out ≡ Err r → NextSays image t g a fresh out (Err r) out
    chosen_refused e = next_refused image t g a fresh out (sym size_is ∙ e)

    pub chosen_done : size_refusal c.programs (image_from c) out ≡ passed → {s : ℕ} {out' : List ℕ} → Wrote out 0 (image_from c) out' s
        → NextSays image t g a fresh out (Ok s) out'
    chosen_done e w = next_done image t g a fresh out (sym size_is ∙ e) (rw image_is at w)
