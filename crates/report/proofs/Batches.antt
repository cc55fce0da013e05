-- Laws of a batch that is run from its input: one program more, what opening shows is kept to the end, and it does not matter what stood in the area.
-- Assumes nothing.
use mathlib.Core.Path.{◌≡◌, refl, sym, ap, ◌∙◌}
use mathlib.Core.List.{List, ◌++◌}
use Prim.Native.Nat.{ℕ, zero, suc, ◌+◌, ◌≤◌}
use native.Mathlib.Numerals.{add-one}
use lib.ListN.{length, take, replicate, length-replicate}
use lib.Seq.{length-take-le, take_at}
use borrow.Author.Tests.{le-leb}
use Rattle.std.proofs.lemmas.Grind.{common_steps}
use Rattle.std.specs.Prelude.{Ok, Err}
use Rattle.image.specs.declared.refusals.ImageRefusal.{ImageRefusal}
use Rattle.image.specs.declared.refusals.Refusal.{Refusal}
use Rattle.image.specs.declared.refusals.Refusal.TheVariants.{Image}
use Rattle.image.specs.Refusals.{passed}
use Rattle.image.specs.Limits.{max_programs}
use Rattle.image.specs.Image.{count_of, refusal_of}
use Rattle.image.proofs.Refusing.{Checks, first_refuses, given_refused, unless_done}
use Rattle.area.specs.Layout.{area_words}
use Rattle.area.specs.Checks.{size_is, room_refusal, open_refusal, Checked}
use Rattle.area.proofs.Checks.{few, open_shows}
use Rattle.steps.specs.Opening.{cleared, open_area}
use Rattle.steps.specs.Gathering.{gather_area}
use Rattle.steps.proofs.Keeps.{open_checked, gather_checked, settle_checked}
use Rattle.report.specs.Batch.{Lent, lent, work_area, gather_first, settle_one, settle_first, batch_on}
use Rattle.report.specs.Runs.{RunsIn, programs_in, Room, Runs}

-- ---- one program more

pub gather_none : (image t g a : List ℕ) → gather_first image t g a 0 ≡ a
unfolding gather_first
gather_none image t g a = refl

pub gather_more : (image t g a : List ℕ) (k : ℕ) → gather_first image t g a (k + 1) ≡ gather_area image t g (gather_first image t g a k) k
unfolding gather_first
gather_more image t g a k = rw (add-one k)

pub settle_none : (image g : List ℕ) (l : Lent) → settle_first image g l 0 ≡ l
unfolding settle_first
settle_none image g l = refl

pub settle_more : (image g : List ℕ) (l : Lent) (k : ℕ) → settle_first image g l (k + 1) ≡ settle_one image g (settle_first image g l k) k
unfolding settle_first
settle_more image g l k = rw (add-one k)

pub ruleset turns = (common_steps, gather_none, gather_more, settle_none, settle_more)

-- ---- what the checks 1 to 7 have shown is kept

gathered_checked : (image t g a : List ℕ) (k : ℕ) → Checked image t a → Checked image t (gather_first image t g a k)
unfolding gather_first
gathered_checked image t g a zero c = c
gathered_checked image t g a (suc k) c = gather_checked image t g (gather_first image t g a k) k (gathered_checked image t g a k c)

settled_checked : (image g : List ℕ) (l : Lent) (k : ℕ) → Checked image l.table l.area
    → Checked image (settle_first image g l k).table (settle_first image g l k).area
unfolding settle_first
settled_checked image g l zero c = c
settled_checked image g l (suc k) c =
    settle_checked image (settle_first image g l k).table g (settle_first image g l k).area k (settled_checked image g l k c)

pub batch_checked : (image g : List ℕ) (l : Lent) → open_refusal image l.table g l.area ≡ passed
    → Checked image (batch_on image g l).table (batch_on image g l).area
unfolding batch_on
batch_checked image g l e =
    settled_checked image g (lent l.table (gather_first image l.table g (open_area image l.table g l.area) (count_of image))) (count_of image)
    (gathered_checked image l.table g (open_area image l.table g l.area) (count_of image) (open_checked image l.table g l.area e))

-- ---- how many programs the header names

programs_within : (image : List ℕ) → count_of image ≤ max_programs → count_of image ≡ programs_in image
unfolding programs_in
programs_within image l = rw (le-leb (count_of image) max_programs l)

-- ---- what stood in the area does not matter, and neither does its size where the header names too many programs

module _ (image t g a : List ℕ) (sized : length a ≡ area_words (length t) (programs_in image)) where
  work_length : length (work_area image t) ≡ area_words (length t) (count_of image)
  work_length = length-replicate (area_words (length t) (count_of image)) 0

  same_size : length a ≡ length (work_area image t) → open_refusal image t g a ≡ open_refusal image t g (work_area image t)
  unfolding open_refusal room_refusal size_is
  same_size e = rw e

  any_size : {r : ImageRefusal} → refusal_of image ≡ Err r → open_refusal image t g a ≡ open_refusal image t g (work_area image t)
  unfolding open_refusal
  any_size e = let r = given_refused Image e in sym (first_refuses _ refl r) ∙ first_refuses _ refl r

  pub same_refusal : open_refusal image t g a ≡ open_refusal image t g (work_area image t)
  same_refusal = go (refusal_of image) refl
    where
      go : (r : Checks ImageRefusal) → refusal_of image ≡ r → open_refusal image t g a ≡ open_refusal image t g (work_area image t)
      go (Ok done) e = same_size (sized ∙ ap (λ (n : ℕ). area_words (length t) n) (sym (programs_within image (few image e))) ∙ sym work_length)
      go (Err r) e = any_size e

  same_opened : open_refusal image t g a ≡ passed → open_area image t g a ≡ open_area image t g (work_area image t)
  unfolding open_area
  same_opened e =
      let s : length a ≡ length (work_area image t) = (open_shows image t g a e).sized ∙ sym work_length in
      unless_done (open_refusal image t g a) (λ r. a) (cleared a) e
      ∙ (ap (λ (n : ℕ). replicate n 0) s ∙ sym (unless_done (open_refusal image t g (work_area image t)) (λ r. work_area image t) (cleared (work_area image t)) (sym same_refusal ∙ e)))

  pub same_batch : open_refusal image t g a ≡ passed → batch_on image g (lent t a) ≡ batch_on image g (lent t (work_area image t))
  unfolding batch_on
  same_batch e = rw (same_opened e)

-- ---- table and area as the code has them

-- in the first words of what is lent
pub on_is : (image t g areas : List ℕ) (words : ℕ) {r : Checks Refusal} {t' a' : List ℕ} (post : List ℕ) → Room image t areas words
    → RunsIn image t g (take words areas) r t' a' → length a' ≡ words → Runs image t g words r t' (a' ++ post)
on_is image t g areas words {r} {t'} {a'} post f h l =
    let a = take words areas in
    let sized : length a ≡ area_words (length t) (programs_in image) = length-take-le words areas f.lie ∙ f.words_are in
    record {
      answer = h.answer ∙ same_refusal image t g a sized;
      done = λ z.
          let left = rw (same_batch image t g a sized (sym h.answer ∙ z)) at (h.done z) in
          record { table = left.table; area = take_at a' post words l ∙ left.area };
    }
