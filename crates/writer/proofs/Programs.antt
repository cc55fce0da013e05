-- Laws of lists of programs: how long they are, where they end, which of an image's pass. Assumes nothing.
use mathlib.Core.Path.{◌≡◌, refl, ap, ◌∙◌}
use mathlib.Core.Logic.{◌⊎◌, inl, inr}
use mathlib.Core.Bool.{Bool, true, false, cond}
use mathlib.Core.List.{List, [], ◌∷◌, ◌++◌, append_assoc, append-nil}
use Prim.Native.Nat.{ℕ, zero, suc, ◌+◌, ◌-◌, ◌*◌, ◌≤◌, ◌<◌}
use native.Mathlib.Omega.{arith}
use native.Mathlib.Numerals.{add-one}
use Rattle.std.proofs.lemmas.Grind.{common_steps}
use lib.ListN.{length, get_or, length-append, get_or-append}
use lib.Seq.{get_or_at}
use Rattle.base.specs.Words.{count}
use Rattle.base.specs.Masks.{has_bit}
use Rattle.base.proofs.Counts.{count_below}
use Rattle.base.proofs.Numbers.{below}
use Rattle.text.specs.declared.page.Page.{Page}
use Rattle.text.specs.Paper.{Put, Fits}
use Rattle.text.proofs.Pages.{put_more}
use Rattle.image.specs.Limits.{max_program_bytes, head_bytes}
use Rattle.image.specs.Refusals.{passed}
use Rattle.image.specs.Image.{count_of, part_of, refusal_of}
use Rattle.image.proofs.Laws.{lies, lies_short, accepted, few_programs_lem}
use Rattle.writer.specs.Joined.{number, joined, ends, offsets, image_of}
use Rattle.writer.specs.Picked.{pick, picked}
use Rattle.writer.specs.Writing.{Ended, EndRoom, Source}

-- ---- one after another

pub joined_append : (ps qs : List (List ℕ)) → joined (ps ++ qs) ≡ joined ps ++ joined qs
unfolding joined
joined_append [] qs = refl
joined_append (p ∷ ps) qs = rw (joined_append ps qs, append_assoc)

pub length_joined : (ps qs : List (List ℕ)) → length (joined (ps ++ qs)) ≡ length (joined ps) + length (joined qs)
length_joined ps qs = rw (joined_append ps qs, length-append)

pub ends_append : (start : ℕ) (ps qs : List (List ℕ)) → ends start (ps ++ qs) ≡ ends start ps ++ ends (start + length (joined ps)) qs
unfolding ends joined
ends_append start [] qs = let e : start + 0 ≡ start = omega arith in rw e
ends_append start (p ∷ ps) qs =
    let e : start + length (p ++ joined ps) ≡ start + length p + length (joined ps) = rw length-append (omega arith) in
    rw (e, ends_append (start + length p) ps qs, append_assoc)

pub length_ends : (start : ℕ) (ps : List (List ℕ)) → length (ends start ps) ≡ 2 * length ps
unfolding ends number
length_ends start [] = refl
length_ends start (p ∷ ps) = rw (length-append) (omega (arith, length_ends (start + length p) ps))

pub length_number : (x : ℕ) → length (number x) ≡ 2
unfolding number
length_number x = refl

pub joined_one : (p : List ℕ) → joined (p ∷ []) ≡ p
unfolding joined
joined_one p = append-nil p

pub joined_none : joined [] ≡ []
unfolding joined
joined_none = refl

pub length_image : (rule : ℕ) (ps : List (List ℕ)) → length (image_of rule ps) ≡ head_bytes (length ps) + length (joined ps)
unfolding image_of offsets
length_image rule ps = simp (length-append, length_number, length_ends) (omega arith)

pub ends_none : (start : ℕ) → ends start [] ≡ []
unfolding ends
ends_none start = refl

pub ends_one : (start : ℕ) (p : List ℕ) → ends start (p ∷ []) ≡ number (start + length p)
unfolding ends
ends_one start p = append-nil (number (start + length p))

-- the ends of ps and then those of qs
pub ended_both : {p q r : Page} {start next end : ℕ} {ps qs : List (List ℕ)} → Ended p start ps q next → Ended q next qs r end
    → Ended p start (ps ++ qs) r end
ended_both {start = start} {ps = ps} {qs = qs} h k = record {
  put = rw (ends_append start ps qs, ← h.end_is) (put_more h.put k.put);
  end_is = rw (length_joined ps qs) (omega (arith, h.end_is, k.end_is));
}

-- ---- the programs that pass

module _ (test : ℕ → Bool) (image : List ℕ) where
  pub picked_none : picked test image 0 ≡ []
  unfolding picked
  picked_none = refl

  pub picked_more : (k : ℕ) → picked test image (k + 1) ≡ picked test image k ++ pick test image k
  unfolding picked
  picked_more k = rw add-one

  pub pick_in : (k : ℕ) → test k ≡ true → pick test image k ≡ part_of image k ∷ []
  unfolding pick
  pick_in k e = rw e

  pub pick_out : (k : ℕ) → test k ≡ false → pick test image k ≡ []
  unfolding pick
  pick_out k e = rw e

  -- how many there are
  pub picked_count : (k : ℕ) → length (picked test image k) ≡ count test k
  unfolding picked pick count
  picked_count zero = refl
  picked_count (suc k) = rw (length-append, picked_count k) (go (test k))
    where
      go : (b : Bool) → count test k + length (cond b (part_of image k ∷ []) []) ≡ cond b 1 0 + count test k
      go true = omega arith
      go false = omega arith

  -- and where one that passes stands: as many stand before it as pass before it
  pub picked_at : (k n : ℕ) → k < n → test k ≡ true → get_or (picked test image n) (count test k) [] ≡ part_of image k
  unfolding picked
  picked_at k zero h e = absurd (omega arith)
  picked_at k (suc n) h e = go (below k n h) (picked_at k n)
    where
      go : (k ≡ n) ⊎ (k < n) → (k < n → test k ≡ true → get_or (picked test image n) (count test k) [] ≡ part_of image k)
          → get_or (picked test image n ++ pick test image n) (count test k) [] ≡ part_of image k
      go (inl q) ih = rw (← q, pick_in k e) (get_or_at (picked test image k) (part_of image k) [] [] (count test k) (picked_count k))
      go (inr q) ih =
          get_or-append (picked test image n) (pick test image n) [] (count test k) (omega (arith, count_below test n k q e, picked_count n)) ∙ ih q e

  -- what is picked among the first stands at the front
  rest_of : (k j : ℕ) → (rest : List (List ℕ)) × (picked test image (k + j) ≡ picked test image k ++ rest)
  unfolding picked
  rest_of k zero = ([], let e : k + 0 ≡ k = omega arith in rw (e, append-nil))
  rest_of k (suc j) =
      let t = rest_of k j in
      let e : k + suc j ≡ suc (k + j) = omega arith in
      (t.0 ++ pick test image (k + j), rw (e, t.1, append_assoc))

  -- of the first n, there are at least those below i and program i, if it passes
  picked_fit : {i n : ℕ} → i < n → (length (picked test image i) + length (pick test image i) ≤ length (picked test image n))
      × (length (joined (picked test image i)) + length (joined (pick test image i)) ≤ length (joined (picked test image n)))
  picked_fit {i} {n} low =
      let t = rest_of (i + 1) (n - (i + 1)) in
      let e : n ≡ i + 1 + (n - (i + 1)) = omega arith in
      let f : picked test image n ≡ picked test image i ++ pick test image i ++ t.0 =
      ap (picked test image) e ∙ t.1 ∙ rw (picked_more i) in
      rw f (simp length-append (omega arith), simp (joined_append, length-append) (omega arith))

  -- a turn of the loop that writes ends, and of the one that writes bytes
  module _ {i n : ℕ} (low : i < n) {p q : Page} where
    pub end_room : {start end : ℕ} → Ended p start (picked test image i) q end → EndRoom p start (picked test image n)
        → EndRoom q end (pick test image i)
    end_room {start} {end} h room =
        let f = picked_fit low in
        record {
          fits = record { fits = omega (arith, h.put.at, h.put.long, room.fits.fits, f.0, length_ends) };
          small = omega (arith, h.end_is, room.small, f.1);
        }

    pub body_room : Put p (joined (picked test image i)) q → Fits p (joined (picked test image n)) → Fits q (joined (pick test image i))
    body_room h room = let f = picked_fit low in record { fits = omega (arith, h.at, h.long, room.fits, f.1) }

-- a turn of a loop over programs
pub ruleset turns = (common_steps, picked_none, picked_more, joined_none, joined_append, ends_none, ends_append)

-- what a program adds, if it passes
pub ruleset taken = (common_steps, pick_in, pick_out, joined_none, joined_one, ends_none, ends_one)

-- they depend on what passes below n alone
pub picked_ext : (p q : ℕ → Bool) (image : List ℕ) (n : ℕ) → ((k : ℕ) → k < n → p k ≡ q k) → picked p image n ≡ picked q image n
unfolding picked pick
picked_ext p q image zero h = refl
picked_ext p q image (suc n) h = rw (picked_ext p q image n (λ k l. h k (omega arith)), h n (omega arith))

-- ---- a source

-- the programs of a good image, whichever the mask has
pub good_source : (image : List ℕ) → refusal_of image ≡ passed → (n : ℕ) → n ≡ count_of image → (mask : ℕ) → Source image n mask
good_source image good n e mask =
    let g = accepted image good in
    record { few = omega (arith, few_programs_lem image g.header); lies = λ k l b. lies image g.offsets k (omega arith) }

-- a program of it is no longer than a program may be

module _ {image : List ℕ} {n mask : ℕ} (s : Source image n mask) where
  pub pick_short : (k : ℕ) → k < n → length (joined (pick (has_bit mask) image k)) ≤ max_program_bytes
  unfolding pick
  pick_short k h = go (has_bit mask k) refl
    where
      go : (b : Bool) → has_bit mask k ≡ b → length (joined (cond b (part_of image k ∷ []) [])) ≤ max_program_bytes
      go true e = rw joined_one (lies_short image k (s.lies k h e))
      go false e = omega (arith, ap length joined_none)

  pub picked_short : (k : ℕ) → k ≤ n → length (joined (picked (has_bit mask) image k)) ≤ max_program_bytes * k
  unfolding picked
  picked_short zero h = omega (arith, ap length joined_none)
  picked_short (suc k) h =
      omega (arith, length_joined (picked (has_bit mask) image k) (pick (has_bit mask) image k), picked_short k (omega arith), pick_short k (omega arith))

pub ruleset sizes = (turns, pick_short, picked_short)
